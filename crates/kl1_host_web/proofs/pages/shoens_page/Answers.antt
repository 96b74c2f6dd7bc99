use Rattle.std.proofs.Common.{◌≡◌, codes, slice_get, ap, ap₂, ◌∙◌}
use Rattle.serde_json.specs.Data.{array, object, member, no_members}
use Rattle.serde_json.specs.View.{view}
use Rattle.serde_json.proofs.OnLiterals.{serde_json_on_literals}
use Rattle.kl1_host_door.specs.declared.limits.TheConstants.{SHOENS_A_PAGE}
use Rattle.kl1_host_web.specs.Telling.{number_data}
use Rattle.kl1_host_web.proofs.Answering.{shoens_are}
use Rattle.kl1_host_web.proofs.pages.shoens_page.Goals as goal

pub returns : goal.returns
unfolding serde_json_on_literals
returns g c =
    let V = g.V.Viewer in
    let views = c.in_ok-views.views.items in
    let shoens = c.in_ok-shoens.ensures.0 in
    let built : view c.in_ok-value.value ≡ object (member (codes "next") (view c.in_ok-next.next) (member (codes "shoens") (view c.in_ok-shoens.shoens) no_members)) = c.in_ok-value.ensures in
    let next : view c.in_ok-next.next ≡ number_data (slice_get views SHOENS_A_PAGE) = c.in_ok-next.ensures ∙ ap (λ l. number_data (slice_get l SHOENS_A_PAGE)) c.as_slice.ensures.value in
    let both : object (member (codes "next") (view c.in_ok-next.next) (member (codes "shoens") (view c.in_ok-shoens.shoens) no_members)) ≡ object (member (codes "next") (number_data (slice_get views SHOENS_A_PAGE)) (member (codes "shoens") (array shoens) no_members)) =
    ap₂ (λ n s. object (member (codes "next") n (member (codes "shoens") s no_members))) next c.in_ok-shoens.ensures.1 in
    shoens_are (V.lists (V.account c.args.viewer.now)) c.args.from views shoens c.in_ok-value.value c.told_value.result c.in_ok-views.ensures (built ∙ both) c.in_ok-shoens.ensures.2 c.told_value.ensures.head c.told_value.ensures.content c.told_value.ensures.text
