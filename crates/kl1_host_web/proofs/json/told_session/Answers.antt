use Rattle.std.proofs.Common.{◌≡◌, codes, ap, ap₂, ◌∙◌}
use Rattle.serde_json.specs.Data.{string, object, member, no_members}
use Rattle.serde_json.specs.View.{view}
use Rattle.serde_json.proofs.OnLiterals.{serde_json_on_literals}
use Rattle.kl1_host_web.specs.Telling.{shown}
use Rattle.kl1_host_web.proofs.Answering.{welcome_is}
use Rattle.kl1_host_web.proofs.json.told_session.Goals as goal

pub returns : goal.returns
unfolding serde_json_on_literals
returns g c =
    let session = c.args.session.now in
    let names = (g.A.Accounts.house c.args.accounts.now).names in
    let built : view c.in_ok-value.value ≡ object (member (codes "name") (view c.in_ok-name.name) (member (codes "token") (view c.in_ok-token.token) no_members)) = c.in_ok-value.ensures in
    let both : object (member (codes "name") (view c.in_ok-name.name) (member (codes "token") (view c.in_ok-token.token) no_members)) ≡ object (member (codes "name") (string (shown (names session.account))) (member (codes "token") (string (shown session.token)) no_members)) =
    ap₂ (λ n t. object (member (codes "name") n (member (codes "token") t no_members))) c.in_ok-name.ensures (c.in_ok-token.ensures ∙ ap (λ t. string (shown t)) c.as_slice.ensures) in
    welcome_is names session c.in_ok-value.value c.told_value.result (built ∙ both) c.told_value.ensures.head c.told_value.ensures.content c.told_value.ensures.text
