use Rattle.std.proofs.Common.{◌≡◌, codes, ap₂, ◌∙◌}
use Rattle.serde_json.specs.Data.{array, object, member, no_members}
use Rattle.serde_json.specs.View.{view}
use Rattle.serde_json.proofs.OnLiterals.{serde_json_on_literals}
use Rattle.kl1_session.specs.Replies.{told}
use Rattle.kl1_host_web.specs.Telling.{lines_data}
use Rattle.kl1_host_web.proofs.Answering.{load_is}
use Rattle.kl1_host_web.proofs.json.told_load.Goals as goal

pub returns : goal.returns
unfolding serde_json_on_literals
returns c =
    let reasons = c.in_ok-reasons.ensures.0 in
    let built : view c.in_ok-value.value ≡ object (member (codes "reasons") (view c.in_ok-reasons.reasons) (member (codes "reply") (view c.in_ok-reply.reply) no_members)) = c.in_ok-value.ensures in
    let both : object (member (codes "reasons") (view c.in_ok-reasons.reasons) (member (codes "reply") (view c.in_ok-reply.reply) no_members)) ≡ object (member (codes "reasons") (array reasons) (member (codes "reply") (lines_data (told c.args.performed.now)) no_members)) =
    ap₂ (λ r l. object (member (codes "reasons") r (member (codes "reply") l no_members))) c.in_ok-reasons.ensures.1 c.in_ok-reply.ensures in
    load_is c.args.performed.now c.in_ok-value.value reasons c.told_value.result (built ∙ both) c.in_ok-reasons.ensures.2 c.told_value.ensures.head c.told_value.ensures.content c.told_value.ensures.text
