use Rattle.std.proofs.Common.{◌≡◌, codes, rules}
use Rattle.serde_json.specs.Data.{object, member, no_members}
use Rattle.serde_json.specs.View.{view}
use Rattle.serde_json.specs.declared.value.Value.{the_lemmas}
use Rattle.serde_json.proofs.OnLiterals.{serde_json_on_literals}
use Rattle.kl1_session.specs.Replies.{told}
use Rattle.kl1_host_web.specs.Telling.{lines_data}
use Rattle.kl1_host_web.proofs.Answering.{reply_is}
use Rattle.kl1_host_web.proofs.json.told_command.Goals as goal

pub returns : goal.returns
unfolding serde_json_on_literals
returns c =
    let built : view c.in_ok-value.value ≡ object (member (codes "reply") (lines_data (told c.args.performed.now)) no_members) = search (rules, the_lemmas) in
    reply_is c.args.performed.now c.args.cookie c.in_ok-value.value c.told_value.result built c.told_value.ensures.head c.told_value.ensures.content c.told_value.ensures.text
