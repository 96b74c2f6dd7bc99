use Rattle.std.proofs.Common.{◌≡◌, codes, rules}
use Rattle.serde_json.specs.Data.{string, object, member, no_members}
use Rattle.serde_json.specs.View.{view}
use Rattle.serde_json.specs.declared.value.Value.{the_lemmas}
use Rattle.serde_json.proofs.OnLiterals.{serde_json_on_literals}
use Rattle.kl1_host_web.proofs.Refusing.{refusal_is}
use Rattle.kl1_host_web.proofs.json.refused.Goals as goal

pub returns : goal.returns
unfolding serde_json_on_literals
returns c =
    let built : view c.in_ok-value.value ≡ object (member (codes "error") (string c.words_of.result.now) no_members) = search (rules, the_lemmas) in
    refusal_is c.args.refusal c.words_of.result.now c.status_of.result c.in_ok-value.value c.told_value.result built c.words_of.ensures c.status_of.ensures c.told_value.ensures.head c.told_value.ensures.content c.told_value.ensures.text
