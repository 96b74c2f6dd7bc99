use Rattle.std.proofs.Common.{◌≡◌, codes, rules}
use Rattle.serde_json.specs.Data.{string, array, object, no_items, item, member, no_members}
use Rattle.serde_json.specs.View.{view}
use Rattle.serde_json.specs.declared.value.Value.{the_lemmas}
use Rattle.serde_json.proofs.OnLiterals.{serde_json_on_literals}
use Rattle.kl1_host_web.proofs.Answering.{syntax_is}
use Rattle.kl1_host_web.proofs.json.told_syntax.Goals as goal

pub returns : goal.returns
unfolding serde_json_on_literals
returns c =
    let built : view c.in_ok-value.value ≡ object (member (codes "reply") (array (item (string (codes "- 1 syntax")) no_items)) no_members) = search (rules, the_lemmas) in
    syntax_is c.in_ok-value.value c.told_value.result built c.told_value.ensures.head c.told_value.ensures.content c.told_value.ensures.text
