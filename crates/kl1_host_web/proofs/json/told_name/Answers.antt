use Rattle.std.proofs.Common.{◌≡◌, codes, rules}
use Rattle.serde_json.specs.Data.{string, object, member, no_members}
use Rattle.serde_json.specs.View.{view}
use Rattle.serde_json.specs.declared.value.Value.{the_lemmas}
use Rattle.serde_json.proofs.OnLiterals.{serde_json_on_literals}
use Rattle.kl1_host_web.specs.Telling.{shown}
use Rattle.kl1_host_web.proofs.Answering.{named_is}
use Rattle.kl1_host_web.proofs.json.told_name.Goals as goal

pub returns : goal.returns
unfolding serde_json_on_literals
returns g c =
    let name = (g.A.Accounts.house c.args.accounts.now).names c.args.account in
    let built : view c.in_ok-value.value ≡ object (member (codes "name") (string (shown name)) no_members) = search (rules, the_lemmas) in
    named_is name c.in_ok-value.value c.told_value.result built c.told_value.ensures.head c.told_value.ensures.content c.told_value.ensures.text
