use Rattle.std.proofs.Common.{rules}
use Rattle.serde_json.specs.declared.value.Value.{the_lemmas}
use Rattle.kl1_host_web.proofs.Answering.{none_at, one_at}
use Rattle.kl1_host_web.proofs.pages.next_value.Goals as goal

pub returns-in-None : goal.returns-in-None
returns-in-None c = none_at c.args.views.now c.args.place _ c.in-None.ensures.lookup.3 (search (rules, the_lemmas))

pub returns-in-Ok-json : goal.returns-in-Ok-json
returns-in-Ok-json c =
    one_at c.args.views.now c.args.place c.in-Some.view.now _ c.in-Some.ensures.lookup.3.0 c.in-Some.ensures.lookup.1 (search (rules, the_lemmas))
