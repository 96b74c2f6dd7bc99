use Rattle.std.proofs.Common.{sym, ap, ◌∙◌}
use Rattle.std.specs.Prelude.{is_some}
use Rattle.kl1_store.specs.Meaning.{term_of}
use Rattle.kl1_stream.specs.Askings.{asked_of}
use Rattle.kl1_stream.proofs.LettingGo.{some_map, waits_is}
use Rattle.kl1_stream.proofs.letting.waits.Goals as goal

pub returns : goal.returns
returns g c = λ f reads.
    let h = c.args.store.now.held in
    c.is_some.ensures ∙ sym (some_map (asked_of f h) c.asked.result) ∙ ap is_some (sym (c.asked.ensures.asking f reads)) ∙ waits_is (term_of f h c.args.report)
