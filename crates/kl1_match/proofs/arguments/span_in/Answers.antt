use Rattle.std.proofs.Common.{ap, sym, ◌∙◌, take, drop}
use Rattle.std.proofs.lemmas.List.{drop-take}
use Rattle.kl1_store.specs.Places.{all_arguments}
use Rattle.kl1_match.proofs.arguments.span_in.Goals as goal

pub returns-clause-cells : goal.returns-clause-cells
returns-clause-cells g c =
    let h = c.args.store.now.held in
    let at = c.first_argument-next.result in
    drop-take at c.look.result.count (all_arguments h)
    ∙ ap (λ n. take n (drop at (all_arguments h))) c.look.ensures.count
    ∙ sym c.first_argument-next.ensures.are
