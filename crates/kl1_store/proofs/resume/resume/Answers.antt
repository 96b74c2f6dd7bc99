use Rattle.std.proofs.Common.{ℕ, List, sym, subst}
use Rattle.std.proofs.lemmas.Result.{IfOk-weaker}
use Rattle.kl1_model.specs.Unify.{Equation}
use Rattle.kl1_store.specs.declared.frame.Frame.{Frame}
use Rattle.kl1_store.specs.Resting.{StandFor, turns_of, heads_of}
use Rattle.kl1_store.specs.Resumes.{ComesToRest}
use Rattle.kl1_store.proofs.Resuming.{comes_by}
use Rattle.kl1_store.proofs.resume.resume.Goals as goal

pub returns-in-Some : goal.returns-in-Some
returns-in-Some g c =
    let h = c.args.cells.now.held in
    let built = g.N.NameValue.built in
    let heads : (g.row.N.Denot → List ℕ) → List Equation = λ f. heads_of c.args.left c.args.right f h in
    let slice = c.as_slice.result.now in
    IfOk-weaker c.compare_left.result (ComesToRest built h (λ f. turns_of f h slice) c.compare_left.new.course.pairs.items c.compare_left.new.waits.items) (ComesToRest built h heads c.compare_left.new.course.pairs.items c.compare_left.new.waits.items)
    (λ p a. comes_by built h heads (λ f. turns_of f h slice) c.compare_left.new.course.pairs.items c.compare_left.new.waits.items p (λ f reads.
    let P : List Frame → Type 0 = λ l. StandFor (heads_of c.args.left c.args.right f h) (turns_of f h l) in
    subst P (sym c.as_slice.ensures.value) (c.in-Some.ensures.stand f reads)) a) c.compare_left.ensures
