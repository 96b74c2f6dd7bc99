use Rattle.std.proofs.Common.{subst}
use Rattle.std.proofs.lemmas.Bool.{false≢true}
use Rattle.kl1_store.specs.declared.progress.Progress.{Progress}
use Rattle.kl1_store.specs.Resting.{heads_of}
use Rattle.kl1_store.specs.Resumes.{ComesToRest}
use Rattle.kl1_store.proofs.Resting.{alike_by_left, clash_by_heads}
use Rattle.kl1_store.proofs.remembering.compare_anew.Goals as goal

pub returns-in-Ends-clause-remembered : goal.returns-in-Ends-clause-remembered
returns-in-Ends-clause-remembered g c =
    let h = c.args.cells.now.held in
    let built = g.N.NameValue.built in
    let P : Progress → Type 0 = λ p. ComesToRest built h (λ f. heads_of c.args.left c.args.right f h) c.resume.new.course.pairs.items c.resume.new.waits.items p in
    let r = subst P c.in-Ends.is c.in_ok-progress.ensures in
    let pairs = c.resume.new.course.pairs.items in
    (alike_by_left built h c.args.left c.args.right pairs c.resume.new.waits.items r.0 r.1, λ e. record { left = c.requires.left_in; right = c.requires.right_in; each = r.0.each; stand = r.1 })

pub returns-in-Clashes-clause-remembered : goal.returns-in-Clashes-clause-remembered
returns-in-Clashes-clause-remembered g c =
    let h = c.args.cells.now.held in
    let built = g.N.NameValue.built in
    let P : Progress → Type 0 = λ p. ComesToRest built h (λ f. heads_of c.args.left c.args.right f h) c.resume.new.course.pairs.items c.resume.new.waits.items p in
    ((c.clear.ensures.items, clash_by_heads built h c.args.left c.args.right (subst P c.in-Clashes.is c.in_ok-progress.ensures)), λ e. absurd (false≢true e))

pub returns-in_ok-alike-in-Tires-clause-remembered : goal.returns-in_ok-alike-in-Tires-clause-remembered
returns-in_ok-alike-in-Tires-clause-remembered g c = (c.in_ok-alike-in-Tires.ensures, λ e. absurd (false≢true e))
