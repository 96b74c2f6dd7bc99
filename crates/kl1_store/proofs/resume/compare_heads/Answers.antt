use Rattle.std.proofs.Common.{◌≡◌, ◌||◌, ◌++◌, [], Bool, false, sym, subst, ap, ◌∙◌, arith}
use Rattle.std.proofs.lemmas.List.{nil_from_length}
use Rattle.std.proofs.lemmas.Bool.{eqb-true}
use Rattle.std.proofs.lemmas.Result.{IfOk-weaker}
use Rattle.kl1_store.specs.declared.cell.Cell.TheVariants.{Structure}
use Rattle.kl1_store.specs.Waiting.{waiting}
use Rattle.kl1_store.specs.Compares.{ComparesAs}
use Rattle.kl1_store.specs.Resting.{turns_of, heads_of}
use Rattle.kl1_store.specs.Resumes.{ComesToRest}
use Rattle.kl1_store.proofs.Resuming.{course_begins, heads_begin, comes_by}
use Rattle.kl1_store.proofs.resume.compare_heads.Goals as goal

pub returns-then-not-branch : goal.returns-then-not-branch
returns-then-not-branch g c =
    let P : Bool → Type 0 = λ b. ComparesAs g.N.NameValue.built c.args.cells.now.held (Structure c.args.left) (Structure c.args.right) c.clear.new.self.items c.compare_sides.new.frames.items c.args.waits.now.items c.compare_sides.new.waits.items b in
    λ f reads. ap (λ b. b || false) (subst P c.if-not-branch.true c.in_ok-compare_sides.ensures.compares f reads)

pub go_on-requires-clause-pairs : goal.go_on-requires-clause-pairs
go_on-requires-clause-pairs g c =
    let P : Bool → Type 0 = λ b. ComparesAs g.N.NameValue.built c.args.cells.now.held (Structure c.args.left) (Structure c.args.right) c.clear.new.self.items c.compare_sides.new.frames.items c.args.waits.now.items c.compare_sides.new.waits.items b in
    (subst P c.if-not-branch.false c.in_ok-compare_sides.ensures.compares).pairs

pub go_on-requires-clause-course : goal.go_on-requires-clause-course
go_on-requires-clause-course g c =
    let w = c.compare_sides.new.waits in
    let none : w.items ≡ [] = nil_from_length w.items (omega (arith, w.ok.0, eqb-true w.len 0 (sym c.is_empty.ensures ∙ c.if-is_empty.true))) in
    course_begins g.N.NameValue.built c.args.cells.now.held c.args.course.now.pairs.items w.items c.requires.each none

pub returns-then-is_empty : goal.returns-then-is_empty
returns-then-is_empty g c =
    let P : Bool → Type 0 = λ b. ComparesAs g.N.NameValue.built c.args.cells.now.held (Structure c.args.left) (Structure c.args.right) c.clear.new.self.items c.compare_sides.new.frames.items c.args.waits.now.items c.compare_sides.new.waits.items b in
    let w = c.compare_sides.new.waits in
    let none : w.items ≡ [] = nil_from_length w.items (omega (arith, w.ok.0, eqb-true w.len 0 (sym c.is_empty.ensures ∙ c.if-is_empty.true))) in
    let h = c.args.cells.now.held in
    let built = g.N.NameValue.built in
    let left = c.args.course.now.pairs.items in
    let now = c.compare_sides.new.frames.items in
    let compared = subst P c.if-not-branch.false c.in_ok-compare_sides.ensures.compares in
    IfOk-weaker c.go_on.result (ComesToRest built h (λ f. turns_of f h left ++ waiting f h [] now) c.go_on.new.course.pairs.items c.go_on.new.waits.items) (ComesToRest built h (λ f. heads_of c.args.left c.args.right f h) c.go_on.new.course.pairs.items c.go_on.new.waits.items)
    (λ p a. comes_by built h (λ f. heads_of c.args.left c.args.right f h) (λ f. turns_of f h left ++ waiting f h [] now) c.go_on.new.course.pairs.items c.go_on.new.waits.items p
    (heads_begin built h c.args.left c.args.right left c.clear.new.self.items now c.args.waits.now.items w.items c.mark.ensures.formed c.requires.each c.clear.ensures.items none compared) a) c.go_on.ensures
