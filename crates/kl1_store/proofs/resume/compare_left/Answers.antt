use Rattle.std.proofs.Common.{ℕ, ◌++◌, List, [], Bool, get_or, subst}
use Rattle.kl1_model.specs.Unify.{Equation}
use Rattle.kl1_store.specs.declared.progress.Progress.{Progress}
use Rattle.kl1_store.specs.Waiting.{waiting}
use Rattle.kl1_store.specs.Resting.{turns_of}
use Rattle.kl1_store.specs.Resumes.{LooksAs, ComesToRest}
use Rattle.kl1_store.proofs.Resuming.{no_pair, first_is, going_on, going_clashes, going_clashes_on}
use Rattle.kl1_store.proofs.resume.compare_left.Goals as goal

pub returns-then-not-branch : goal.returns-then-not-branch
returns-then-not-branch g c =
    let h = c.args.cells.now.held in
    let built = g.N.NameValue.built in
    let es : (g.row.N.Denot → List ℕ) → List Equation = λ f. turns_of f h c.args.left.now in
    let rest = c.loop-rest.rest.now in
    let p = get_or rest 0 no_pair in
    let P : Bool → Type 0 = λ b. LooksAs built h p c.clear.new.self.items c.look_at.new.frames.items c.loop-rest.course.pairs.items c.look_at.new.course.pairs.items c.look_at.new.waits.items b in
    going_clashes built h es c.loop-rest.course.pairs.items rest c.loop-rest.waits.items p c.in-len1-up.len_at_least (first_is rest c.in-len1-up.len_at_least) c.loop-rest.invariant (subst P c.if-not-branch.true c.in_ok-look_at.ensures)

pub returns-in-Clashes : goal.returns-in-Clashes
returns-in-Clashes g c =
    let h = c.args.cells.now.held in
    let built = g.N.NameValue.built in
    let es : (g.row.N.Denot → List ℕ) → List Equation = λ f. turns_of f h c.args.left.now in
    let rest = c.loop-rest.rest.now in
    let p = get_or rest 0 no_pair in
    let P : Bool → Type 0 = λ b. LooksAs built h p c.clear.new.self.items c.look_at.new.frames.items c.loop-rest.course.pairs.items c.look_at.new.course.pairs.items c.look_at.new.waits.items b in
    let Q : Progress → Type 0 = λ o. ComesToRest built h (λ f. turns_of f h c.look_at.new.course.pairs.items ++ waiting f h [] c.look_at.new.frames.items) c.go_on.new.course.pairs.items c.go_on.new.waits.items o in
    going_clashes_on built h es c.loop-rest.course.pairs.items c.look_at.new.course.pairs.items rest c.clear.new.self.items c.look_at.new.frames.items c.loop-rest.waits.items p c.in-len1-up.len_at_least (first_is rest c.in-len1-up.len_at_least) c.clear.ensures.items
    c.loop-rest.invariant (subst P c.if-not-branch.false c.in_ok-look_at.ensures).0 (subst Q c.in-Clashes.is c.in_ok-go_on.ensures)

pub loop-rest-preserved : goal.loop-rest-preserved
loop-rest-preserved g c =
    let h = c.args.cells.now.held in
    let built = g.N.NameValue.built in
    let es : (g.row.N.Denot → List ℕ) → List Equation = λ f. turns_of f h c.args.left.now in
    let rest = c.loop-rest.rest.now in
    let p = get_or rest 0 no_pair in
    let P : Bool → Type 0 = λ b. LooksAs built h p c.clear.new.self.items c.look_at.new.frames.items c.loop-rest.course.pairs.items c.look_at.new.course.pairs.items c.look_at.new.waits.items b in
    let Q : Progress → Type 0 = λ o. ComesToRest built h (λ f. turns_of f h c.look_at.new.course.pairs.items ++ waiting f h [] c.look_at.new.frames.items) c.go_on.new.course.pairs.items c.go_on.new.waits.items o in
    let went = subst Q c.in-Ends.is c.in_ok-go_on.ensures in
    going_on built h es c.loop-rest.course.pairs.items c.look_at.new.course.pairs.items c.go_on.new.course.pairs.items rest c.clear.new.self.items c.look_at.new.frames.items c.loop-rest.waits.items c.go_on.new.waits.items p c.in-len1-up.len_at_least (first_is rest c.in-len1-up.len_at_least) c.clear.ensures.items
    c.loop-rest.invariant (subst P c.if-not-branch.false c.in_ok-look_at.ensures).0 went.0 went.1
