use Rattle.std.proofs.Common.{◌≤◌, ◌<◌, ◌++◌, ◌∷◌, List, [], Bool, true, sym, subst, ap, ◌∙◌, arith, length}
use Rattle.kl1_store.specs.declared.frame.Frame.{Frame}
use Rattle.kl1_store.specs.Compares.{ComparesAs}
use Rattle.kl1_store.specs.Resumes.{LooksAs}
use Rattle.kl1_store.proofs.Resting.{looks_on, looks_waiting, course_same, course_longer, clash_in_turn}
use Rattle.kl1_store.proofs.resume.look_at.Goals as goal

pub returns-then-not-branch : goal.returns-then-not-branch
returns-then-not-branch g c =
    let P : Bool → Type 0 = λ b. ComparesAs g.N.NameValue.built c.args.cells.now.held c.turn-left.result.left c.turn-left.result.right c.args.frames.now.items c.compare_sides.new.frames.items c.args.waits.now.items c.compare_sides.new.waits.items b in
    clash_in_turn g.N.NameValue.built c.args.cells.now.held c.args.frame c.turn-left.result.left c.turn-left.result.right c.turn-left.ensures (subst P c.if-not-branch.true c.in_ok-compare_sides.ensures.compares)

pub returns-then-len-before : goal.returns-then-len-before
returns-then-len-before g c =
    let P : Bool → Type 0 = λ b. ComparesAs g.N.NameValue.built c.args.cells.now.held c.turn-left.result.left c.turn-left.result.right c.args.frames.now.items c.compare_sides.new.frames.items c.args.waits.now.items c.compare_sides.new.waits.items b in
    let Q : List Frame → Type 0 = λ l. LooksAs g.N.NameValue.built c.args.cells.now.held c.args.frame c.args.frames.now.items c.compare_sides.new.frames.items c.args.course.now.pairs.items l c.compare_sides.new.waits.items true in
    let compared = subst P c.if-not-branch.false c.in_ok-compare_sides.ensures.compares in
    let le : length c.compare_sides.new.waits.items ≤ length c.args.waits.now.items = omega (arith, c.if-len-before.true, c.args.waits.now.ok.0, c.compare_sides.new.waits.ok.0) in
    subst Q (sym c.meet.ensures) (
      looks_on g.N.NameValue.built c.args.cells.now.held c.args.frame c.turn-left.result.left c.turn-left.result.right c.args.frames.now.items c.compare_sides.new.frames.items c.args.course.now.pairs.items c.args.waits.now.items c.compare_sides.new.waits.items c.turn-left.ensures le compared,
      course_same g.N.NameValue.built c.args.cells.now.held c.args.frame c.turn-left.result.left c.turn-left.result.right c.args.frames.now.items c.compare_sides.new.frames.items c.args.course.now.pairs.items c.args.waits.now.items c.compare_sides.new.waits.items le compared c.in_ok-compare_sides.ensures.unbound c.requires.course,
    )

pub returns : goal.returns
returns g c =
    let P : Bool → Type 0 = λ b. ComparesAs g.N.NameValue.built c.args.cells.now.held c.turn-left.result.left c.turn-left.result.right c.args.frames.now.items c.compare_sides.new.frames.items c.args.waits.now.items c.compare_sides.new.waits.items b in
    let compared = subst P c.if-not-branch.false c.in_ok-compare_sides.ensures.compares in
    let lt : length c.args.waits.now.items < length c.compare_sides.new.waits.items = omega (arith, c.if-len-before.false, c.args.waits.now.ok.0, c.compare_sides.new.waits.ok.0) in
    let pushed = c.in_ok-push.ensures.items ∙ ap (λ l. l ++ c.args.frame ∷ []) c.meet.ensures in (
      looks_waiting g.N.NameValue.built c.args.cells.now.held c.args.frame c.turn-left.result.left c.turn-left.result.right c.args.frames.now.items c.compare_sides.new.frames.items c.args.course.now.pairs.items c.push.new.self.items c.args.waits.now.items c.compare_sides.new.waits.items c.turn-left.ensures lt pushed compared,
      course_longer g.N.NameValue.built c.args.cells.now.held c.args.frame c.turn-left.result.left c.turn-left.result.right c.args.frames.now.items c.compare_sides.new.frames.items c.args.course.now.pairs.items c.push.new.self.items c.args.waits.now.items c.compare_sides.new.waits.items c.requires.each c.turn-left.ensures lt pushed compared c.in_ok-compare_sides.ensures.unbound c.requires.course,
    )
