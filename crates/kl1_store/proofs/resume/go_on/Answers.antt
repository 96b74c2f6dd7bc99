use Rattle.std.proofs.Common.{◌≡◌, ◌++◌, [], Bool, subst, arith}
use Rattle.std.proofs.lemmas.List.{nil_from_length}
use Rattle.kl1_store.specs.Waiting.{waiting}
use Rattle.kl1_store.specs.Resting.{turns_of}
use Rattle.kl1_store.specs.Resumes.{LooksAs}
use Rattle.kl1_store.proofs.Advancing.{onward_pushed}
use Rattle.kl1_store.proofs.Standing.{stand_same}
use Rattle.kl1_store.proofs.Resuming.{popped_open, way_closes, way_looks, way_clashes, way_ends}
use Rattle.kl1_store.proofs.resume.go_on.Goals as goal

pub loop-frame-init : goal.loop-frame-init
loop-frame-init g c = record { pairs = c.requires.pairs; course = c.requires.course; stand = λ f reads. stand_same (turns_of f c.args.cells.now.held c.args.course.now.pairs.items ++ waiting f c.args.cells.now.held [] c.args.frames.now.items) }

pub loop-frame-preserved-then-frame : goal.loop-frame-preserved-then-frame
loop-frame-preserved-then-frame g c =
    (way_closes g.N.NameValue.built c.args.cells.now.held (λ f. turns_of f c.args.cells.now.held c.args.course.now.pairs.items ++ waiting f c.args.cells.now.held [] c.args.frames.now.items) c.loop-frame.course.pairs.items c.close.new.self.pairs.items c.loop-frame.frames.items c.pop.new.self.items c.loop-frame.waits.items c.in-Some.frame c.loop-frame.invariant c.in-Some.ensures.items c.if-frame.true c.close.ensures).0

pub loop-frame-smaller-then-frame : goal.loop-frame-smaller-then-frame
loop-frame-smaller-then-frame g c =
    (way_closes g.N.NameValue.built c.args.cells.now.held (λ f. turns_of f c.args.cells.now.held c.args.course.now.pairs.items ++ waiting f c.args.cells.now.held [] c.args.frames.now.items) c.loop-frame.course.pairs.items c.close.new.self.pairs.items c.loop-frame.frames.items c.pop.new.self.items c.loop-frame.waits.items c.in-Some.frame c.loop-frame.invariant c.in-Some.ensures.items c.if-frame.true c.close.ensures).1

pub look_at-requires-clause-each : goal.look_at-requires-clause-each
look_at-requires-clause-each g c = popped_open c.args.cells.now.held c.loop-frame.frames.items c.pop.new.self.items c.in-Some.frame c.loop-frame.invariant.pairs c.in-Some.ensures.items c.if-frame.false

pub look_at-requires-clause-pairs : goal.look_at-requires-clause-pairs
look_at-requires-clause-pairs g c =
    onward_pushed c.args.cells.now.held c.loop-frame.frames.items c.pop.new.self.items c.push.new.self.items c.in-Some.frame c.onward.result c.loop-frame.invariant.pairs c.in-Some.ensures.items c.in_ok-push.ensures.items c.onward.ensures c.if-frame.false

pub look_at-requires-clause-course : goal.look_at-requires-clause-course
look_at-requires-clause-course g c = c.loop-frame.invariant.course

pub returns-then-not-branch : goal.returns-then-not-branch
returns-then-not-branch g c =
    let P : Bool → Type 0 = λ b. LooksAs g.N.NameValue.built c.args.cells.now.held c.in-Some.frame c.push.new.self.items c.look_at.new.frames.items c.loop-frame.course.pairs.items c.look_at.new.course.pairs.items c.look_at.new.waits.items b in
    way_clashes g.N.NameValue.built c.args.cells.now.held (λ f. turns_of f c.args.cells.now.held c.args.course.now.pairs.items ++ waiting f c.args.cells.now.held [] c.args.frames.now.items) c.loop-frame.course.pairs.items c.loop-frame.frames.items c.pop.new.self.items c.push.new.self.items c.loop-frame.waits.items c.in-Some.frame c.onward.result c.loop-frame.invariant
    c.in-Some.ensures.items c.in_ok-push.ensures.items c.onward.ensures c.if-frame.false (subst P c.if-not-branch.true c.in_ok-look_at.ensures)

pub loop-frame-preserved : goal.loop-frame-preserved
loop-frame-preserved g c =
    let P : Bool → Type 0 = λ b. LooksAs g.N.NameValue.built c.args.cells.now.held c.in-Some.frame c.push.new.self.items c.look_at.new.frames.items c.loop-frame.course.pairs.items c.look_at.new.course.pairs.items c.look_at.new.waits.items b in
    (way_looks g.N.NameValue.built c.args.cells.now.held (λ f. turns_of f c.args.cells.now.held c.args.course.now.pairs.items ++ waiting f c.args.cells.now.held [] c.args.frames.now.items) c.loop-frame.course.pairs.items c.look_at.new.course.pairs.items c.loop-frame.frames.items c.pop.new.self.items c.push.new.self.items c.look_at.new.frames.items c.loop-frame.waits.items c.look_at.new.waits.items c.in-Some.frame c.onward.result c.loop-frame.invariant
    c.in-Some.ensures.items c.in_ok-push.ensures.items c.onward.ensures c.if-frame.false (subst P c.if-not-branch.false c.in_ok-look_at.ensures).0 (subst P c.if-not-branch.false c.in_ok-look_at.ensures).1).0

pub loop-frame-smaller : goal.loop-frame-smaller
loop-frame-smaller g c =
    let P : Bool → Type 0 = λ b. LooksAs g.N.NameValue.built c.args.cells.now.held c.in-Some.frame c.push.new.self.items c.look_at.new.frames.items c.loop-frame.course.pairs.items c.look_at.new.course.pairs.items c.look_at.new.waits.items b in
    (way_looks g.N.NameValue.built c.args.cells.now.held (λ f. turns_of f c.args.cells.now.held c.args.course.now.pairs.items ++ waiting f c.args.cells.now.held [] c.args.frames.now.items) c.loop-frame.course.pairs.items c.look_at.new.course.pairs.items c.loop-frame.frames.items c.pop.new.self.items c.push.new.self.items c.look_at.new.frames.items c.loop-frame.waits.items c.look_at.new.waits.items c.in-Some.frame c.onward.result c.loop-frame.invariant
    c.in-Some.ensures.items c.in_ok-push.ensures.items c.onward.ensures c.if-frame.false (subst P c.if-not-branch.false c.in_ok-look_at.ensures).0 (subst P c.if-not-branch.false c.in_ok-look_at.ensures).1).1

pub returns : goal.returns
returns g c =
    let e : c.loop-frame.frames.items ≡ [] = nil_from_length c.loop-frame.frames.items (omega (arith, c.loop-frame.frames.ok.0, c.in_default.ensures.cases.0)) in
    (c.loop-frame.invariant.course, way_ends g.N.NameValue.built c.args.cells.now.held (λ f. turns_of f c.args.cells.now.held c.args.course.now.pairs.items ++ waiting f c.args.cells.now.held [] c.args.frames.now.items) c.loop-frame.course.pairs.items c.loop-frame.frames.items c.loop-frame.waits.items c.loop-frame.invariant e)
