use Rattle.std.proofs.Common.{Bool, sym, subst}
use Rattle.kl1_store.specs.declared.next.Next.{Next}
use Rattle.kl1_store.specs.Held.{Held}
use Rattle.kl1_store.specs.Nested.{IsNested, ExpectsNext}
use Rattle.kl1_store.specs.Merged.{AreMerged}
use Rattle.kl1_store.specs.Unifies.{ComesTo, BindsAs}
use Rattle.kl1_store.proofs.Equalling.{nested_bound, merged_bound}
use Rattle.kl1_store.proofs.Settling.{NextBinding, settling_start, settling_on, settling_stops, settling_ends, settling_fails}
use Rattle.kl1_store.proofs.Rooms.{spends_none, spends_trans}
use Rattle.kl1_store.proofs.settle.settle.Goals as goal

pub loop-variable-init : goal.loop-variable-init
loop-variable-init g c = record { nested = c.requires.nested; merged = c.requires.merged; settling = settling_start g.N.NameValue.built c.args.cells.now.held c.args.frames.now.items c.requires.pairs; levels = c.requires.levels; spends = spends_none c.args.cells.now.held c.args.cells.now.room }

pub returns-in-Finished-clause-settled : goal.returns-in-Finished-clause-settled
returns-in-Finished-clause-settled g c =
    let P : Next g.row.N.Denot → Type 0 = λ n. ComesTo g.N.NameValue.built c.loop-variable.cells.held c.loop-variable.frames.items c.advance.new.frames.items n in
    let to = subst P c.in-Finished.is c.in_ok-advance.ensures.next in
    settling_ends g.N.NameValue.built c.args.cells.now.held c.loop-variable.cells.held c.args.frames.now.items c.loop-variable.frames.items c.loop-variable.invariant.settling to

pub returns-in-Never-clause-settled : goal.returns-in-Never-clause-settled
returns-in-Never-clause-settled g c =
    let P : Next g.row.N.Denot → Type 0 = λ n. ComesTo g.N.NameValue.built c.loop-variable.cells.held c.loop-variable.frames.items c.advance.new.frames.items n in
    let to = subst P c.in-Never.is c.in_ok-advance.ensures.next in
    settling_fails g.N.NameValue.built c.args.cells.now.held c.loop-variable.cells.held c.args.frames.now.items c.loop-variable.frames.items c.loop-variable.invariant.settling to

pub returns-then-not-branch-clause-settled : goal.returns-then-not-branch-clause-settled
returns-then-not-branch-clause-settled g c =
    let P : Next g.row.N.Denot → Type 0 = λ n. ComesTo g.N.NameValue.built c.loop-variable.cells.held c.loop-variable.frames.items c.advance.new.frames.items n in
    let to = subst P c.in-Binds.is c.in_ok-advance.ensures.next in
    let next : NextBinding g.N.NameValue.built c.loop-variable.cells.held c.loop-variable.frames.items c.advance.new.frames.items c.in-Binds.variable c.in-Binds.value = record { can = to.0; pairs = to.1; next = to.2 } in
    let Q : Bool → Type 0 = λ b. BindsAs c.loop-variable.cells.held c.bind_new.new.cells.held c.in-Binds.variable c.in-Binds.value b in
    settling_stops g.N.NameValue.built c.args.cells.now.held c.loop-variable.cells.held c.bind_new.new.cells.held c.args.frames.now.items c.loop-variable.frames.items c.advance.new.frames.items c.in-Binds.variable c.in-Binds.value c.loop-variable.invariant.settling next (subst Q c.if-not-branch.true c.in_ok-bind_new-in-Binds.ensures.ok)

pub loop-variable-smaller : goal.loop-variable-smaller
loop-variable-smaller g c =
    let P : Next g.row.N.Denot → Type 0 = λ n. ComesTo g.N.NameValue.built c.loop-variable.cells.held c.loop-variable.frames.items c.advance.new.frames.items n in
    let to = subst P c.in-Binds.is c.in_ok-advance.ensures.next in
    let next : NextBinding g.N.NameValue.built c.loop-variable.cells.held c.loop-variable.frames.items c.advance.new.frames.items c.in-Binds.variable c.in-Binds.value = record { can = to.0; pairs = to.1; next = to.2 } in
    let Q : Bool → Type 0 = λ b. BindsAs c.loop-variable.cells.held c.bind_new.new.cells.held c.in-Binds.variable c.in-Binds.value b in
    (settling_on g.N.NameValue.built c.args.cells.now.held c.loop-variable.cells.held c.bind_new.new.cells.held c.args.frames.now.items c.loop-variable.frames.items c.advance.new.frames.items c.in-Binds.variable c.in-Binds.value c.loop-variable.invariant.settling next (subst Q c.if-not-branch.false c.in_ok-bind_new-in-Binds.ensures.ok)).1

pub loop-variable-preserved : goal.loop-variable-preserved
loop-variable-preserved g c =
    let P : Next g.row.N.Denot → Type 0 = λ n. ComesTo g.N.NameValue.built c.loop-variable.cells.held c.loop-variable.frames.items c.advance.new.frames.items n in
    let to = subst P c.in-Binds.is c.in_ok-advance.ensures.next in
    let next : NextBinding g.N.NameValue.built c.loop-variable.cells.held c.loop-variable.frames.items c.advance.new.frames.items c.in-Binds.variable c.in-Binds.value = record { can = to.0; pairs = to.1; next = to.2 } in
    let Q : Bool → Type 0 = λ b. BindsAs c.loop-variable.cells.held c.bind_new.new.cells.held c.in-Binds.variable c.in-Binds.value b in
    let N : Held g.row.N.Denot → Type 0 = λ h. IsNested h c.advance.new.frames.items in
    let M : Held g.row.N.Denot → Type 0 = λ h. AreMerged h c.advance.new.merges in
    let E : Next g.row.N.Denot → Type 0 = λ n. ExpectsNext c.loop-variable.cells.held c.advance.new.frames.items n in
    let bound = subst Q c.if-not-branch.false c.in_ok-bind_new-in-Binds.ensures.ok in
    let h = c.loop-variable.cells.held in
    record { nested = subst N (sym bound.0) (nested_bound h c.in-Binds.variable c.in-Binds.value c.advance.new.frames.items (subst E c.in-Binds.is c.in_ok-advance.ensures.expects) to.0.unbound bound.1); merged = subst M (sym bound.0) (merged_bound h c.in-Binds.variable c.in-Binds.value c.advance.new.merges c.in_ok-advance.ensures.merged); settling = (settling_on g.N.NameValue.built c.args.cells.now.held c.loop-variable.cells.held c.bind_new.new.cells.held c.args.frames.now.items c.loop-variable.frames.items c.advance.new.frames.items c.in-Binds.variable c.in-Binds.value c.loop-variable.invariant.settling next (subst Q c.if-not-branch.false c.in_ok-bind_new-in-Binds.ensures.ok)).0; levels = c.in_ok-bind_new-in-Binds.ensures.levels; spends = spends_trans c.args.cells.now.held c.args.cells.now.room c.loop-variable.cells.held c.loop-variable.cells.room c.bind_new.new.cells.held c.bind_new.new.cells.room c.loop-variable.invariant.spends c.in_ok-bind_new-in-Binds.ensures.spends }

pub returns-then-not-branch-clause-spends : goal.returns-then-not-branch-clause-spends
returns-then-not-branch-clause-spends g c = spends_trans c.args.cells.now.held c.args.cells.now.room c.loop-variable.cells.held c.loop-variable.cells.room c.bind_new.new.cells.held c.bind_new.new.cells.room c.loop-variable.invariant.spends c.in_ok-bind_new-in-Binds.ensures.spends
