use Rattle.std.proofs.Common.{inl, inr, subst}
use Rattle.kl1_shoen_paths.specs.declared.shoen.Shoen.{Shoen}
use Rattle.kl1_shoen.specs.Shifts.{Covers}
use Rattle.kl1_shoen.proofs.Shifting.{exhausted_alike, lent_none, lent_some}
use Rattle.kl1_shoen.proofs.tree.ShoenTree.add_charge.Goals as goal

pub returns-in_default-clause-covers : goal.returns-in_default-clause-covers
returns-in_default-clause-covers g c = λ h e. absurd (lent_none c.args.self.now.shoens c.args.was.now.place c.shoen_at.result c.shoen_at.ensures c.in_default.is h e)

pub returns-clause-covers : goal.returns-clause-covers
returns-clause-covers g c = λ h e.
    inr (subst (λ (x : Shoen g.row.N.Denot). Covers c.args.self.now x.number c.add_below.new.out.items) (lent_some c.args.self.now.shoens c.args.was.now.place c.shoen_at.result c.in-Some.shoen c.shoen_at.ensures c.in-Some.is h e) c.in_ok-add_below.ensures.covers)

pub returns-then-was_exhausted-is_exhausted-clause-covers : goal.returns-then-was_exhausted-is_exhausted-clause-covers
returns-then-was_exhausted-is_exhausted-clause-covers g c = λ h e.
    inl (exhausted_alike c.args.self.now c.args.was.now.value c.in-Some.shoen.now h
    (lent_some c.args.self.now.shoens c.args.was.now.place c.shoen_at.result c.in-Some.shoen c.shoen_at.ensures c.in-Some.is h e) c.charged.result c.charged.ensures c.if-was_exhausted-is_exhausted.true)
