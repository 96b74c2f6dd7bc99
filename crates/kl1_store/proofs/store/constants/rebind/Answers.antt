use Rattle.std.proofs.Common.{◌≡◌, false, subst, sym}
use Rattle.kl1_store.specs.Held.{Held, is_bound}
use Rattle.kl1_store.specs.Sound.{Grown}
use Rattle.kl1_store.specs.Levels.{AreLevels}
use Rattle.kl1_store.proofs.Constants.{Grown-binding, constant_free, levels_constant}
use Rattle.kl1_store.proofs.store.constants.rebind.Goals as goal

pub bind-requires-clause-free : goal.bind-requires-clause-free
bind-requires-clause-free g c = λ f. constant_free f c.take_back.new.cells.held c.args.variable c.args.constant c.requires.constant

pub returns-clause-levels : goal.returns-clause-levels
returns-clause-levels g c =
    let b = c.requires.bound in
    let cells = c.take_back.new.cells in
    let P : Held g.row.N.Denot → Type 0 = λ k. AreLevels k c.take_back.new.levels in
    let G : Held g.row.N.Denot → Type 0 = λ k. Grown b.before k in
    let U : Held g.row.N.Denot → Type 0 = λ k. is_bound c.args.variable k.bindings ≡ false in
    let same = c.take_back.ensures.held b.before b.marked (subst G (sym b.bound) (Grown-binding b.before c.args.variable b.constant)) in
    subst P (sym c.in-Ok.ensures.ok) (levels_constant cells.held c.args.variable c.args.constant c.take_back.new.levels (subst U (sym same) b.unbound) c.take_back.ensures.levels c.requires.constant)
