use Rattle.kl1_machine.proofs.Words.{◌≡◌, true, false, sym, ap, ◌∙◌, Option, Some, has_forgetting, CellName, Cell, Atom}
use Rattle.kl1_machine.proofs.machine.Machine.left.Goals as goal

pub returns-then-not-has_forgetting : goal.returns-then-not-has_forgetting
returns-then-not-has_forgetting c =
    let so : has_forgetting c.args.self.now.rules ≡ false = sym c.has_forgetting.ensures ∙ c.if-not-has_forgetting.true in
    rw so

pub returns : goal.returns
returns c =
    let so : has_forgetting c.args.self.now.rules ≡ true = sym c.has_forgetting.ensures ∙ c.if-not-has_forgetting.false in
    rw so (ap (λ (a : CellName). let z : Option (Cell CellName) = Some (Atom a) in z) c.of.ensures)
