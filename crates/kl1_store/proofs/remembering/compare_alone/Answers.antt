use Rattle.std.proofs.Common.{Bool, subst}
use Rattle.kl1_store.specs.Compares.{ComparedAs}
use Rattle.kl1_store.proofs.Recalling.{alike_alone}
use Rattle.kl1_store.proofs.remembering.compare_alone.Goals as goal

pub returns : goal.returns
returns g c =
    let P : Bool → Type 0 = λ b. ComparedAs g.N.NameValue.built c.args.cells.now.held c.args.left c.args.right c.clear.new.self.items c.compare.new.waits.items b in
    alike_alone g.N.NameValue.built c.args.cells.now.held c.args.left c.args.right c.clear.new.self.items c.compare.new.waits.items c.clear.ensures.items c.in_ok-compare.ensures.unbound (subst P c.if-not-branch.false c.in_ok-compare.ensures.compared)
