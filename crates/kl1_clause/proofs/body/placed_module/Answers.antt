use Rattle.std.proofs.Common.{ℕ, List, subst, sym}
use Rattle.std.specs.Prelude.{Option, Some, None}
use Rattle.kl1_clause.specs.Bodies.{PutsModule}
use Rattle.kl1_clause.proofs.Bodies.{no_module, one_module}
use Rattle.kl1_clause.proofs.body.placed_module.Goals as goal

pub returns-in-None : goal.returns-in-None
returns-in-None c = subst (λ (t : Option (List ℕ)). PutsModule c.args.names.now c.args.names.now t None) (sym c.in-None.is) (no_module c.args.names.now)

pub returns-in_ok-name-in-Some : goal.returns-in_ok-name-in-Some
returns-in_ok-name-in-Some c =
    let e = c.in_ok-name-in-Some.ensures in
    subst (λ (t : Option (List ℕ)). PutsModule c.args.names.now c.placed.new.self t (Some c.in_ok-name-in-Some.name)) (sym c.in-Some.is)
    (one_module c.args.names.now c.placed.new.self c.in-Some.text c.in_ok-name-in-Some.name e.names e.placed e.text)
