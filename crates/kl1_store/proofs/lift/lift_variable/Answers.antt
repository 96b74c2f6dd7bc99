use Rattle.std.proofs.Common.{refl, sym, ◌∙◌, arith}
use Rattle.std.proofs.lemmas.Bool.{false≢true}
use Rattle.kl1_store.proofs.Lifting.{unbound_lifted, bound_lifted}
use Rattle.kl1_store.proofs.lift.lift_variable.Goals as goal

pub returns-then-is_variable : goal.returns-then-is_variable
returns-then-is_variable g c =
    unbound_lifted c.args.cells.now.held c.args.variable c.args.level c.args.levels.now (record { variables = c.set_level.new.levels; structures = c.args.levels.now.structures }) c.args.tasks.now.items c.requires.formed
    (omega (arith, c.level_of.ensures, c.if-level_of-level.false)) c.in_ok-set_level.ensures refl c.requires.tasks
    (sym c.slot-next.ensures.found ∙ c.is_variable.ensures.0 c.if-is_variable.true)

pub returns : goal.returns
returns g c =
    bound_lifted c.args.cells.now.held c.args.variable c.args.level c.slot-next.result c.args.levels.now (record { variables = c.set_level.new.levels; structures = c.args.levels.now.structures }) c.args.tasks.now.items c.push.new.self.items c.requires.formed c.requires.inside
    (omega (arith, c.level_of.ensures, c.if-level_of-level.false)) c.in_ok-set_level.ensures refl c.requires.tasks
    c.slot-next.ensures.found (λ e. absurd (false≢true (sym c.if-is_variable.false ∙ c.is_variable.ensures.1 e))) c.in_ok-push.ensures.items
