use Rattle.std.proofs.Common.{[], ◌∷◌, ◌++◌, ap, ◌∙◌}
use Rattle.kl1_goals_moves.specs.declared.look.Look.TheVariants as look
use Rattle.kl1_goals_moves.specs.declared.spelling.Spelling.TheVariants as spelling
use Rattle.kl1_goals_moves.proofs.Taking.{are_clauses}
use Rattle.kl1_goals_moves.proofs.Standings.{kind_executes, kind_spells, kind_stands}
use Rattle.kl1_goals_moves.proofs.standing.standing_of.Goals as goal

pub choose-requires-clause-clauses : goal.choose-requires-clause-clauses
choose-requires-clause-clauses g c = are_clauses c.args.predicate.names.now c.args.predicate.clauses.now c.requires.predicate

pub returns-in_ok-clause-in-Calls-clause-standing : goal.returns-in_ok-clause-in-Calls-clause-standing
returns-in_ok-clause-in-Calls-clause-standing g c = λ f r modules t k p.
    kind_stands g.N.NameValue.built f c.args.store.now.held c.args.rules modules t c.args.kind c.in-Calls.call c.cell.result c.args.predicate c.clear.new.self.items c.choose.new.awaited.items c.in_ok-clause-in-Calls.clause c.args.place c.called.result r
    c.in-Calls.is c.cell.ensures c.clear.ensures.items c.in_ok-clause-in-Calls.ensures.choice k p c.called.ensures

pub returns-in-Spelled-clause-standing : goal.returns-in-Spelled-clause-standing
returns-in-Spelled-clause-standing g c = λ f r modules t k p.
    kind_spells f c.args.store.now.held c.args.rules modules t c.args.kind c.in-Spells.codes c.in-Spells.field-1 spelling.Spelled c.spell.new.text c.clear.new.self.items c.in-Spells.is (c.in-Spelled.ensures.spelling f r) c.clear.ensures.items k

pub returns-in-Right-clause-standing : goal.returns-in-Right-clause-standing
returns-in-Right-clause-standing g c = λ f r modules t k p.
    kind_executes f c.args.store.now.held c.args.rules modules t c.args.kind c.in-Executes.structure c.order_at.result look.Right c.clear.new.self.items c.in-Executes.is c.order_at.ensures.order (c.in-Right.ensures.look f r) c.clear.ensures.items k

pub returns-in-Wrong-clause-standing : goal.returns-in-Wrong-clause-standing
returns-in-Wrong-clause-standing g c = λ f r modules t k p.
    kind_executes f c.args.store.now.held c.args.rules modules t c.args.kind c.in-Executes.structure c.order_at.result look.Wrong c.clear.new.self.items c.in-Executes.is c.order_at.ensures.order (c.in-Wrong.ensures.look f r) c.clear.ensures.items k

pub returns-in_ok-push-in-Waits-look_at_order-clause-standing : goal.returns-in_ok-push-in-Waits-look_at_order-clause-standing
returns-in_ok-push-in-Waits-look_at_order-clause-standing g c = λ f r modules t k p.
    let argument = c.in-Waits-look_at_order.argument in
    kind_executes f c.args.store.now.held c.args.rules modules t c.args.kind c.in-Executes.structure c.order_at.result (look.Waits argument) c.push-in-Waits-look_at_order.new.self.items c.in-Executes.is c.order_at.ensures.order (c.in-Waits-look_at_order.ensures.look f r)
    (c.in_ok-push-in-Waits-look_at_order.ensures.items ∙ ap (λ l. l ++ argument ∷ []) c.clear.ensures.items) k
