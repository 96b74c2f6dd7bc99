use Rattle.std.proofs.lemmas.Result.{IfOk-weaker}
use Rattle.kl1_model.specs.Match.{clauses_of}
use Rattle.kl1_goals_moves.proofs.Taking.{call_fails_as, call_commits_as, goal_assigns_as, goal_opens_as}
use Rattle.kl1_goals_moves.specs.Calls.{call_at}
use Rattle.kl1_goals_moves.specs.Moves.{taken_places}
use Rattle.kl1_goals_moves.proofs.moves.move_of.Goals as goal

pub returns-then-clause-eq0-clause-moves : goal.returns-then-clause-eq0-clause-moves
returns-then-clause-eq0-clause-moves g c =
    IfOk-weaker c.failing.result _ _ (λ found e. λ f r modules t k p.
    call_fails_as f c.args.store.now.held c.args.rules modules t c.args.kind c.in-Calls.call c.args.clause c.args.predicate (taken_places c.failing.new.trial) c.failing.new.trial.text found c.in-Calls.is c.if-clause-eq0.true (e f r) k p) c.failing.ensures.fails

pub returns-else-clause-eq0-clause-moves : goal.returns-else-clause-eq0-clause-moves
returns-else-clause-eq0-clause-moves g c =
    IfOk-weaker c.committing.result _ _ (λ found e. λ f r modules t k p.
    call_commits_as f c.args.store.now.held c.args.rules modules t c.args.kind c.in-Calls.call c.args.clause c.args.predicate (taken_places c.committing.new.trial) c.committing.new.trial.text found c.in-Calls.is c.if-clause-eq0.false
    (e f r (clauses_of modules (call_at f c.args.store.now.held c.in-Calls.call))) k p) c.committing.ensures.commits

pub returns-then-clause-eq0-3-clause-moves : goal.returns-then-clause-eq0-3-clause-moves
returns-then-clause-eq0-3-clause-moves g c = λ f r modules t k p.
    goal_assigns_as f c.args.store.now.held c.args.rules modules t c.args.kind c.in-Assigns.left c.in-Assigns.right c.in_ok-value-in-Assigns.value c.args.clause c.args.predicate (taken_places c.args.trial.now) c.args.trial.now.text c.assigned.result c.in-Assigns.is c.if-clause-eq0-3.true c.assigned.ensures
    (c.in_ok-value-in-Assigns.ensures.value f r) k

pub returns-then-clause-eq0-5-clause-moves : goal.returns-then-clause-eq0-5-clause-moves
returns-then-clause-eq0-5-clause-moves g c = λ f r modules t k p.
    goal_opens_as f c.args.store.now.held c.args.rules modules t c.args.kind c.in-Executes.structure c.order_at.result c.look_at_order-look.result c.args.clause c.args.predicate (taken_places c.args.trial.now) c.args.trial.now.text c.opening.result c.in-Executes.is c.if-clause-eq0-5.true c.opening.ensures
    c.order_at.ensures.order (c.look_at_order-look.ensures.look f r) k
