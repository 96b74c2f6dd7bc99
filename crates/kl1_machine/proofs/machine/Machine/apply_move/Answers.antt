use Rattle.kl1_machine.proofs.Words.{on_ok_weaker, text_of, raises, goes}
use Rattle.kl1_goals_moves.specs.declared.moves.Move.TheVariants as move
use Rattle.kl1_machine.proofs.Ending.{as_none}
use Rattle.kl1_machine.proofs.Keeping.{grown_machine}
use Rattle.kl1_machine.proofs.Sincing.{still, since_store}
use Rattle.kl1_machine.proofs.Moving.{tried, moves_commit, moves_one, moves_unification, moves_order, moves_giving_way}
use Rattle.kl1_machine.proofs.Unifying.{same_grows, unified_bound, unified_clash}
use Rattle.kl1_machine.proofs.machine.Machine.apply_move.Goals as goal

pub unreachable-requires : goal.unreachable-requires
unreachable-requires c = c.requires.nameless c.in-Names._target c.in-Names.is

pub returns-in-Commits-clause-ok : goal.returns-in-Commits-clause-ok
returns-in-Commits-clause-ok c =
    on_ok_weaker c.commit.result (moves_commit (tried c.args.predicate c.args.made c.args.trial.now) c.in-Commits.place c.args.goal.now c.args.cell c.args.self.now c.commit.new.self c.in-Commits.is) c.commit.ensures.ok

pub returns-in-Raises-clause-ok : goal.returns-in-Raises-clause-ok
returns-in-Raises-clause-ok c =
    on_ok_weaker c.raise.result (moves_one (tried c.args.predicate c.args.made c.args.trial.now) (move.Raises c.in-Raises.kind) (λ f. raises (text_of c.in-Raises.kind)) c.args.goal.now c.args.cell c.args.self.now c.raise.new.self c.in-Raises.is (λ f k e. e)) c.raise.ensures.ok

pub returns-in-Opens-clause-ok : goal.returns-in-Opens-clause-ok
returns-in-Opens-clause-ok c =
    on_ok_weaker c.open_child.result (moves_order (tried c.args.predicate c.args.made c.args.trial.now) c.in-Opens.structure c.order_at-order.result c.args.goal.now c.args.cell c.args.self.now c.open_child.new.self c.in-Opens.is c.order_at-order.ensures.order) c.open_child.ensures.ok

pub returns-in-Goes-clause-ok : goal.returns-in-Goes-clause-ok
returns-in-Goes-clause-ok c =
    let m = c.args.self.now in
    moves_one (tried c.args.predicate c.args.made c.args.trial.now) move.Goes (λ f. goes) c.args.goal.now c.args.cell m m c.in-Goes.is (λ f k e. e) (as_none m c.requires.machine)

-- ---- two terms that are unified

pub returns-in-Bound-clause-ok : goal.returns-in-Bound-clause-ok
returns-in-Bound-clause-ok c =
    moves_unification (tried c.args.predicate c.args.made c.args.trial.now) c.in-Unifies.left c.in-Unifies.right c.args.goal.now c.args.cell c.args.self.now _ c.in-Unifies.is
    (unified_bound c.args.goal.now c.args.cell c.in-Unifies.left c.in-Unifies.right c.args.self.now c.unify.new.store c.requires.machine c.unify.ensures.hooks (rw c.in-Bound.is at c.in_ok-unify-in-Unifies.ensures.ok))

pub returns-in-Clash-clause-ok : goal.returns-in-Clash-clause-ok
returns-in-Clash-clause-ok c =
    on_ok_weaker c.raise-in-Clash.result
    (λ raised. moves_unification (tried c.args.predicate c.args.made c.args.trial.now) c.in-Unifies.left c.in-Unifies.right c.args.goal.now c.args.cell c.args.self.now c.raise-in-Clash.new.self c.in-Unifies.is
    (unified_clash c.args.goal.now c.args.cell c.in-Unifies.left c.in-Unifies.right c.args.self.now c.unify.new.store c.raise-in-Clash.new.self (rw c.in-Clash.is at c.in_ok-unify-in-Unifies.ensures.ok) raised))
    c.raise-in-Clash.ensures.ok

pub raise-requires-in-Clash-clause-machine : goal.raise-requires-in-Clash-clause-machine
raise-requires-in-Clash-clause-machine c =
    let u = rw c.in-Clash.is at c.in_ok-unify-in-Unifies.ensures.ok in
    grown_machine c.args.self.now c.unify.new.store (same_grows c.args.self.now c.unify.new.store u.1 c.unify.ensures.hooks) c.requires.machine

pub returns-in-Bound-clause-since : goal.returns-in-Bound-clause-since
returns-in-Bound-clause-since c b s = let u = rw c.in-Bound.is at c.in_ok-unify-in-Unifies.ensures.ok in since_store b c.args.self.now c.unify.new.store (record { grown = u.1; hooks = c.unify.ensures.hooks }) s

pub returns-in-Clash-clause-since : goal.returns-in-Clash-clause-since
returns-in-Clash-clause-since c b s =
    let m = c.args.self.now in
    let k = c.unify.new.store in
    let u = rw c.in-Clash.is at c.in_ok-unify-in-Unifies.ensures.ok in
    c.raise-in-Clash.ensures.since b (since_store b m k (same_grows m k u.1 c.unify.ensures.hooks) s)

pub returns-in_err-unify-in-Unifies-clause-since : goal.returns-in_err-unify-in-Unifies-clause-since
returns-in_err-unify-in-Unifies-clause-since c b s =
    let m = c.args.self.now in
    let k = c.unify.new.store in
    still c.from_residual.result b _ (since_store b m k (same_grows m k c.in_err-unify-in-Unifies.ensures.err c.unify.ensures.hooks) s)

-- ---- a substitute that gives way

pub put-requires-clause-shoen : goal.put-requires-clause-shoen
put-requires-clause-shoen c = record { low = c.requires.owned.low; high = c.requires.owned.high }

pub put-requires-clause-monitor : goal.put-requires-clause-monitor
put-requires-clause-monitor c = λ e. absurd (cc)

pub returns-in-GivesWay-clause-ok : goal.returns-in-GivesWay-clause-ok
returns-in-GivesWay-clause-ok c =
    on_ok_weaker c.put.result (moves_giving_way (tried c.args.predicate c.args.made c.args.trial.now) c.args.goal.now c.args.cell c.args.self.now c.put.new.self c.in-GivesWay.is c.requires.machine c.requires.cell c.requires.owned) c.put.ensures.ok
