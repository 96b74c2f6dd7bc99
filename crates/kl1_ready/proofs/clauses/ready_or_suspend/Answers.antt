use Rattle.kl1_ready.proofs.Words.{◌≡◌, [], arith, sym, rules, vec_len, nil_from_length}
use Rattle.kl1_ready.proofs.Ready.{ready_by}
use Rattle.kl1_ready.proofs.clauses.ready_or_suspend.Goals as goal

pub returns-in_ok-hang_on-clause-ready : goal.returns-in_ok-hang_on-clause-ready
returns-in_ok-hang_on-clause-ready c =
    ready_by c.args.rules c.args.store.now.held c.hang_on.new.store.hooks c.args.kind c.args.located.predicate c.args.number c.standing_of.new.trial.awaited.items c.as_slice.result.now c.in_ok-standing.standing
    c.in_ok-standing.ensures.standing c.as_slice.ensures.value c.in_ok-hang_on.ensures.hangs

pub returns-else-not-is_empty-clause-ready : goal.returns-else-not-is_empty-clause-ready
returns-else-not-is_empty-clause-ready c =
    let len : vec_len c.standing_of.new.trial.awaited ≡ 0 = search rules in
    let none : c.standing_of.new.trial.awaited.items ≡ [] = nil_from_length c.standing_of.new.trial.awaited.items (omega (arith, len, c.standing_of.new.trial.awaited.ok.0)) in
    ready_by c.args.rules c.args.store.now.held c.args.store.now.hooks c.args.kind c.args.located.predicate c.args.number c.standing_of.new.trial.awaited.items [] c.in_ok-standing.standing
    c.in_ok-standing.ensures.standing (sym none) tt
