use Rattle.kl1_ready.proofs.Words.{◌≡◌, [], arith, sym, rules, subst, vec_len, nil_from_length, HangsOnEach}
use Rattle.kl1_ready.proofs.Ready.{ready_substitute}
use Rattle.kl1_ready.proofs.clauses.standing_of_substitute.Goals as goal

pub returns-in_ok-hang_on-clause-ready : goal.returns-in_ok-hang_on-clause-ready
returns-in_ok-hang_on-clause-ready c =
    ready_substitute c.args.store.now.held c.hang_on.new.store.hooks c.args.term c.args.number c.substitute_standing.new.trial.awaited.items c.in_ok-standing.standing
    c.in_ok-standing.ensures.standing (subst (HangsOnEach c.hang_on.new.store.hooks c.args.number) c.as_slice.ensures.value c.in_ok-hang_on.ensures.hangs)

pub returns-else-not-is_empty-clause-ready : goal.returns-else-not-is_empty-clause-ready
returns-else-not-is_empty-clause-ready c =
    let len : vec_len c.substitute_standing.new.trial.awaited ≡ 0 = search rules in
    let none : c.substitute_standing.new.trial.awaited.items ≡ [] = nil_from_length c.substitute_standing.new.trial.awaited.items (omega (arith, len, c.substitute_standing.new.trial.awaited.ok.0)) in
    ready_substitute c.args.store.now.held c.args.store.now.hooks c.args.term c.args.number c.substitute_standing.new.trial.awaited.items c.in_ok-standing.standing
    c.in_ok-standing.ensures.standing (subst (HangsOnEach c.args.store.now.hooks c.args.number) (sym none) tt)
