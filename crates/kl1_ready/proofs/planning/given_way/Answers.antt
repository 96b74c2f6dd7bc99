use Rattle.kl1_ready.proofs.Words.{◌≡◌, ℕ, Some, sym, subst, clause_in, meaning, SubstituteMoves}
use Rattle.kl1_ready.proofs.Plans.{inside_by, stands_by_none}
use Rattle.kl1_ready.proofs.planning.given_way.Goals as goal

pub returns-then-not-stands_by-clause-inside : goal.returns-then-not-stands_by-clause-inside
returns-then-not-stands_by-clause-inside c p places text = inside_by c.args.store.now.held c.args.term c.args.clause p places text c.substitute_move.result c.substitute_move.ensures

pub returns-clause-inside : goal.returns-clause-inside
returns-clause-inside c = c.substitute_as_judged.ensures.inside c.args.store.now.held

pub returns-clause-moves : goal.returns-clause-moves
returns-clause-moves c f reads does =
    let t = meaning f c.args.store.now.held c.args.term in
    let s = c.args.goal.now.standing in
    let by = c.stands_by.ensures c.if-not-stands_by.false in
    let none = stands_by_none t s c.args.clause does by in
    subst (λ (n : ℕ). SubstituteMoves t n c.substitute_as_judged.result) none (c.substitute_as_judged.ensures.moves t does (subst (λ (n : ℕ). clause_in s ≡ Some n) (sym none) by))
