use Rattle.std.proofs.Common.{◌-◌, Bool, true, false, arith, subst}
use Rattle.kl1_match_verdict.specs.Candidates.{Takes}
use Rattle.kl1_goals_moves.proofs.Taking.{are_clauses, none_left, tried}
use Rattle.kl1_goals_moves.proofs.moves.committing.Goals as goal

pub returns-then-place-predicate-clause-commits : goal.returns-then-place-predicate-clause-commits
returns-then-place-predicate-clause-commits g c = λ f r cs a.
    none_left f c.args.store.now.held c.args.call c.args.predicate cs c.args.number c.requires.number a (omega (arith, c.if-place-predicate.true))

pub is_candidate-requires-clause-clauses : goal.is_candidate-requires-clause-clauses
is_candidate-requires-clause-clauses g c = are_clauses c.args.predicate.names.now c.args.predicate.clauses.now c.requires.predicate

pub returns-then-branch-clause-commits : goal.returns-then-branch-clause-commits
returns-then-branch-clause-commits g c = λ f r cs a.
    let P : Bool → Type 0 = λ b. Takes g.N.NameValue.built c.args.predicate.names.now c.args.predicate.clauses.now (c.args.number - 1) c.args.store.now.held c.cell.result c.is_candidate.new.places.items b in
    tried g.N.NameValue.built f c.args.store.now.held c.args.call c.args.predicate cs c.args.number c.cell.result c.is_candidate.new.places.items true r c.requires.number c.cell.ensures a (subst P c.if-branch.true c.in_ok-is_candidate.ensures)

pub returns-clause-commits : goal.returns-clause-commits
returns-clause-commits g c = λ f r cs a.
    let P : Bool → Type 0 = λ b. Takes g.N.NameValue.built c.args.predicate.names.now c.args.predicate.clauses.now (c.args.number - 1) c.args.store.now.held c.cell.result c.is_candidate.new.places.items b in
    tried g.N.NameValue.built f c.args.store.now.held c.args.call c.args.predicate cs c.args.number c.cell.result c.is_candidate.new.places.items false r c.requires.number c.cell.ensures a (subst P c.if-branch.false c.in_ok-is_candidate.ensures)
