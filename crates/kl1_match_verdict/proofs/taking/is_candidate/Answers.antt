use Rattle.std.proofs.Common.{Bool, get_or, sym, ◌∙◌, subst}
use Rattle.kl1_clause.specs.declared.compiled_clause.CompiledClause.{CompiledClause}
use Rattle.kl1_match.specs.declared.verdict.Verdict.{Verdict}
use Rattle.kl1_match.specs.Instances.{IsClause}
use Rattle.kl1_match.specs.Verdicts.{IsVerdict}
use Rattle.kl1_match_verdict.specs.Candidates.{AllReject, RejectAs}
use Rattle.kl1_match.proofs.Trying.{of_places}
use Rattle.kl1_match_verdict.proofs.Choosing.{clause_in}
use Rattle.kl1_match_verdict.proofs.Candidates.{it_is_taken, it_is_not, it_is_closed, never_accepts_rejects, never_accepts_suspends}
use Rattle.kl1_match_verdict.proofs.taking.is_candidate.Goals as goal

pub returns-then-not-branch : goal.returns-then-not-branch
returns-then-not-branch g c =
    let s = c.start_of-start in
    let P : Bool → Type 0 = λ b. RejectAs g.N.NameValue.built c.args.names.now c.args.clauses.now c.args.store.now.held c.args.goal s.result b in
    it_is_closed g.N.NameValue.built c.args.names.now c.args.clauses.now c.args.store.now.held c.args.goal s.result c.args.place c.args.places.now.items s.ensures.below c.requires.place s.ensures.first (subst P c.if-not-branch.true c.in_ok-reject.ensures.rejects)

pub judge-requires-clause-clause : goal.judge-requires-clause-clause
judge-requires-clause-clause g c =
    let P : CompiledClause → Type 0 = λ k. IsClause c.args.names.now k in
    subst P (sym c.nth-clause.ensures) (clause_in c.args.names.now c.args.clauses.now c.args.place c.nth-clause.result.now c.requires.clauses c.requires.place)

pub returns-in-Accepts : goal.returns-in-Accepts
returns-in-Accepts g c =
    let s = c.start_of-start in
    let h = c.args.store.now.held in
    let places = c.judge.new.places.items in
    let before = c.reject.new.awaited.items in
    let after = c.judge.new.awaited.items in
    let x = c.nth-clause.result.now in
    let P : Bool → Type 0 = λ b. RejectAs g.N.NameValue.built c.args.names.now c.args.clauses.now h c.args.goal s.result b in
    let all : AllReject g.N.NameValue.built c.args.names.now c.args.clauses.now h c.args.goal s.result = subst P c.if-not-branch.false c.in_ok-reject.ensures.rejects in
    let v = of_places places (λ ps. IsVerdict g.N.NameValue.built c.args.names.now x h c.args.goal ps before after c.in_ok-verdict.verdict) c.in_ok-verdict.ensures.judged in
    let Q : CompiledClause → Type 0 = λ k. IsVerdict g.N.NameValue.built c.args.names.now k h c.args.goal places before after c.in_ok-verdict.verdict in
    let own = subst Q c.nth-clause.ensures v in
    let R : Verdict → Type 0 = λ w. IsVerdict g.N.NameValue.built c.args.names.now (get_or c.args.clauses.now c.args.place x) h c.args.goal places before after w in
    it_is_taken g.N.NameValue.built c.args.names.now c.args.clauses.now h c.args.goal s.result c.args.place x places before after s.ensures.below c.requires.place s.ensures.run all (subst R c.in-Accepts.is own)

pub returns-in-Rejects : goal.returns-in-Rejects
returns-in-Rejects g c =
    let s = c.start_of-start in
    let h = c.args.store.now.held in
    let places = c.judge.new.places.items in
    let before = c.reject.new.awaited.items in
    let after = c.judge.new.awaited.items in
    let x = c.nth-clause.result.now in
    let P : Bool → Type 0 = λ b. RejectAs g.N.NameValue.built c.args.names.now c.args.clauses.now h c.args.goal s.result b in
    let all : AllReject g.N.NameValue.built c.args.names.now c.args.clauses.now h c.args.goal s.result = subst P c.if-not-branch.false c.in_ok-reject.ensures.rejects in
    let v = of_places places (λ ps. IsVerdict g.N.NameValue.built c.args.names.now x h c.args.goal ps before after c.in_ok-verdict.verdict) c.in_ok-verdict.ensures.judged in
    let Q : CompiledClause → Type 0 = λ k. IsVerdict g.N.NameValue.built c.args.names.now k h c.args.goal places before after c.in_ok-verdict.verdict in
    let own = subst Q c.nth-clause.ensures v in
    it_is_not g.N.NameValue.built c.args.names.now c.args.clauses.now h c.args.goal s.result c.args.place x places before after c.in_ok-verdict.verdict s.ensures.below c.requires.place s.ensures.run all own
    (λ e. never_accepts_rejects (sym c.in-Rejects.is ∙ e))

pub returns-in-Suspends : goal.returns-in-Suspends
returns-in-Suspends g c =
    let s = c.start_of-start in
    let h = c.args.store.now.held in
    let places = c.judge.new.places.items in
    let before = c.reject.new.awaited.items in
    let after = c.judge.new.awaited.items in
    let x = c.nth-clause.result.now in
    let P : Bool → Type 0 = λ b. RejectAs g.N.NameValue.built c.args.names.now c.args.clauses.now h c.args.goal s.result b in
    let all : AllReject g.N.NameValue.built c.args.names.now c.args.clauses.now h c.args.goal s.result = subst P c.if-not-branch.false c.in_ok-reject.ensures.rejects in
    let v = of_places places (λ ps. IsVerdict g.N.NameValue.built c.args.names.now x h c.args.goal ps before after c.in_ok-verdict.verdict) c.in_ok-verdict.ensures.judged in
    let Q : CompiledClause → Type 0 = λ k. IsVerdict g.N.NameValue.built c.args.names.now k h c.args.goal places before after c.in_ok-verdict.verdict in
    let own = subst Q c.nth-clause.ensures v in
    it_is_not g.N.NameValue.built c.args.names.now c.args.clauses.now h c.args.goal s.result c.args.place x places before after c.in_ok-verdict.verdict s.ensures.below c.requires.place s.ensures.run all own
    (λ e. never_accepts_suspends (sym c.in-Suspends.is ∙ e))
