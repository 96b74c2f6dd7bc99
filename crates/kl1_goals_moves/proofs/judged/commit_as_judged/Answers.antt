use Rattle.std.proofs.Common.{◌≡◌, ℕ, ◌+◌, ◌-◌, ◌%◌, Bool, true, false, if◌then◌else◌, List, refl, sym, ◌∙◌, arith, subst}
use Rattle.std.specs.Prelude.{Some, None}
use Rattle.kl1_model.specs.Match.{clauses_of}
use Rattle.kl1_model.proofs.LeastClause.{term_clause-call}
use Rattle.kl1_match.specs.declared.place.Place.{Place}
use Rattle.kl1_match.specs.declared.scratch.Scratch.{Scratch}
use Rattle.kl1_match.specs.Kept.{kept_places}
use Rattle.kl1_match_verdict.specs.Candidates.{found_places, TakesLeast}
use Rattle.kl1_goals_moves.specs.declared.moves.Move.TheVariants.{Commits}
use Rattle.kl1_goals_moves.specs.Calls.{call_at}
use Rattle.kl1_goals_moves.specs.Moves.{taken_places, CommitsAs}
use Rattle.kl1_goals_moves.proofs.Taking.{are_clauses, none_left, judged, commits_as}
use Rattle.kl1_goals_moves.proofs.judged.commit_as_judged.Goals as goal

found_taken : {N : Type 0} (b : Bool) (s : Scratch N) (places : List (Place N)) → found_places b s places ≡ (if b then kept_places s else places)
found_taken true s places = refl
found_taken false s places = refl

pub returns-then-place-predicate-clause-moves : goal.returns-then-place-predicate-clause-moves
returns-then-place-predicate-clause-moves g c = λ f r rules modules t is has some j.
    let h = c.args.store.now.held in
    commits_as f h rules modules t c.args.call c.args.number c.args.predicate (taken_places c.args.trial.now) c.args.trial.now.text None is some
    (none_left f h c.args.call c.args.predicate (clauses_of modules (call_at f h c.args.call)) c.args.number some has (omega (arith, c.if-place-predicate.true)))

pub find_places-requires-clause-clauses : goal.find_places-requires-clause-clauses
find_places-requires-clause-clauses g c = are_clauses c.args.predicate.names.now c.args.predicate.clauses.now c.requires.predicate

pub returns-clause-moves : goal.returns-clause-moves
returns-clause-moves g c = λ f r rules modules t is has some j.
    let h = c.args.store.now.held in
    let n = c.args.number in
    let p = c.args.predicate in
    let cs = clauses_of modules (call_at f h c.args.call) in
    let found = found_places c.in_ok-trial.field-0 c.find_places.new.scratch c.find_places.new.places.items in
    let before : (n + 18446744073709551615) % 18446744073709551616 ≡ n - 1 = omega arith in
    let T : ℕ → Type 0 = λ k. TakesLeast g.N.NameValue.built p.names.now p.clauses.now k h c.cell.result found in
    let by = judged g.N.NameValue.built f h c.args.call p cs n c.cell.result found r some c.cell.ensures has (subst T before c.in_ok-trial.ensures.taken) (sym (term_clause-call rules modules t (call_at f h c.args.call) is.is) ∙ j) in
    let P : ℕ → Type 0 = λ k. CommitsAs f h c.args.call p cs n found (Some (Commits k)) in
    let Q : List (Place g.row.N.Denot) → Type 0 = λ l. CommitsAs f h c.args.call p cs n l (Some (Commits ((n + 18446744073709551615) % 18446744073709551616))) in
    let places = if c.in_ok-trial.field-0 then kept_places c.find_places.new.scratch else c.find_places.new.places.items in
    commits_as f h rules modules t c.args.call n p places c.args.trial.now.text (Some (Commits ((n + 18446744073709551615) % 18446744073709551616))) is some
    (subst Q (found_taken c.in_ok-trial.field-0 c.find_places.new.scratch c.find_places.new.places.items) (subst P (sym before) by))
