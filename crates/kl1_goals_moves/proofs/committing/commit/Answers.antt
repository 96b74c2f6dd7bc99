use Rattle.std.proofs.Common.{◌≡◌, Bool, true, false, if◌then◌else◌, sym, ◌∙◌, subst, refl}
use Rattle.std.proofs.lemmas.Bool.{false≢true}
use Rattle.std.proofs.lemmas.Result.{on_ok_weaker}
use Rattle.kl1_clause.specs.declared.compiled_clause.CompiledClause.{CompiledClause}
use Rattle.kl1_match.specs.Instances.{IsClause, AreThere}
use Rattle.kl1_match.specs.Kept.{kept_places}
use Rattle.kl1_goals_moves.specs.Moves.{IsCandidate}
use Rattle.kl1_goals_moves.proofs.Taking.{are_clauses, clause_at}
use Rattle.kl1_goals_moves.proofs.Bodies.{body_of}
use Rattle.kl1_goals_moves.proofs.committing.commit.Goals as goal

chosen : {A : Type 0} (b : Bool) (x y : A) → b ≡ true → (if b then x else y) ≡ x
chosen true x y e = refl
chosen false x y e = absurd (false≢true e)

other : {A : Type 0} (b : Bool) (x y : A) → b ≡ false → (if b then x else y) ≡ y
other false x y e = refl
other true x y e = absurd (false≢true (sym e))

pub put_kept_instance-requires-clause-clause : goal.put_kept_instance-requires-clause-clause
put_kept_instance-requires-clause-clause g c =
    let P : CompiledClause → Type 0 = λ x. IsClause c.args.predicate.names.now x in
    subst P (sym c.nth.ensures) (clause_at c.args.predicate.names.now c.args.predicate.clauses.now c.args.place c.nth.result.now (are_clauses c.args.predicate.names.now c.args.predicate.clauses.now c.requires.predicate) c.requires.place)

pub put_kept_instance-requires-clause-places : goal.put_kept_instance-requires-clause-places
put_kept_instance-requires-clause-places g c =
    let t = c.args.trial.now in
    let yes : t.is_in_order ≡ true = c.if-trial.true in
    subst (λ ps. AreThere c.args.store.now.held ps) (chosen t.is_in_order (kept_places t.scratch) t.places.items yes) c.requires.places

pub returns-then-trial-clause-goals : goal.returns-then-trial-clause-goals
returns-then-trial-clause-goals g c =
    let t = c.args.trial.now in
    let yes : t.is_in_order ≡ true = c.if-trial.true in
    let same = chosen t.is_in_order (kept_places t.scratch) t.places.items yes in
    on_ok_weaker c.put_kept_instance.result (λ i. λ f r k is.
    body_of g.N.NameValue.built f c.args.predicate c.args.place c.nth.result.now (kept_places t.scratch) (kept_places t.scratch) c.args.store.now.held c.put_kept_instance.new.store.held c.put_kept_instance.new.goals.items k r c.nth.ensures refl i
    (subst (λ ps. IsCandidate f c.args.store.now.held c.args.predicate c.args.place ps k) same is)) c.put_kept_instance.ensures.goals

pub put_instance-requires-clause-clause : goal.put_instance-requires-clause-clause
put_instance-requires-clause-clause g c =
    let P : CompiledClause → Type 0 = λ x. IsClause c.args.predicate.names.now x in
    subst P (sym c.nth-2.ensures) (clause_at c.args.predicate.names.now c.args.predicate.clauses.now c.args.place c.nth-2.result.now (are_clauses c.args.predicate.names.now c.args.predicate.clauses.now c.requires.predicate) c.requires.place)

pub put_instance-requires-clause-places : goal.put_instance-requires-clause-places
put_instance-requires-clause-places g c =
    let t = c.args.trial.now in
    let no : t.is_in_order ≡ false = c.if-trial.false in
    subst (λ ps. AreThere c.args.store.now.held ps) (other t.is_in_order (kept_places t.scratch) t.places.items no ∙ sym c.as_slice.ensures.value) c.requires.places

pub returns-clause-goals : goal.returns-clause-goals
returns-clause-goals g c =
    let t = c.args.trial.now in
    let no : t.is_in_order ≡ false = c.if-trial.false in
    let same = other t.is_in_order (kept_places t.scratch) t.places.items no in
    on_ok_weaker c.put_instance.result (λ i. λ f r k is.
    body_of g.N.NameValue.built f c.args.predicate c.args.place c.nth-2.result.now t.places.items c.as_slice.result.now c.args.store.now.held c.put_instance.new.store.held c.put_instance.new.goals.items k r c.nth-2.ensures c.as_slice.ensures.value i
    (subst (λ ps. IsCandidate f c.args.store.now.held c.args.predicate c.args.place ps k) same is)) c.put_instance.ensures.goals
