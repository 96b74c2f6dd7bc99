-- The goals of a body are read as series of terms, each with what follows it.
use Rattle.std.proofs.Common.{◌≡◌, ℕ, zero, suc, ◌<◌, ◌≤◌, ◌&&◌, Bool, true, false, if◌then◌else◌, List, [], ◌∷◌, ◌++◌, length, map, append_assoc, append-nil, Option, Some, None, option_map, refl, ap, sym, ◌∙◌, subst, arith}
use Rattle.std.specs.List.{list_all}
use Rattle.std.proofs.lemmas.List.Folds.{list_all-append}
use Rattle.std.proofs.lemmas.Option.{none-some}
use Rattle.kl1_model.specs.Term.{Term, list_of}
use Rattle.kl1_model.specs.Grammar.{Numbered, Expression, Series, last, another, GoalTree, plain_goal, urgent_goal, Body, last_goal, another_goal}
use Rattle.kl1_model.specs.reader.Reader.{Answer, then_read, then_skip, if_there, behind_open, behind_close, behind_comma, behind_at, digits_in_front, priority_in_front, series_at, priority_at, body_at}
use Rattle.kl1_model.specs.Meaning.{expression_term, series_terms, is_writable}
use Rattle.kl1_model.specs.Module.{BodyGoal, without_priority, trees_of}
use Rattle.kl1_model.proofs.ReadSound.{at_is, comma_is, series_sound}
use Rattle.kl1_model.proofs.ReadComplete.{series_steps_few}
use Rattle.kl1_model.proofs.ReadSteps.{bodies_go_on, series_go_on, expressions_leave_less, whole_sound}
use Rattle.kl1_read.specs.Meanings.{reading, answer_map, series_read, fit}
use Rattle.kl1_read.specs.BodyGoals.{goal_named, goals_read, are_written, written, written_goals, goals_named, priority_read, with_front, goals_after, terms_after}

-- how many tokens are after what was read
abbrev behind_length : {A : Type 0} → Answer A → ℕ
behind_length None = 0
behind_length (Some r) = length r.1

-- how goals are read after others
abbrev Others : Type 0
Others = List Numbered → Answer (List BodyGoal)

-- goals put in front of others, one list after the other
pub fronts : (gs hs : List BodyGoal) (x : Answer (List BodyGoal)) → with_front (gs ++ hs) x ≡ with_front gs (with_front hs x)
fronts gs hs None = refl
fronts gs hs (Some r) = ap (λ (is : List BodyGoal). Some (is, r.1)) (append_assoc gs hs r.0)

pub front_none : (x : Answer (List BodyGoal)) → with_front [] x ≡ x
front_none None = refl
front_none (Some r) = refl

goals_by : (others : Others) (gs hs : List BodyGoal) (ws : List Numbered) (y : Option (List Numbered)) → if_there y (Some (gs ++ hs, ws)) (λ xs. with_front (gs ++ hs) (others xs)) ≡ with_front gs (if_there y (Some (hs, ws)) (λ xs. with_front hs (others xs)))
goals_by others gs hs ws None = refl
goals_by others gs hs ws (Some xs) = fronts gs hs (others xs)

pub goals_front : (others : Others) (gs hs : List BodyGoal) (ws : List Numbered) → goals_after others (gs ++ hs) ws ≡ with_front gs (goals_after others hs ws)
goals_front others gs hs ws = goals_by others gs hs ws (behind_comma ws)

-- one more term in front of others
module _ (others : Others) (t u : Term) (ts : List Term) where
  named_by : (x : Answer ℕ) → then_read x (λ n ws. goals_after others (goals_named (Some n) (t ∷ u ∷ ts)) ws) ≡ with_front (without_priority t ∷ []) (then_read x (λ n ws. goals_after others (goals_named (Some n) (u ∷ ts)) ws))
  named_by None = refl
  named_by (Some r) = goals_front others (without_priority t ∷ []) (goals_named (Some r.0) (u ∷ ts)) r.1

  terms_by : (ws : List Numbered) (y : Option (List Numbered)) →
      if_there y (Some (goals_named None (t ∷ u ∷ ts), ws)) (λ vs. then_read (priority_read vs) (λ n ws. goals_after others (goals_named (Some n) (t ∷ u ∷ ts)) ws))
      ≡ with_front (without_priority t ∷ []) (if_there y (Some (goals_named None (u ∷ ts), ws)) (λ vs. then_read (priority_read vs) (λ n ws. goals_after others (goals_named (Some n) (u ∷ ts)) ws)))
  terms_by ws None = refl
  terms_by ws (Some vs) = named_by (priority_read vs)

-- a term in front of those of a series
one_more : (others : Others) (t : Term) (s : Series) (ws : List Numbered) → terms_after others (t ∷ list_of (series_terms s)) ws ≡ with_front (without_priority t ∷ []) (terms_after others (list_of (series_terms s)) ws)
one_more others t (last e) ws = terms_by others t (expression_term e) [] ws (behind_at ws)
one_more others t (another e s) ws = terms_by others t (expression_term e) (list_of (series_terms s)) ws (behind_at ws)

-- the terms of series, and the goals of bodies
abbrev listed : Answer Series → Answer (List Term)
listed x = answer_map (λ s. list_of (series_terms s)) x

abbrev all_named : Answer Body → Answer (List BodyGoal)
all_named x = answer_map (λ b. map goal_named (trees_of b)) x

abbrev goals_on : GoalTree → List Numbered → Answer Body
goals_on g us = if_there (behind_comma us) (Some (last_goal g, us)) (λ vs. then_read (body_at reading vs) (λ b ws. Some (another_goal g b, ws)))

abbrev series_on : Expression → List Numbered → Answer Series
series_on e us = if_there (behind_comma us) (Some (last e, us)) (λ vs. then_read (series_at reading vs) (λ s ws. Some (another e s, ws)))

-- one goal in front of others
another_by : (g : GoalTree) (x : Answer Body) → all_named (then_read x (λ b ws. Some (another_goal g b, ws))) ≡ with_front (goal_named g ∷ []) (all_named x)
another_by g None = refl
another_by g (Some r) = refl

goal_by : (g : GoalTree) (us : List Numbered) (y : Option (List Numbered)) → all_named (if_there y (Some (last_goal g, us)) (λ vs. then_read (body_at reading vs) (λ b ws. Some (another_goal g b, ws)))) ≡ if_there y (Some (goal_named g ∷ [], us)) (λ xs. with_front (goal_named g ∷ []) (goals_read xs))
unfolding goals_read
goal_by g us None = refl
goal_by g us (Some vs) = another_by g (body_at reading vs)

goal_first : (g : GoalTree) (us : List Numbered) → all_named (goals_on g us) ≡ goals_after goals_read (goal_named g ∷ []) us
goal_first g us = goal_by g us (behind_comma us)

-- a goal with a priority in front
module _ (e : Expression) where
  closed_by : (quotes : Bool) (n : ℕ) (z : Option (List Numbered)) →
      all_named (then_read (then_skip z (λ xs. Some (urgent_goal e quotes n, xs))) goals_on)
      ≡ then_read (then_skip z (λ xs. Some (n, xs))) (λ n ws. goals_after goals_read (goals_named (Some n) (expression_term e ∷ [])) ws)
  closed_by quotes n None = refl
  closed_by quotes n (Some xs) = goal_first (urgent_goal e quotes n) xs

  digits_by : (quotes : Bool) (x : Answer ℕ) →
      all_named (then_read (then_read x (λ n ws. then_skip (behind_close ws) (λ xs. Some (urgent_goal e quotes n, xs)))) goals_on)
      ≡ then_read (then_read x (λ n ws. then_skip (behind_close ws) (λ xs. Some (n, xs)))) (λ n ws. goals_after goals_read (goals_named (Some n) (expression_term e ∷ [])) ws)
  digits_by quotes None = refl
  digits_by quotes (Some r) = closed_by quotes r.0 (behind_close r.1)

  open_by : (quotes : Bool) (y : Option (List Numbered)) →
      all_named (then_read (then_skip y (λ vs. then_read (digits_in_front vs) (λ n ws. then_skip (behind_close ws) (λ xs. Some (urgent_goal e quotes n, xs))))) goals_on)
      ≡ then_read (then_skip y (λ vs. then_read (digits_in_front vs) (λ n ws. then_skip (behind_close ws) (λ xs. Some (n, xs))))) (λ n ws. goals_after goals_read (goals_named (Some n) (expression_term e ∷ [])) ws)
  open_by quotes None = refl
  open_by quotes (Some vs) = digits_by quotes (digits_in_front vs)

  word_by : (x : Answer Bool) →
      all_named (then_read (then_read x (λ quotes us. then_skip (behind_open us) (λ vs. then_read (digits_in_front vs) (λ n ws. then_skip (behind_close ws) (λ xs. Some (urgent_goal e quotes n, xs)))))) goals_on)
      ≡ then_read (then_skip (option_map (λ r. r.1) x) (λ us. then_skip (behind_open us) (λ vs. then_read (digits_in_front vs) (λ n ws. then_skip (behind_close ws) (λ xs. Some (n, xs)))))) (λ n ws. goals_after goals_read (goals_named (Some n) (expression_term e ∷ [])) ws)
  word_by None = refl
  word_by (Some r) = open_by r.0 (behind_open r.1)

  urgent_first : (vs : List Numbered) → all_named (then_read (priority_at e vs) goals_on) ≡ then_read (priority_read vs) (λ n ws. goals_after goals_read (goals_named (Some n) (expression_term e ∷ [])) ws)
  urgent_first vs = word_by (priority_in_front vs)

-- the goals in front of tokens, of which fewer than `n` are left, are the terms in front with what follows them
abbrev Chunked : ℕ → Type 0
Chunked n = (ts : List Numbered) → length ts < n → goals_read ts ≡ then_read (series_read ts) (terms_after goals_read)

more_terms : (e : Expression) (x : Answer Series) → then_read (listed (then_read x (λ s ws. Some (another e s, ws)))) (terms_after goals_read) ≡ with_front (without_priority (expression_term e) ∷ []) (then_read (listed x) (terms_after goals_read))
more_terms e None = refl
more_terms e (Some r) = one_more goals_read (expression_term e) r.0 r.1

last_term : (e : Expression) (us : List Numbered) → behind_at us ≡ None → ◌≡◌ {A = Answer (List BodyGoal)} (Some (without_priority (expression_term e) ∷ [], us)) (terms_after goals_read (expression_term e ∷ []) us)
last_term e us h = sym (ap (λ y. if_there y (Some (without_priority (expression_term e) ∷ [], us)) (λ vs. then_read (priority_read vs) (λ n ws. goals_after goals_read (goals_named (Some n) (expression_term e ∷ [])) ws))) h)

comma_by : (n : ℕ) (e : Expression) (us : List Numbered) (y : Option (List Numbered)) → behind_comma us ≡ y → behind_at us ≡ None → length us ≤ n → Chunked n →
    if_there y (Some (without_priority (expression_term e) ∷ [], us)) (λ xs. with_front (without_priority (expression_term e) ∷ []) (goals_read xs))
    ≡ then_read (listed (if_there y (Some (last e, us)) (λ vs. then_read (series_at reading vs) (λ s ws. Some (another e s, ws))))) (terms_after goals_read)
unfolding series_read
comma_by n e us None comma h few all = last_term e us h
comma_by n e us (Some vs) comma h few all =
    ap (with_front (without_priority (expression_term e) ∷ [])) (all vs (omega (arith, ap (length {A = Numbered}) (comma_is us vs comma))))
    ∙ sym (more_terms e (series_at reading vs))

at_end : (e : Expression) (us vs : List Numbered) → behind_at us ≡ Some vs → then_read (priority_read vs) (λ n ws. goals_after goals_read (goals_named (Some n) (expression_term e ∷ [])) ws) ≡ then_read (listed (series_on e us)) (terms_after goals_read)
at_end e us vs h = subst (λ xs. then_read (priority_read vs) (λ n ws. goals_after goals_read (goals_named (Some n) (expression_term e ∷ [])) ws) ≡ then_read (listed (series_on e xs)) (terms_after goals_read)) (at_is us vs h) refl

at_by : (n : ℕ) (e : Expression) (us : List Numbered) (y : Option (List Numbered)) → behind_at us ≡ y → length us ≤ n → Chunked n →
    all_named (then_read (if_there y (Some (plain_goal e, us)) (λ vs. priority_at e vs)) goals_on) ≡ then_read (listed (series_on e us)) (terms_after goals_read)
at_by n e us None h few all = goal_first (plain_goal e) us ∙ comma_by n e us (behind_comma us) refl h few all
at_by n e us (Some vs) h few all = urgent_first e vs ∙ at_end e us vs h

first_by : (n : ℕ) (ts : List Numbered) (x : Answer Expression) → reading ts ≡ x → length ts < suc n → Chunked n →
    all_named (then_read (then_read x (λ e us. if_there (behind_at us) (Some (plain_goal e, us)) (λ vs. priority_at e vs))) goals_on) ≡ then_read (listed (then_read x series_on)) (terms_after goals_read)
first_by n ts None read few all = refl
first_by n ts (Some r) read few all = at_by n r.0 r.1 (behind_at r.1) refl (omega (arith, expressions_leave_less ts r.0 r.1 read)) all

chunked : (n : ℕ) → Chunked n
unfolding goals_read series_read
chunked zero ts few = absurd (omega arith)
chunked (suc n) ts few =
    ap all_named (bodies_go_on ts)
    ∙ first_by n ts (reading ts) refl few (chunked n)
    ∙ sym (ap (λ x. then_read (listed x) (terms_after goals_read)) (series_go_on ts))

-- the goals in front of tokens are the terms in front with what follows them
pub goals_chunked : (ts : List Numbered) → goals_read ts ≡ then_read (series_read ts) (terms_after goals_read)
goals_chunked ts = chunked (suc (length ts)) ts (omega arith)

-- goals are written if their terms are
pub named_written : (p : Option ℕ) (ts : List Term) → are_written (goals_named p ts) ≡ list_all is_writable ts
named_written p [] = refl
named_written p (t ∷ []) = refl
named_written p (t ∷ u ∷ ts) = ap (λ b. is_writable t && b) (named_written p (u ∷ ts))

abbrev kept : Bool → List BodyGoal → List Numbered → Answer (List BodyGoal)
kept b gs ws = if◌then◌else◌ {A = Answer (List BodyGoal)} b (Some (gs, ws)) None

kept_front : (gs hs : List BodyGoal) (ws : List Numbered) (b : Bool) → kept b (gs ++ hs) ws ≡ with_front gs (kept b hs ws)
kept_front gs hs ws true = refl
kept_front gs hs ws false = refl

front_written : (gs : List BodyGoal) (x : Answer (List BodyGoal)) → are_written gs ≡ true → written (with_front gs x) ≡ with_front gs (written x)
front_written gs None h = refl
front_written gs (Some r) h =
    ap (λ b. kept b (gs ++ r.0) r.1) (list_all-append (λ (g : BodyGoal). is_writable g.goal) gs r.0 ∙ ap (λ b. b && are_written r.0) h)
    ∙ kept_front gs r.0 r.1 (are_written r.0)

front_unwritten : (gs : List BodyGoal) (x : Answer (List BodyGoal)) → are_written gs ≡ false → written (with_front gs x) ≡ None
front_unwritten gs None h = refl
front_unwritten gs (Some r) h =
    ap (λ b. kept b (gs ++ r.0) r.1) (list_all-append (λ (g : BodyGoal). is_writable g.goal) gs r.0 ∙ ap (λ b. b && are_written r.0) h)

after_written : (gs : List BodyGoal) (ws : List Numbered) (y : Option (List Numbered)) → are_written gs ≡ true → written (if_there y (Some (gs, ws)) (λ xs. with_front gs (goals_read xs))) ≡ if_there y (Some (gs, ws)) (λ xs. with_front gs (written_goals xs))
after_written gs ws None h = ap (λ b. kept b gs ws) h
after_written gs ws (Some xs) h = front_written gs (goals_read xs) h

after_unwritten : (gs : List BodyGoal) (ws : List Numbered) (y : Option (List Numbered)) → are_written gs ≡ false → written (if_there y (Some (gs, ws)) (λ xs. with_front gs (goals_read xs))) ≡ None
after_unwritten gs ws None h = ap (λ b. kept b gs ws) h
after_unwritten gs ws (Some xs) h = front_unwritten gs (goals_read xs) h

module _ (ts : List Term) where
  number_written : (x : Answer ℕ) → list_all is_writable ts ≡ true → written (then_read x (λ n ws. goals_after goals_read (goals_named (Some n) ts) ws)) ≡ then_read x (λ n ws. goals_after written_goals (goals_named (Some n) ts) ws)
  number_written None h = refl
  number_written (Some r) h = after_written (goals_named (Some r.0) ts) r.1 (behind_comma r.1) (named_written (Some r.0) ts ∙ h)

  number_unwritten : (x : Answer ℕ) → list_all is_writable ts ≡ false → written (then_read x (λ n ws. goals_after goals_read (goals_named (Some n) ts) ws)) ≡ None
  number_unwritten None h = refl
  number_unwritten (Some r) h = after_unwritten (goals_named (Some r.0) ts) r.1 (behind_comma r.1) (named_written (Some r.0) ts ∙ h)

  terms_written_by : (us : List Numbered) (y : Option (List Numbered)) → list_all is_writable ts ≡ true →
      written (if_there y (Some (goals_named None ts, us)) (λ vs. then_read (priority_read vs) (λ n ws. goals_after goals_read (goals_named (Some n) ts) ws)))
      ≡ if_there y (Some (goals_named None ts, us)) (λ vs. then_read (priority_read vs) (λ n ws. goals_after written_goals (goals_named (Some n) ts) ws))
  terms_written_by us None h = ap (λ b. kept b (goals_named None ts) us) (named_written None ts ∙ h)
  terms_written_by us (Some vs) h = number_written (priority_read vs) h

  terms_unwritten_by : (us : List Numbered) (y : Option (List Numbered)) → list_all is_writable ts ≡ false →
      written (if_there y (Some (goals_named None ts, us)) (λ vs. then_read (priority_read vs) (λ n ws. goals_after goals_read (goals_named (Some n) ts) ws))) ≡ None
  terms_unwritten_by us None h = ap (λ b. kept b (goals_named None ts) us) (named_written None ts ∙ h)
  terms_unwritten_by us (Some vs) h = number_unwritten (priority_read vs) h

  -- terms that can be written, with what follows them
  pub terms_written : (us : List Numbered) → list_all is_writable ts ≡ true → written (terms_after goals_read ts us) ≡ terms_after written_goals ts us
  terms_written us h = terms_written_by us (behind_at us) h

  -- no goals come of terms of which one can't be written
  pub terms_unwritten : (us : List Numbered) → list_all is_writable ts ≡ false → written (terms_after goals_read ts us) ≡ None
  terms_unwritten us h = terms_unwritten_by us (behind_at us) h

written_by : (ts : List Term) (us : List Numbered) (b : Bool) → list_all is_writable ts ≡ b → written (terms_after goals_read ts us) ≡ then_read (if◌then◌else◌ {A = Answer (List Term)} b (Some (ts, us)) None) (terms_after written_goals)
written_by ts us true h = terms_written ts us h
written_by ts us false h = terms_unwritten ts us h

series_written : (x : Answer (List Term)) → written (then_read x (terms_after goals_read)) ≡ then_read (fit x) (terms_after written_goals)
series_written None = refl
series_written (Some r) = written_by r.0 r.1 (list_all is_writable r.0) refl

-- the goals that can be written are the terms that can be written, with what follows them
pub written_chunked : (ts : List Numbered) → written_goals ts ≡ then_read (fit (series_read ts)) (terms_after written_goals)
written_chunked ts = ap written (goals_chunked ts) ∙ series_written (series_read ts)

-- the goals that terms are, of which the last names a priority
pub named_last : (p : Option ℕ) (ts : List Term) (t : Term) → goals_named p (ts ++ t ∷ []) ≡ map without_priority ts ++ record { goal = t; priority = p } ∷ []
named_last p [] t = refl
named_last p (u ∷ []) t = refl
named_last p (u ∷ v ∷ ts) t = ap (λ gs. without_priority u ∷ gs) (named_last p (v ∷ ts) t)

-- the goals of terms whose last was taken off and put last, if none of the others is left
pub named_put : (p : Option ℕ) (old ts from left : List Term) (t : Term) (before so_far now : List BodyGoal) → old ≡ ts ++ t ∷ [] → from ≡ ts → length left ≡ 0 → so_far ++ map without_priority left ≡ before ++ map without_priority from → now ≡ so_far ++ record { goal = t; priority = p } ∷ [] → now ≡ before ++ goals_named p old
named_put p old ts from [] t before so_far now e i h f n =
    n
    ∙ ap (λ gs. gs ++ record { goal = t; priority = p } ∷ []) (sym (append-nil so_far) ∙ f ∙ ap (λ us. before ++ map without_priority us) i)
    ∙ append_assoc before (map without_priority ts) (record { goal = t; priority = p } ∷ [])
    ∙ sym (ap (λ gs. before ++ gs) (ap (goals_named p) e ∙ named_last p ts t))
named_put p old ts from (u ∷ us) t before so_far now e i h f n = absurd (omega arith)

-- the goals in front of tokens, by the terms in front
pub goals_none : (ts : List Numbered) → None ≡ fit (series_read ts) → None ≡ written_goals ts
goals_none ts h = ap (λ x. then_read x (terms_after written_goals)) h ∙ sym (written_chunked ts)

pub goals_some : (ts us : List Numbered) (s : List Term) → Some (s, us) ≡ fit (series_read ts) → terms_after written_goals s us ≡ written_goals ts
goals_some ts us s h = ap (λ x. then_read x (terms_after written_goals)) h ∙ sym (written_chunked ts)

-- what is after terms is no more
few_by : (ts us vs : List Numbered) (s : List Term) (t : List Term) (b : Bool) → length us ≤ length ts → if◌then◌else◌ {A = Answer (List Term)} b (Some (s, us)) None ≡ Some (t, vs) → length vs ≤ length ts
few_by ts us vs s t true few e = omega (arith, few, ap (λ (x : Answer (List Term)). behind_length x) e)
few_by ts us vs s t false few e = absurd (none-some (t, vs) e)

few_at : (ts vs : List Numbered) (t : List Term) (x : Answer Series) → series_at reading ts ≡ x → fit (listed x) ≡ Some (t, vs) → length vs ≤ length ts
few_at ts vs t None read h = absurd (none-some (t, vs) h)
few_at ts vs t (Some r) read h =
    few_by ts r.1 vs (list_of (series_terms r.0)) t (list_all is_writable (list_of (series_terms r.0))) (omega (arith, ap (length {A = Numbered}) (series_sound reading whole_sound (suc (length ts)) ts r.0 r.1 read), series_steps_few r.0 r.1)) h

pub series_few : (ts vs : List Numbered) (t : List Term) → Some (t, vs) ≡ fit (series_read ts) → length vs ≤ length ts
unfolding series_read
series_few ts vs t h = few_at ts vs t (series_at reading ts) refl (sym h)
