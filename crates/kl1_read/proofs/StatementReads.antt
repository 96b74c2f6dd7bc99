-- A clause read as terms is the clause of the definitions.
use Rattle.std.proofs.Common.{◌≡◌, ℕ, nat_le, ◌⊎◌, inl, inr, ◌&&◌, Bool, true, false, if◌then◌else◌, List, [], ◌∷◌, ◌++◌, map, append_assoc, append-nil, Option, Some, None, option_map, option_and_then, refl, ap, sym, ◌∙◌, subst}
use Rattle.std.specs.List.{list_all}
use Rattle.std.proofs.lemmas.Bool.{true≢false, and_cases, and_parts}
use Rattle.std.proofs.lemmas.List.Folds.{list_all-append}
use Rattle.std.proofs.lemmas.Option.{none-some, same_Some}
use Rattle.kl1_model.specs.declared.sign.Sign.TheVariants.{Neck, Bar}
use Rattle.kl1_model.specs.Term.{Term, structure, Terms, none, more, terms_of, list_of}
use Rattle.kl1_model.specs.Token.{Token, name_token, sign_token}
use Rattle.kl1_model.specs.Grammar.{Numbered, Series, last, another, Head, bare_head, head_with, GoalTree, plain_goal, urgent_goal, Body, last_goal, another_goal, ClauseTree, fact, rule, guarded, series_tokens, body_tokens, clause_tokens}
use Rattle.kl1_model.specs.Numbering.{numbered_tokens}
use Rattle.kl1_model.specs.reader.Reader.{Answer, then_read, then_skip, if_there, behind_open, behind_close, behind_neck, behind_bar, behind_comma, behind_at, series_at, body_at, tests_of, behind_neck_at, clause_at, all_read, clause_tree}
use Rattle.kl1_model.specs.Meaning.{expression_term, series_terms, head_term, is_writable, variables_in, highest, highest_in, numbered_after}
use Rattle.kl1_model.specs.Goal.{is_head, is_test, body_goal}
use Rattle.kl1_model.specs.Module.{BodyGoal, Clause, each_of, head_name, head_patterns, is_fit_head, without_priority, fit_goal, fit_body, trees_of, true_goal, clause_of_tree}
use Rattle.kl1_model.proofs.ReadSound.{bar_is, clause_trees_sound}
use Rattle.kl1_model.proofs.ReadSteps.{clauses_go_on}
use Rattle.kl1_model.proofs.ReadMeans.{numbers_of, series_variables, head_variables}
use Rattle.kl1_model.proofs.ReadOrder.{numbered_in_order}
use Rattle.kl1_read.specs.Meanings.{reading, answer_map, series_read, fit}
use Rattle.kl1_read.specs.Statements.{Heading, Statement, statement_by, with_body, written_series, guarded_read, statement_read, heading_term, is_fit_name, fit_patterns, fit_test_upto, may_have, fit_named, clause_behind, clause_of_statement}
use Rattle.kl1_read.specs.BodyGoals.{goal_named, goals_read, are_written, written, written_goals, goals_named, priority_read, with_front, goals_after, terms_after}
use Rattle.kl1_read.proofs.BodyGoals.{goals_chunked, terms_written, terms_unwritten}
use Rattle.kl1_read.proofs.Unwritable.{structure_unwritable}
use Rattle.kl1_read.proofs.HeadNumbers.{tests_fit, numbered_front, numbered_some}

-- the terms of expressions that were read
abbrev listed : Answer Series → Answer (List Term)
listed x = answer_map (λ s. list_of (series_terms s)) x

terms_again : (ts : Terms) → terms_of (list_of ts) ≡ ts
terms_again none = refl
terms_again (more t ts) = ap (λ us. more t us) (terms_again ts)

-- a head as it is read
abbrev heading : Head → Heading
heading h = record { name = head_name h; arguments = list_of (head_patterns h) }

term_again : (h : Head) → heading_term (head_name h) (list_of (head_patterns h)) ≡ head_term h
term_again (bare_head p quotes) = refl
term_again (head_with p quotes (last e)) = refl
term_again (head_with p quotes (another e s)) = ap (λ ts. structure p (more (expression_term e) ts)) (terms_again (series_terms s))

fit_again : (h : Head) → is_fit_name (head_name h) (list_of (head_patterns h)) ≡ is_fit_head h
fit_again h = ap (λ t. is_writable t && is_head t) (term_again h)

-- goes on with the patterns of a head
abbrev clause_by : Head → List Term → Option (List BodyGoal) → Terms → Option Clause
clause_by h tests body ps = option_and_then (λ ts. option_map (λ gs. record { name = head_name h; patterns = ps; tests = ts; section = 0; body = gs }) body) (each_of (fit_test_upto (highest_in ps)) tests)

-- the clause of a head, tests that have no greater numbers of variables than the head, and a body
abbrev clause_upto : Head → List Term → Option (List BodyGoal) → Option Clause
clause_upto h tests body = if is_fit_head h then clause_by h tests body (head_patterns h) else None

abbrev clause_of_tree_upto : List ℕ → ClauseTree → Option Clause
clause_of_tree_upto m (fact h) = clause_upto h [] (Some (without_priority true_goal ∷ []))
clause_of_tree_upto m (rule h body) = clause_upto h [] (fit_body m body)
clause_of_tree_upto m (guarded h tests body) = clause_upto h (list_of (series_terms tests)) (fit_body m body)

patterns_by : (h : Head) (tests : List Term) (body : Option (List BodyGoal)) (b : Bool) (ps : List Term) → option_and_then (λ qs. clause_by h tests body (terms_of qs)) (if◌then◌else◌ {A = Option (List Term)} b (Some ps) None) ≡ if◌then◌else◌ {A = Option Clause} b (clause_by h tests body (terms_of ps)) None
patterns_by h tests body true ps = refl
patterns_by h tests body false ps = refl

-- a head with tests and a body means the same clause
statement_means : (m : List ℕ) (h : Head) (tests : List Term) (body : List BodyGoal) (goals : Option (List BodyGoal)) → each_of (fit_named m) body ≡ goals → clause_of_statement m (record { heading = heading h; tests = tests; body = body }) ≡ clause_upto h tests goals
statement_means m h tests body goals e =
    ap (λ gs. option_and_then (λ qs. clause_by h tests gs (terms_of qs)) (if◌then◌else◌ {A = Option (List Term)} (is_fit_name (head_name h) (list_of (head_patterns h))) (Some (list_of (head_patterns h))) None)) e
    ∙ patterns_by h tests goals (is_fit_name (head_name h) (list_of (head_patterns h))) (list_of (head_patterns h))
    ∙ ap (λ b. if◌then◌else◌ {A = Option Clause} b (clause_by h tests goals (terms_of (list_of (head_patterns h)))) None) (fit_again h)
    ∙ ap (λ ps. if◌then◌else◌ {A = Option Clause} (is_fit_head h) (clause_by h tests goals ps) None) (terms_again (head_patterns h))

-- the clause of a tree that was read, and of terms that were read
abbrev tree_clause : List ℕ → Answer ClauseTree → Option Clause
tree_clause m x = option_and_then (clause_of_tree_upto m) (all_read x)

abbrev terms_clause : List ℕ → Answer Statement → Option Clause
terms_clause m x = option_and_then (clause_of_statement m) (all_read x)

none_then : {A B : Type 0} (x : Option A) → ◌≡◌ {A = Option B} (option_and_then (λ y. None) x) None
none_then None = refl
none_then (Some y) = refl

-- what is given for nothing that isn't fit is given for no list with such an element
module _ {A B : Type 0} (fits : A → Bool) (f : A → Option B) (fails : (t : A) → fits t ≡ false → f t ≡ None) where
  one_fails : (t : A) (ts : List A) → (list_all fits ts ≡ false → each_of f ts ≡ None) → (fits t ≡ false) ⊎ (list_all fits ts ≡ false) → each_of f (t ∷ ts) ≡ None
  one_fails t ts rest (inl e) = ap (λ x. option_and_then (λ y. option_map (λ ys. y ∷ ys) (each_of f ts)) x) (fails t e)
  one_fails t ts rest (inr e) = ap (λ (x : Option (List B)). option_and_then (λ y. option_map (λ ys. y ∷ ys) x) (f t)) (rest e) ∙ none_then (f t)

  each_fails : (ts : List A) → list_all fits ts ≡ false → each_of f ts ≡ None
  each_fails [] h = absurd (true≢false h)
  each_fails (t ∷ ts) h = one_fails t ts (each_fails ts) (and_cases (fits t) (list_all fits ts) h)

test_fails : (most : ℕ) (t : Term) → is_writable t ≡ false → fit_test_upto most t ≡ None
test_fails most t h = ap (λ b. if◌then◌else◌ {A = Option Term} (b && is_test t && nat_le (highest t) most) (Some t) None) h

goal_fails : (m : List ℕ) (g : BodyGoal) → is_writable g.goal ≡ false → fit_named m g ≡ None
goal_fails m g h = ap (λ b. if◌then◌else◌ {A = Option BodyGoal} (b && may_have g.priority g.goal) (option_map (λ t. record { goal = t; priority = g.priority }) (body_goal m g.goal)) None) h

-- nothing comes of a head that may not stand there
head_gone : (h : Head) (tests : List Term) (body : Option (List BodyGoal)) → is_fit_head h ≡ false → clause_upto h tests body ≡ None
head_gone h tests body e =
    ap (λ b. if◌then◌else◌ {A = Option Clause} b (clause_by h tests body (head_patterns h)) None) e

-- a goal with its priority is fit if its tree is
and_true : (b : Bool) → b && true ≡ b
and_true true = refl
and_true false = refl

goal_fits : (m : List ℕ) (g : GoalTree) → fit_named m (goal_named g) ≡ fit_goal m g
goal_fits m (plain_goal e) = ap (λ b. if◌then◌else◌ {A = Option BodyGoal} b (option_map without_priority (body_goal m (expression_term e))) None) (and_true (is_writable (expression_term e)))
goal_fits m (urgent_goal e quotes n) = refl

goals_fit : (m : List ℕ) (gs : List GoalTree) → each_of (fit_named m) (map goal_named gs) ≡ each_of (fit_goal m) gs
goals_fit m [] = refl
goals_fit m (g ∷ gs) =
    ap (λ x. option_and_then (λ y. option_map (λ ys. y ∷ ys) (each_of (fit_named m) (map goal_named gs))) x) (goal_fits m g)
    ∙ ap (λ (x : Option (List BodyGoal)). option_and_then (λ y. option_map (λ ys. y ∷ ys) x) (fit_goal m g)) (goals_fit m gs)

-- the terms of goals, if none names a priority
abbrev plain_by : Option ℕ → Term → Option (List Term) → Option (List Term)
plain_by None t x = option_map (λ ts. t ∷ ts) x
plain_by (Some n) t x = None

abbrev plain_terms : List BodyGoal → Option (List Term)
plain_terms [] = Some []
plain_terms (g ∷ gs) = plain_by g.priority g.goal (plain_terms gs)

mapped : {A B C : Type 0} (f : B → C) (g : A → B) (x : Option A) → option_map f (option_map g x) ≡ option_map (λ a. f (g a)) x
mapped f g None = refl
mapped f g (Some a) = refl

abbrev names : Body → List BodyGoal
names b = map goal_named (trees_of b)

tests_plain : (b : Body) → option_map (λ s. list_of (series_terms s)) (tests_of b) ≡ plain_terms (names b)
tests_plain (last_goal (plain_goal e)) = refl
tests_plain (last_goal (urgent_goal e quotes n)) = refl
tests_plain (another_goal (plain_goal e) b) =
    mapped (λ s. list_of (series_terms s)) (λ s. another e s) (tests_of b)
    ∙ sym (mapped (λ ts. expression_term e ∷ ts) (λ s. list_of (series_terms s)) (tests_of b))
    ∙ ap (option_map (λ ts. expression_term e ∷ ts)) (tests_plain b)
tests_plain (another_goal (urgent_goal e quotes n) b) = refl

-- goals without priorities are terms; those of which one has a priority are none
plain_again : (ts : List Term) → plain_terms (goals_named None ts) ≡ Some ts
plain_again [] = refl
plain_again (t ∷ []) = refl
plain_again (t ∷ u ∷ ts) = ap (option_map (λ us. t ∷ us)) (plain_again (u ∷ ts))

urgent_terms : (n : ℕ) (s : Series) (gs : List BodyGoal) → plain_terms (goals_named (Some n) (list_of (series_terms s)) ++ gs) ≡ None
urgent_terms n (last e) gs = refl
urgent_terms n (another e (last f)) gs = refl
urgent_terms n (another e (another f s)) gs = ap (option_map (λ us. expression_term e ∷ us)) (urgent_terms n (another f s) gs)

one_plain : (p : Option ℕ) (t : Term) (x : Option (List Term)) (b : Bool) (ts : List Term) → ((us : List Term) → x ≡ Some us → b ≡ list_all is_writable us) → plain_by p t x ≡ Some ts → (is_writable t && b) ≡ list_all is_writable ts
one_plain None t None b ts same h = absurd (none-some ts h)
one_plain None t (Some us) b ts same h = ap (λ c. is_writable t && c) (same us refl) ∙ ap (list_all is_writable) (same_Some (t ∷ us) ts h)
one_plain (Some n) t x b ts same h = absurd (none-some ts h)

plain_written : (gs : List BodyGoal) (ts : List Term) → plain_terms gs ≡ Some ts → are_written gs ≡ list_all is_writable ts
plain_written [] ts h = ap (list_all is_writable) (same_Some [] ts h)
plain_written (g ∷ gs) ts h = one_plain g.priority g.goal (plain_terms gs) (are_written gs) ts (plain_written gs) h

-- nothing comes of a clause with a test or a goal that can't be written
none_behind : (x : Option (List Term)) (f : List Term → Option Clause) → ((ps : List Term) → f ps ≡ None) → option_and_then f x ≡ None
none_behind None f nothing = refl
none_behind (Some ps) f nothing = nothing ps

body_gone : (m : List ℕ) (h : Heading) (tests : List Term) (gs : List BodyGoal) (us : List Numbered) → are_written gs ≡ false → terms_clause m (Some (statement_by h tests gs, us)) ≡ None
body_gone m h tests gs [] e =
    none_behind (fit_patterns h.name h.arguments) (clause_behind m (statement_by h tests gs)) (λ ps.
    ap (λ (x : Option (List BodyGoal)). option_and_then (λ ts. option_map (λ gs. record { name = h.name; patterns = terms_of ps; tests = ts; section = 0; body = gs }) x) (each_of (fit_test_upto (highest_in (terms_of ps))) tests)) (each_fails (λ (g : BodyGoal). is_writable g.goal) (fit_named m) (goal_fails m) gs e)
    ∙ none_then (each_of (fit_test_upto (highest_in (terms_of ps))) tests))
body_gone m h tests gs (u ∷ us) e = refl

tests_gone : (m : List ℕ) (h : Heading) (tests : List Term) (gs : List BodyGoal) (us : List Numbered) → list_all is_writable tests ≡ false → terms_clause m (Some (statement_by h tests gs, us)) ≡ None
tests_gone m h tests gs [] e =
    none_behind (fit_patterns h.name h.arguments) (clause_behind m (statement_by h tests gs)) (λ ps.
    ap (λ (x : Option (List Term)). option_and_then (λ ts. option_map (λ gs. record { name = h.name; patterns = terms_of ps; tests = ts; section = 0; body = gs }) (each_of (fit_named m) gs)) x) (each_fails is_writable (fit_test_upto (highest_in (terms_of ps))) (test_fails (highest_in (terms_of ps))) tests e))
tests_gone m h tests gs (u ∷ us) e = refl

tests_gone_with : (m : List ℕ) (h : Heading) (tests : List Term) (x : Answer (List BodyGoal)) → list_all is_writable tests ≡ false → terms_clause m (with_body h tests x) ≡ None
tests_gone_with m h tests None e = refl
tests_gone_with m h tests (Some r) e = tests_gone m h tests r.0 r.1 e

-- what is after a neck, as the goals of a body, before it is known whether they can be written
abbrev behind_goals : Heading → List BodyGoal → List Numbered → Option (List Numbered) → Answer Statement
behind_goals h gs us y = if_there y (Some (statement_by h [] gs, us)) (λ vs. option_and_then (λ ts. with_body h ts (goals_read vs)) (plain_terms gs))

abbrev behind_all : Heading → Answer (List BodyGoal) → Answer Statement
behind_all h x = then_read x (λ gs us. behind_goals h gs us (behind_bar us))

-- trees and goals mean the same
rule_means : (m : List ℕ) (h : Head) (b : Body) (us : List Numbered) → tree_clause m (Some (rule h b, us)) ≡ terms_clause m (Some (statement_by (heading h) [] (names b), us))
rule_means m h b [] = sym (statement_means m h [] (names b) (fit_body m b) (goals_fit m (trees_of b)))
rule_means m h b (u ∷ us) = refl

guarded_mean : (m : List ℕ) (h : Head) (s : Series) (b : Body) (us : List Numbered) → tree_clause m (Some (guarded h s b, us)) ≡ terms_clause m (Some (statement_by (heading h) (list_of (series_terms s)) (names b), us))
guarded_mean m h s b [] = sym (statement_means m h (list_of (series_terms s)) (names b) (fit_body m b) (goals_fit m (trees_of b)))
guarded_mean m h s b (u ∷ us) = refl

fact_means : (m : List ℕ) (h : Head) (us : List Numbered) → tree_clause m (Some (fact h, us)) ≡ terms_clause m (Some (statement_by (heading h) [] (without_priority true_goal ∷ []), us))
fact_means m h [] = sym (statement_means m h [] (without_priority true_goal ∷ []) (Some (without_priority true_goal ∷ [])) refl)
fact_means m h (u ∷ us) = refl

-- a body after a bar
abbrev behind_bar_at : Head → Series → Answer Body → Answer ClauseTree
behind_bar_at h s x = then_read x (λ body ws. Some (guarded h s body, ws))

-- a body, or tests with what is after them
abbrev behind_body_at : Head → Body → List Numbered → Option Series → Option (List Numbered) → Answer ClauseTree
behind_body_at h b us x y = if_there y (Some (rule h b, us)) (λ vs. option_and_then (λ s. behind_bar_at h s (body_at reading vs)) x)

second_means : (m : List ℕ) (h : Head) (s : Series) (x : Answer Body) → tree_clause m (behind_bar_at h s x) ≡ terms_clause m (with_body (heading h) (list_of (series_terms s)) (answer_map names x))
second_means m h s None = refl
second_means m h s (Some r) = guarded_mean m h s r.0 r.1

tests_mean : (m : List ℕ) (h : Head) (vs : List Numbered) (x : Option Series) → tree_clause m (option_and_then (λ s. behind_bar_at h s (body_at reading vs)) x) ≡ terms_clause m (option_and_then (λ ts. with_body (heading h) ts (goals_read vs)) (option_map (λ s. list_of (series_terms s)) x))
unfolding goals_read
tests_mean m h vs None = refl
tests_mean m h vs (Some s) = second_means m h s (body_at reading vs)

goals_mean : (m : List ℕ) (h : Head) (b : Body) (us : List Numbered) (y : Option (List Numbered)) → tree_clause m (behind_body_at h b us (tests_of b) y) ≡ terms_clause m (behind_goals (heading h) (names b) us y)
goals_mean m h b us None = rule_means m h b us
goals_mean m h b us (Some vs) =
    tests_mean m h vs (tests_of b)
    ∙ ap (λ x. terms_clause m (option_and_then (λ ts. with_body (heading h) ts (goals_read vs)) x)) (tests_plain b)

neck_means : (m : List ℕ) (h : Head) (x : Answer Body) → tree_clause m (then_read x (λ b us. behind_body_at h b us (tests_of b) (behind_bar us))) ≡ terms_clause m (behind_all (heading h) (answer_map names x))
neck_means m h None = refl
neck_means m h (Some r) = goals_mean m h r.0 r.1 (behind_bar r.1)

necks_mean : (m : List ℕ) (h : Head) (ts : List Numbered) → tree_clause m (behind_neck_at reading h ts) ≡ terms_clause m (behind_all (heading h) (goals_read ts))
unfolding goals_read
necks_mean m h ts = neck_means m h (body_at reading ts)

-- no clause comes of goals of which one can't be written
unwritten_tests : (m : List ℕ) (h : Heading) (gs : List BodyGoal) (vs : List Numbered) (x : Option (List Term)) → plain_terms gs ≡ x → are_written gs ≡ false → terms_clause m (option_and_then (λ ts. with_body h ts (goals_read vs)) x) ≡ None
unwritten_tests m h gs vs None e w = refl
unwritten_tests m h gs vs (Some ts) e w = tests_gone_with m h ts (goals_read vs) (sym (plain_written gs ts e) ∙ w)

unwritten_goals : (m : List ℕ) (h : Heading) (gs : List BodyGoal) (us : List Numbered) (y : Option (List Numbered)) → are_written gs ≡ false → terms_clause m (behind_goals h gs us y) ≡ None
unwritten_goals m h gs us None w = body_gone m h [] gs us w
unwritten_goals m h gs us (Some vs) w = unwritten_tests m h gs vs (plain_terms gs) refl w

kept_none : (gs : List BodyGoal) (us : List Numbered) (b : Bool) → if◌then◌else◌ {A = Answer (List BodyGoal)} b (Some (gs, us)) None ≡ None → b ≡ false
kept_none gs us true h = absurd (none-some (gs, us) (sym h))
kept_none gs us false h = refl

unwritten_all : (m : List ℕ) (h : Heading) (x : Answer (List BodyGoal)) → written x ≡ None → terms_clause m (behind_all h x) ≡ None
unwritten_all m h None w = refl
unwritten_all m h (Some r) w = unwritten_goals m h r.0 r.1 (behind_bar r.1) (kept_none r.0 r.1 (are_written r.0) w)

kept_means : (m : List ℕ) (h : Heading) (tests : List Term) (gs : List BodyGoal) (us : List Numbered) (b : Bool) → are_written gs ≡ b → terms_clause m (Some (statement_by h tests gs, us)) ≡ terms_clause m (with_body h tests (if◌then◌else◌ {A = Answer (List BodyGoal)} b (Some (gs, us)) None))
kept_means m h tests gs us true w = refl
kept_means m h tests gs us false w = body_gone m h tests gs us w

written_means : (m : List ℕ) (h : Heading) (tests : List Term) (x : Answer (List BodyGoal)) → terms_clause m (with_body h tests x) ≡ terms_clause m (with_body h tests (written x))
written_means m h tests None = refl
written_means m h tests (Some r) = kept_means m h tests r.0 r.1 (are_written r.0) refl

-- goals of which one names a priority are no tests
bar_none : (m : List ℕ) (s : Statement) (us vs : List Numbered) → behind_bar us ≡ Some vs → terms_clause m (Some (s, us)) ≡ None
bar_none m s us vs h = subst (λ xs. terms_clause m (Some (s, xs)) ≡ None) (bar_is us vs h) refl

urgent_by : (m : List ℕ) (h : Heading) (gs : List BodyGoal) (us : List Numbered) (y : Option (List Numbered)) → behind_bar us ≡ y → plain_terms gs ≡ None → terms_clause m (behind_goals h gs us y) ≡ terms_clause m (Some (statement_by h [] gs, us))
urgent_by m h gs us None bar urgent = refl
urgent_by m h gs us (Some vs) bar urgent =
    ap (λ x. terms_clause m (option_and_then (λ ts. with_body h ts (goals_read vs)) x)) urgent ∙ sym (bar_none m (statement_by h [] gs) us vs bar)

module _ (m : List ℕ) (h : Heading) (s : Series) where
  abbrev urgent : ℕ → List BodyGoal
  urgent n = goals_named (Some n) (list_of (series_terms s))

  behind_front : (n : ℕ) (x : Answer (List BodyGoal)) → terms_clause m (behind_all h (with_front (urgent n) x)) ≡ terms_clause m (with_body h [] (with_front (urgent n) x))
  behind_front n None = refl
  behind_front n (Some r) = urgent_by m h (urgent n ++ r.0) r.1 (behind_bar r.1) refl (urgent_terms n s r.0)

  behind_urgent : (n : ℕ) (ws : List Numbered) (y : Option (List Numbered)) →
      terms_clause m (behind_all h (if_there y (Some (urgent n, ws)) (λ xs. with_front (urgent n) (goals_read xs))))
      ≡ terms_clause m (with_body h [] (if_there y (Some (urgent n, ws)) (λ xs. with_front (urgent n) (goals_read xs))))
  behind_urgent n ws None = urgent_by m h (urgent n) ws (behind_bar ws) refl (ap plain_terms (sym (append-nil (urgent n))) ∙ urgent_terms n s [])
  behind_urgent n ws (Some xs) = behind_front n (goals_read xs)

  behind_number : (x : Answer ℕ) →
      terms_clause m (behind_all h (then_read x (λ n ws. goals_after goals_read (urgent n) ws)))
      ≡ terms_clause m (with_body h [] (then_read x (λ n ws. goals_after goals_read (urgent n) ws)))
  behind_number None = refl
  behind_number (Some r) = behind_urgent r.0 r.1 (behind_comma r.1)

  behind_terms : (us : List Numbered) (y : Option (List Numbered)) → behind_bar us ≡ None →
      terms_clause m (behind_all h (if_there y (Some (goals_named None (list_of (series_terms s)), us)) (λ vs. then_read (priority_read vs) (λ n ws. goals_after goals_read (urgent n) ws))))
      ≡ terms_clause m (with_body h [] (if_there y (Some (goals_named None (list_of (series_terms s)), us)) (λ vs. then_read (priority_read vs) (λ n ws. goals_after goals_read (urgent n) ws))))
  behind_terms us None bar = ap (λ y. terms_clause m (behind_goals h (goals_named None (list_of (series_terms s))) us y)) bar
  behind_terms us (Some vs) bar = behind_number (priority_read vs)

-- terms after a neck, with what follows them
abbrev after_series : Heading → List Term → List Numbered → Option (List Numbered) → Answer Statement
after_series h ts us y = if_there y (with_body h [] (terms_after written_goals ts us)) (λ vs. with_body h ts (written_goals vs))

tests_there : (m : List ℕ) (h : Heading) (ts : List Term) (us vs : List Numbered) → behind_bar us ≡ Some vs → terms_clause m (behind_all h (terms_after goals_read ts us)) ≡ terms_clause m (with_body h ts (goals_read vs))
tests_there m h ts us vs bar =
    subst (λ xs. terms_clause m (behind_all h (terms_after goals_read ts xs)) ≡ terms_clause m (with_body h ts (goals_read vs))) (bar_is us vs bar)
    (ap (λ x. terms_clause m (option_and_then (λ ts. with_body h ts (goals_read vs)) x)) (plain_again ts))

series_bar : (m : List ℕ) (h : Heading) (s : Series) (us : List Numbered) (y : Option (List Numbered)) → behind_bar us ≡ y → list_all is_writable (list_of (series_terms s)) ≡ true →
    terms_clause m (behind_all h (terms_after goals_read (list_of (series_terms s)) us)) ≡ terms_clause m (after_series h (list_of (series_terms s)) us y)
series_bar m h s us None bar w =
    behind_terms m h s us (behind_at us) bar
    ∙ written_means m h [] (terms_after goals_read (list_of (series_terms s)) us)
    ∙ ap (λ x. terms_clause m (with_body h [] x)) (terms_written (list_of (series_terms s)) us w)
series_bar m h s us (Some vs) bar w =
    tests_there m h (list_of (series_terms s)) us vs bar ∙ written_means m h (list_of (series_terms s)) (goals_read vs)

series_by_written : (m : List ℕ) (h : Heading) (s : Series) (us : List Numbered) (b : Bool) → list_all is_writable (list_of (series_terms s)) ≡ b →
    terms_clause m (behind_all h (terms_after goals_read (list_of (series_terms s)) us)) ≡ terms_clause m (then_read (if◌then◌else◌ {A = Answer (List Term)} b (Some (list_of (series_terms s), us)) None) (λ ts vs. after_series h ts vs (behind_bar vs)))
series_by_written m h s us true w = series_bar m h s us (behind_bar us) refl w
series_by_written m h s us false w = unwritten_all m h (terms_after goals_read (list_of (series_terms s)) us) (terms_unwritten (list_of (series_terms s)) us w)

series_mean : (m : List ℕ) (h : Heading) (x : Answer Series) → terms_clause m (behind_all h (then_read (listed x) (terms_after goals_read))) ≡ terms_clause m (then_read (fit (listed x)) (λ ts vs. after_series h ts vs (behind_bar vs)))
series_mean m h None = refl
series_mean m h (Some r) = series_by_written m h r.0 r.1 (list_all is_writable (list_of (series_terms r.0))) refl

guarded_means : (m : List ℕ) (h : Head) (ts : List Numbered) → tree_clause m (behind_neck_at reading h ts) ≡ terms_clause m (guarded_read (heading h) ts)
unfolding series_read
guarded_means m h ts =
    necks_mean m h ts
    ∙ ap (λ x. terms_clause m (behind_all (heading h) x)) (goals_chunked ts)
    ∙ series_mean m (heading h) (series_at reading ts)

gone : (m : List ℕ) (t : ClauseTree) (us : List Numbered) → clause_of_tree_upto m t ≡ None → tree_clause m (Some (t, us)) ≡ None
gone m t [] e = e
gone m t (u ∷ us) e = refl

second_gone : (m : List ℕ) (h : Head) (s : Series) (x : Answer Body) → is_fit_head h ≡ false → tree_clause m (behind_bar_at h s x) ≡ None
second_gone m h s None e = refl
second_gone m h s (Some r) e = gone m (guarded h s r.0) r.1 (head_gone h (list_of (series_terms s)) (fit_body m r.0) e)

body_none : (m : List ℕ) (h : Head) (b : Body) (us : List Numbered) (x : Option Series) (y : Option (List Numbered)) → is_fit_head h ≡ false → tree_clause m (behind_body_at h b us x y) ≡ None
body_none m h b us x None e = gone m (rule h b) us (head_gone h [] (fit_body m b) e)
body_none m h b us None (Some vs) e = refl
body_none m h b us (Some s) (Some vs) e = second_gone m h s (body_at reading vs) e

first_gone : (m : List ℕ) (h : Head) (x : Answer Body) → is_fit_head h ≡ false → tree_clause m (then_read x (λ b us. behind_body_at h b us (tests_of b) (behind_bar us))) ≡ None
first_gone m h None e = refl
first_gone m h (Some r) e = body_none m h r.0 r.1 (tests_of r.0) (behind_bar r.1) e

-- what is after a head
abbrev behind_head_at : Head → List Numbered → Option (List Numbered) → Answer ClauseTree
behind_head_at h us y = if_there y (Some (fact h, us)) (λ vs. behind_neck_at reading h vs)

abbrev behind_head_read : Heading → List Numbered → Option (List Numbered) → Answer Statement
behind_head_read h us y = if_there y (Some (record { heading = h; tests = []; body = without_priority true_goal ∷ [] }, us)) (λ vs. guarded_read h vs)

head_means : (m : List ℕ) (h : Head) (us : List Numbered) (y : Option (List Numbered)) → tree_clause m (behind_head_at h us y) ≡ terms_clause m (behind_head_read (heading h) us y)
head_means m h us None = fact_means m h us
head_means m h us (Some vs) = guarded_means m h vs

head_none : (m : List ℕ) (h : Head) (us : List Numbered) (y : Option (List Numbered)) → is_fit_head h ≡ false → tree_clause m (behind_head_at h us y) ≡ None
head_none m h us None e = gone m (fact h) us (head_gone h [] (Some (without_priority true_goal ∷ [])) e)
head_none m h us (Some vs) e = first_gone m h (body_at reading vs) e

-- a head with arguments that can't be written may not stand there
unwritten_one : (f : List ℕ) (before : List Term) (t : Term) (ts : List Term) → (list_all is_writable ts ≡ false → is_writable (structure f (terms_of ((before ++ t ∷ []) ++ ts))) ≡ false) → (is_writable t ≡ false) ⊎ (list_all is_writable ts ≡ false) → is_writable (structure f (terms_of (before ++ t ∷ ts))) ≡ false
unwritten_one f before t ts rest (inl e) = structure_unwritable f before t ts e
unwritten_one f before t ts rest (inr e) = ap (λ us. is_writable (structure f (terms_of us))) (sym (append_assoc before (t ∷ []) ts)) ∙ rest e

unwritten_arguments : (f : List ℕ) (before ts : List Term) → list_all is_writable ts ≡ false → is_writable (structure f (terms_of (before ++ ts))) ≡ false
unwritten_arguments f before [] h = absurd (true≢false h)
unwritten_arguments f before (t ∷ ts) h = unwritten_one f before t ts (unwritten_arguments f (before ++ t ∷ []) ts) (and_cases (is_writable t) (list_all is_writable ts) h)

unfit_head : (p : List ℕ) (quotes : Bool) (s : Series) → list_all is_writable (list_of (series_terms s)) ≡ false → is_fit_head (head_with p quotes s) ≡ false
unfit_head p quotes s h =
    let e : is_writable (structure p (series_terms s)) ≡ false = ap (λ ts. is_writable (structure p ts)) (sym (terms_again (series_terms s))) ∙ unwritten_arguments p [] (list_of (series_terms s)) h in
    ap (λ b. b && is_head (structure p (series_terms s))) e

-- a head with its arguments
abbrev arguments_by : List ℕ → List Term → Option (List Numbered) → Answer Heading
arguments_by p s z = then_skip z (λ ws. Some (record { name = p; arguments = s }, ws))

abbrev head_by : List ℕ → Bool → Series → Option (List Numbered) → Answer Head
head_by p quotes s z = then_read (then_skip z (λ ws. Some (s, ws))) (λ s us. Some (head_with p quotes s, us))

abbrev go_at : Answer Head → Answer ClauseTree
go_at x = then_read x (λ h us. behind_head_at h us (behind_neck us))

abbrev go_read : Answer Heading → Answer Statement
go_read x = then_read x (λ h us. behind_head_read h us (behind_neck us))

closed_means : (m p : List ℕ) (quotes : Bool) (s : Series) (z : Option (List Numbered)) → tree_clause m (go_at (head_by p quotes s z)) ≡ terms_clause m (go_read (arguments_by p (list_of (series_terms s)) z))
closed_means m p quotes s None = refl
closed_means m p quotes s (Some ws) = head_means m (head_with p quotes s) ws (behind_neck ws)

closed_none : (m p : List ℕ) (quotes : Bool) (s : Series) (z : Option (List Numbered)) → is_fit_head (head_with p quotes s) ≡ false → tree_clause m (go_at (head_by p quotes s z)) ≡ None
closed_none m p quotes s None e = refl
closed_none m p quotes s (Some ws) e = head_none m (head_with p quotes s) ws (behind_neck ws) e

inside_by : (m p : List ℕ) (quotes : Bool) (s : Series) (vs : List Numbered) (b : Bool) → list_all is_writable (list_of (series_terms s)) ≡ b → tree_clause m (go_at (head_by p quotes s (behind_close vs))) ≡ terms_clause m (go_read (then_read (if◌then◌else◌ {A = Answer (List Term)} b (Some (list_of (series_terms s), vs)) None) (λ s vs. arguments_by p s (behind_close vs))))
inside_by m p quotes s vs true e = closed_means m p quotes s (behind_close vs)
inside_by m p quotes s vs false e = closed_none m p quotes s (behind_close vs) (unfit_head p quotes s e)

abbrev series_head : List ℕ → Bool → Answer Series → Answer Head
series_head p quotes x = then_read (then_read x (λ s vs. then_skip (behind_close vs) (λ ws. Some (s, ws)))) (λ s us. Some (head_with p quotes s, us))

inside_means : (m p : List ℕ) (quotes : Bool) (x : Answer Series) → tree_clause m (go_at (series_head p quotes x)) ≡ terms_clause m (go_read (then_read (fit (listed x)) (λ s vs. arguments_by p s (behind_close vs))))
inside_means m p quotes None = refl
inside_means m p quotes (Some r) = inside_by m p quotes r.0 r.1 (list_all is_writable (list_of (series_terms r.0))) refl

opened_means : (m p : List ℕ) (quotes : Bool) (y : Option (List Numbered)) → tree_clause m (go_at (then_read (then_skip y (λ us. then_read (series_at reading us) (λ s vs. then_skip (behind_close vs) (λ ws. Some (s, ws))))) (λ s us. Some (head_with p quotes s, us)))) ≡ terms_clause m (go_read (then_skip y (λ us. then_read (written_series us) (λ s vs. arguments_by p s (behind_close vs)))))
unfolding series_read
opened_means m p quotes None = refl
opened_means m p quotes (Some us) = inside_means m p quotes (series_at reading us)

front_means : (m : List ℕ) (ts : List Numbered) → tree_clause m (clause_at reading ts) ≡ terms_clause m (statement_read ts)
front_means m (name_token p quotes false ∷ ts) = head_means m (bare_head p quotes) ts (behind_neck ts)
front_means m (name_token p quotes true ∷ ts) = opened_means m p quotes (behind_open ts)
front_means m _ = refl

-- the tree of tokens whose variables are numbered means its clause, by the highest numbers too
tree_numbered : (m : List ℕ) (t : ClauseTree) → numbered_after 0 (numbers_of (clause_tokens t)) ≡ true → clause_of_tree_upto m t ≡ clause_of_tree m t
tree_numbered m (fact h) n = refl
tree_numbered m (rule h body) n = refl
tree_numbered m (guarded h tests body) n =
    let ps = head_patterns h in
    let ts = series_terms tests in
    let behind = sign_token Bar ∷ body_tokens body [] in
    let all : numbered_after 0 (variables_in ps ++ (variables_in ts ++ numbers_of behind)) ≡ true = ap (numbered_after 0) (sym (head_variables h (sign_token Neck ∷ series_tokens tests behind) ∙ ap (λ vs. variables_in ps ++ vs) (series_variables tests behind))) ∙ n in
    let some = and_parts (list_all (nat_le 1) (variables_in ts)) _ (sym (list_all-append (nat_le 1) (variables_in ts) (numbers_of behind)) ∙ (and_parts (list_all (nat_le 1) (variables_in ps)) _ (sym (list_all-append (nat_le 1) (variables_in ps) (variables_in ts ++ numbers_of behind)) ∙ numbered_some (variables_in ps ++ (variables_in ts ++ numbers_of behind)) 0 all)).1) in
    ap (λ (x : Option (List Term)). if◌then◌else◌ {A = Option Clause} (is_fit_head h) (option_and_then (λ us. option_map (λ gs. record { name = head_name h; patterns = ps; tests = us; section = 0; body = gs }) (fit_body m body)) x) None)
    (sym (tests_fit ps ts (numbered_front (variables_in ps) (variables_in ts ++ numbers_of behind) 0 all) some.0))

tree_by : (m : List ℕ) (ts : List (Token (List ℕ))) (x : Option ClauseTree) → clause_tree (numbered_tokens ts) ≡ x → option_and_then (clause_of_tree_upto m) x ≡ option_and_then (clause_of_tree m) x
tree_by m ts None e = refl
tree_by m ts (Some t) e = tree_numbered m t (ap (λ us. numbered_after 0 (numbers_of us)) (clause_trees_sound (numbered_tokens ts) t e) ∙ numbered_in_order ts [])

-- the clause of the terms that are read is that of the tree
pub statement_reads : (m : List ℕ) (ts : List (Token (List ℕ))) → option_and_then (clause_of_statement m) (all_read (statement_read (numbered_tokens ts))) ≡ option_and_then (clause_of_tree m) (clause_tree (numbered_tokens ts))
statement_reads m ts =
    sym (ap (option_and_then (clause_of_tree_upto m)) (clauses_go_on (numbered_tokens ts)) ∙ front_means m (numbered_tokens ts))
    ∙ tree_by m ts (clause_tree (numbered_tokens ts)) refl
