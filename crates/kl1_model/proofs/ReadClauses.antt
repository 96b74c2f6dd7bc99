-- The clauses of a module that was read have their variables numbered by first occurrence, and guards of their heads' variables.
use Rattle.std.specs.Prelude.{◌≡◌, ℕ, ◌&&◌, Bool, true, false, cond, List, [], ◌∷◌, ◌++◌, Option, Some, None, option_map, codes}
use Rattle.std.specs.List.{list_all}
use Rattle.std.proofs.Common.{refl, ap, sym, ◌∙◌}
use Rattle.std.proofs.lemmas.Bool.{and_from, and_parts}
use Rattle.std.proofs.lemmas.List.{append_assoc, append-nil}
use Rattle.std.proofs.lemmas.List.Folds.{list_all-append}
use Rattle.std.proofs.lemmas.Option.{none-some, same_Some, cond_some, option_and_then_some}
use Rattle.kl1_model.specs.declared.sign.Sign.TheVariants.{Neck, Bar}
use Rattle.kl1_model.specs.Term.{Term, atom, Terms, none, more, list_of}
use Rattle.kl1_model.specs.Token.{Token, sign_token, tokens_of_text}
use Rattle.kl1_model.specs.Grammar.{Head, GoalTree, plain_goal, urgent_goal, Body, last_goal, another_goal, ClauseTree, fact, rule, guarded, series_tokens, body_tokens, clause_tokens}
use Rattle.kl1_model.specs.reader.Reader.{clause_tree}
use Rattle.kl1_model.specs.Numbering.{numbered_tokens}
use Rattle.kl1_model.specs.Meaning.{pair, expression_term, series_terms, is_writable, variables_of, variables_in, numbered_after}
use Rattle.kl1_model.specs.Goal.{is_test, is_goal, is_head, body_goal}
use Rattle.kl1_model.specs.Module.{BodyGoal, Clause, goals_of, Module, good, Item, items_of, each_of, head_patterns, is_fit_head, has_only, fit_test, without_priority, with_priority, may_name, fit_goal, fit_body, clause_with, true_goal, clause_of_tree, clause_of, section_after, may_follow, module_of_items, read_module}
use Rattle.kl1_model.specs.laws.ReadLaws.{variables_of_each, clause_variables, is_numbered_clause}
use Rattle.kl1_model.specs.laws.WaitsLaws.{is_guarded}
use Rattle.kl1_model.proofs.ReadSound.{clause_trees_sound}
use Rattle.kl1_model.proofs.ReadMeans.{numbers_of, series_variables, tree_term, body_terms, body_variables, head_variables}
use Rattle.kl1_model.proofs.ReadOrder.{numbered_in_order}
use Rattle.kl1_model.proofs.ReadItems.{clauses_keep, items_read}

option_map_some : {A B P : Type 0} (f : A → B) (x : Option A) (b : B) → option_map f x ≡ Some b → ((a : A) → x ≡ Some a → f a ≡ b → P) → P
option_map_some f None b h k = absurd (none-some b h)
option_map_some f (Some a) b h k = k a refl (same_Some (f a) b h)

else_none : {A : Type 0} (x : Bool) (o : Option A) (a : A) → cond x o None ≡ Some a → o ≡ Some a
else_none true o a h = h
else_none false o a h = absurd (none-some a h)

-- a function that keeps the variables of each term keeps those of all
each_variables : (f : Term → Option Term) → ((t u : Term) → f t ≡ Some u → variables_of u ≡ variables_of t) → (ts us : List Term) → each_of f ts ≡ Some us → variables_of_each us ≡ variables_of_each ts
each_variables f keeps [] us h = ap variables_of_each (sym (same_Some [] us h))
each_variables f keeps (t ∷ ts) us h =
    option_and_then_some (λ y. option_map (λ ys. y ∷ ys) (each_of f ts)) (f t) us h (λ u first rest.
    option_map_some (λ ys. u ∷ ys) (each_of f ts) us rest (λ vs others is.
    ap variables_of_each (sym is)
    ∙ ap (λ x. x ++ variables_of_each vs) (keeps t u first)
    ∙ ap (λ x. variables_of t ++ x) (each_variables f keeps ts vs others)))

test_kept : (vs : List ℕ) (t u : Term) → fit_test vs t ≡ Some u → variables_of u ≡ variables_of t
test_kept vs t u h = ap variables_of (sym (cond_some (is_writable t && is_test t && has_only vs t) t u h).1)

goal_case : (x y : Bool) (m : List ℕ) (t u : Term) → cond x (Some t) (cond y (Some (pair (codes ":") (atom m) t)) None) ≡ Some u → variables_of u ≡ variables_of t
goal_case true y m t u h = ap variables_of (sym (same_Some t u h))
goal_case false true m t u h = ap variables_of (sym (same_Some (pair (codes ":") (atom m) t) u h)) ∙ append-nil (variables_of t)
goal_case false false m t u h = absurd (none-some u h)

goal_kept : (m : List ℕ) (g : GoalTree) (u : BodyGoal) → fit_goal m g ≡ Some u → variables_of u.goal ≡ variables_of (tree_term g)
goal_kept m (plain_goal e) u h =
    let t = expression_term e in
    option_map_some without_priority (body_goal m t) u (else_none (is_writable t) (option_map without_priority (body_goal m t)) u h) (λ v found here.
    ap (λ (w : BodyGoal). variables_of w.goal) (sym here) ∙ goal_case (is_goal t) (is_head t) m t v found)
goal_kept m (urgent_goal e quotes n) u h =
    let t = expression_term e in
    option_map_some (with_priority n) (body_goal m t) u (else_none (is_writable t && may_name n t) (option_map (with_priority n) (body_goal m t)) u h) (λ v found here.
    ap (λ (w : BodyGoal). variables_of w.goal) (sym here) ∙ goal_case (is_goal t) (is_head t) m t v found)

-- the goals of a body keep the variables of its trees
body_kept : (m : List ℕ) (b : Body) (gs : List BodyGoal) → fit_body m b ≡ Some gs → variables_of_each (goals_of gs) ≡ variables_in (body_terms b)
body_kept m (last_goal g) gs h =
    option_and_then_some (λ y. option_map (λ ys. y ∷ ys) (each_of (fit_goal m) [])) (fit_goal m g) gs h (λ u first rest.
    ap (λ (us : List BodyGoal). variables_of_each (goals_of us)) (sym (same_Some (u ∷ []) gs rest)) ∙ ap (λ x. x ++ []) (goal_kept m g u first))
body_kept m (another_goal g b) gs h =
    option_and_then_some (λ y. option_map (λ ys. y ∷ ys) (fit_body m b)) (fit_goal m g) gs h (λ u first rest.
    option_map_some (λ ys. u ∷ ys) (fit_body m b) gs rest (λ us others is.
    ap (λ (ws : List BodyGoal). variables_of_each (goals_of ws)) (sym is)
    ∙ ap (λ x. x ++ variables_of_each (goals_of us)) (goal_kept m g u first)
    ∙ ap (λ x. variables_of (tree_term g) ++ x) (body_kept m b us others)))

-- the variables of a clause are those of its head, its tests and its body
clause_with_variables : (h : Head) (tests : List Term) (body : Option (List BodyGoal)) (c : Clause) (ns : List ℕ) → clause_with h tests body ≡ Some c → ((gs : List BodyGoal) → body ≡ Some gs → variables_of_each (goals_of gs) ≡ ns) → clause_variables c ≡ variables_in (head_patterns h) ++ variables_of_each tests ++ ns
clause_with_variables h tests body c ns is kept =
    option_and_then_some _ (each_of (fit_test (variables_in (head_patterns h))) tests) c (else_none (is_fit_head h) _ c is) (λ ts kept_tests rest.
    option_map_some _ body c rest (λ gs there here.
    ap clause_variables (sym here)
    ∙ ap (λ x. variables_in (head_patterns h) ++ x ++ variables_of_each (goals_of gs)) (each_variables (fit_test (variables_in (head_patterns h))) (test_kept (variables_in (head_patterns h))) tests ts kept_tests)
    ∙ ap (λ x. variables_in (head_patterns h) ++ variables_of_each tests ++ x) (kept gs there)))

listed_variables : (ts : Terms) → variables_of_each (list_of ts) ≡ variables_in ts
listed_variables none = refl
listed_variables (more t ts) = ap (λ x. variables_of t ++ x) (listed_variables ts)

last_body : (b : Body) → numbers_of (body_tokens b []) ≡ variables_in (body_terms b)
last_body b = body_variables b [] ∙ append-nil (variables_in (body_terms b))

-- the variables of a clause are those of its tree's tokens
tree_variables : (m : List ℕ) (t : ClauseTree) (c : Clause) → clause_of_tree m t ≡ Some c → clause_variables c ≡ numbers_of (clause_tokens t)
tree_variables m (fact h) c is =
    clause_with_variables h [] (Some (without_priority true_goal ∷ [])) c [] is (λ gs there. ap (λ (us : List BodyGoal). variables_of_each (goals_of us)) (sym (same_Some (without_priority true_goal ∷ []) gs there)))
    ∙ append-nil (variables_in (head_patterns h) ++ [])
    ∙ sym (head_variables h [])
tree_variables m (rule h body) c is =
    let ns = variables_in (body_terms body) in
    clause_with_variables h [] (fit_body m body) c ns is (body_kept m body)
    ∙ ap (λ x. x ++ ns) (append-nil (variables_in (head_patterns h)))
    ∙ sym (head_variables h (sign_token Neck ∷ body_tokens body []) ∙ ap (λ x. variables_in (head_patterns h) ++ x) (last_body body))
tree_variables m (guarded h tests body) c is =
    let asked = list_of (series_terms tests) in
    let ns = variables_in (body_terms body) in
    let behind = sign_token Bar ∷ body_tokens body [] in
    clause_with_variables h asked (fit_body m body) c ns is (body_kept m body)
    ∙ append_assoc (variables_in (head_patterns h)) (variables_of_each asked) ns
    ∙ sym (head_variables h (sign_token Neck ∷ series_tokens tests behind)
    ∙ ap (λ x. variables_in (head_patterns h) ++ x)
    (series_variables tests behind
    ∙ ap (λ x. x ++ numbers_of behind) (sym (listed_variables (series_terms tests)))
    ∙ ap (λ x. variables_of_each asked ++ x) (last_body body)))

clause_numbered : (m : List ℕ) (ts : List (Token (List ℕ))) (c : Clause) → clause_of m ts ≡ Some c → is_numbered_clause c ≡ true
clause_numbered m ts c h =
    option_and_then_some (clause_of_tree m) (clause_tree (numbered_tokens ts)) c h (λ t read is.
    ap (numbered_after 0) (tree_variables m t c is ∙ ap numbers_of (clause_trees_sound (numbered_tokens ts) t read)) ∙ numbered_in_order ts [])

-- whether each variable of the tests is the head's
guarded_each : (vs : List ℕ) (ts us : List Term) → each_of (fit_test vs) ts ≡ Some us → list_all (has_only vs) us ≡ true
guarded_each vs [] us h = ap (list_all (has_only vs)) (sym (same_Some [] us h))
guarded_each vs (t ∷ ts) us h =
    option_and_then_some (λ y. option_map (λ ys. y ∷ ys) (each_of (fit_test vs) ts)) (fit_test vs t) us h (λ u first rest.
    option_map_some (λ ys. u ∷ ys) (each_of (fit_test vs) ts) us rest (λ ws others is.
    let k = cond_some (is_writable t && is_test t && has_only vs t) t u first in
    ap (list_all (has_only vs)) (sym is)
    ∙ and_from (has_only vs u) (list_all (has_only vs) ws)
    (ap (has_only vs) (sym k.1) ∙ (and_parts (is_writable t && is_test t) (has_only vs t) k.0).1)
    (guarded_each vs ts ws others)))

guarded_with : (h : Head) (tests : List Term) (body : Option (List BodyGoal)) (c : Clause) → clause_with h tests body ≡ Some c → is_guarded c ≡ true
guarded_with h tests body c is =
    option_and_then_some _ (each_of (fit_test (variables_in (head_patterns h))) tests) c (else_none (is_fit_head h) _ c is) (λ ts kept rest.
    option_map_some _ body c rest (λ gs there here.
    ap is_guarded (sym here) ∙ guarded_each (variables_in (head_patterns h)) tests ts kept))

guarded_tree : (m : List ℕ) (t : ClauseTree) (c : Clause) → clause_of_tree m t ≡ Some c → is_guarded c ≡ true
guarded_tree m (fact h) c is = guarded_with h [] (Some (without_priority true_goal ∷ [])) c is
guarded_tree m (rule h body) c is = guarded_with h [] (fit_body m body) c is
guarded_tree m (guarded h tests body) c is = guarded_with h (list_of (series_terms tests)) (fit_body m body) c is

clause_guarded : (m : List ℕ) (ts : List (Token (List ℕ))) (c : Clause) → clause_of m ts ≡ Some c → is_guarded c ≡ true
clause_guarded m ts c h = option_and_then_some (clause_of_tree m) (clause_tree (numbered_tokens ts)) c h (λ t read is. guarded_tree m t c is)

-- what holds of each clause that an item means, whatever its section, holds of each clause of a module
module _ (ok : Clause → Bool) (free : (c : Clause) (n : ℕ) → ok (record c { section = n }) ≡ ok c) (one : (m : List ℕ) (ts : List (Token (List ℕ))) (c : Clause) → clause_of m ts ≡ Some c → ok c ≡ true) where
  -- one more clause
  added : (m : List ℕ) (before : List Clause) (opens : Bool) (ts : List (Token (List ℕ))) (c : Clause) → list_all ok before ≡ true → clause_of m ts ≡ Some c → may_follow before opens c ≡ true → list_all ok (before ++ record c { section = section_after before opens c } ∷ []) ≡ true
  added m before opens ts c all is may =
      let placed : Clause = record c { section = section_after before opens c } in
      list_all-append ok before (placed ∷ [])
      ∙ and_from (list_all ok before) (ok placed && true) all (and_from (ok placed) true (free c (section_after before opens c) ∙ one m ts c is) refl)

  items_hold : (source : List ℕ) (items : List Item) (m : Module) → module_of_items source items ≡ good m → list_all ok m.clauses ≡ true
  items_hold source items m h =
      let read = items_read source items m h in
      clauses_keep m.name (λ cs. list_all ok cs ≡ true) (added m.name) read.others [] m.clauses None read.clauses refl

-- each clause of a module that was read has its variables numbered by first occurrence
pub clauses_are_numbered : (source : List ℕ) (m : Module) → read_module source ≡ good m → list_all is_numbered_clause m.clauses ≡ true
clauses_are_numbered source m h = items_hold is_numbered_clause (λ c n. refl) clause_numbered source (items_of (tokens_of_text source)) m h

-- and its guard has variables of its head alone
pub clauses_are_guarded : (source : List ℕ) (m : Module) → read_module source ≡ good m → list_all is_guarded m.clauses ≡ true
clauses_are_guarded source m h = items_hold is_guarded (λ c n. refl) clause_guarded source (items_of (tokens_of_text source)) m h
