-- The names of a module that was read are the texts of names.
use Rattle.std.specs.Prelude.{◌≡◌, ℕ, nat_le, ◌&&◌, Bool, true, false, cond, List, [], ◌∷◌, ◌++◌, Option, Some, None, option_map, option_and_then, codes}
use Rattle.std.specs.List.{list_all}
use Rattle.std.proofs.Common.{refl, ap, sym, ◌∙◌, subst}
use Rattle.std.proofs.lemmas.Bool.{and_from, and_parts}
use Rattle.std.proofs.lemmas.List.Folds.{list_all-append}
use Rattle.std.proofs.lemmas.Option.{none-some, same_Some, cond_some, option_and_then_some}
use Rattle.kl1_model.specs.declared.limits.TheConstants.{MOST_ARGUMENTS, MOST_DEPTH}
use Rattle.kl1_model.specs.Text.{is_text}
use Rattle.kl1_model.specs.Term.{Term, atom, count_of, list_of, terms_of}
use Rattle.kl1_model.specs.Token.{Token, tokens_of_text}
use Rattle.kl1_model.specs.Grammar.{Head, bare_head, head_with, GoalTree, plain_goal, urgent_goal, ClauseTree, fact, rule, guarded}
use Rattle.kl1_model.specs.reader.Reader.{clause_tree}
use Rattle.kl1_model.specs.Numbering.{numbered_tokens}
use Rattle.kl1_model.specs.Meaning.{pair, expression_term, series_terms, head_term, depth, is_narrow, are_narrow, is_writable, variables_in}
use Rattle.kl1_model.specs.Goal.{is_head, is_test, is_goal, body_goal}
use Rattle.kl1_model.specs.Module.{BodyGoal, Clause, goals_of, Module, good, Item, items_of, named_module, each_of, head_name, head_patterns, is_fit_head, has_only, fit_test, without_priority, with_priority, may_name, fit_goal, trees_of, fit_body, clause_with, true_goal, clause_of_tree, clause_of, section_after, may_follow, module_of_items, read_module}
use Rattle.kl1_model.specs.State.{names_in, names_of_clause, names_of_clauses, names_of_module}
use Rattle.kl1_model.proofs.ReadItems.{clauses_keep, items_read}
use Rattle.kl1_model_server.proofs.NewNames.{names_in_are_texts}
use Rattle.kl1_model_server.proofs.ReadNames.{ItemsHave, items_have_texts, GivesText, item_gives_text}

option_map_some : {A B P : Type 0} (f : A → B) (x : Option A) (b : B) → option_map f x ≡ Some b → ((a : A) → x ≡ Some a → f a ≡ b → P) → P
option_map_some f None b h k = absurd (none-some b h)
option_map_some f (Some a) b h k = k a refl (same_Some (f a) b h)

passed : {A : Type 0} (x : Bool) (o : Option A) (a : A) → cond x o None ≡ Some a → (x ≡ true) × (o ≡ Some a)
passed true o a h = (refl, h)
passed false o a h = absurd (none-some a h)

writable_narrow : (t : Term) → is_writable t ≡ true → is_narrow t ≡ true
writable_narrow t h = (and_parts (is_narrow t) (nat_le (depth t) MOST_DEPTH) h).0

-- what holds of whatever a function gives holds of each that it gives
each_holds : {A B : Type 0} (f : A → Option B) (ok : B → Bool) → ((x : A) (y : B) → f x ≡ Some y → ok y ≡ true) → (xs : List A) (ys : List B) → each_of f xs ≡ Some ys → list_all ok ys ≡ true
each_holds f ok one [] ys h = ap (list_all ok) (sym (same_Some [] ys h))
each_holds f ok one (x ∷ xs) ys h =
    option_and_then_some (λ y. option_map (λ ys. y ∷ ys) (each_of f xs)) (f x) ys h (λ u first rest.
    option_map_some (λ ys. u ∷ ys) (each_of f xs) ys rest (λ us others is.
    ap (list_all ok) (sym is) ∙ and_from (ok u) (list_all ok us) (one x u first) (each_holds f ok one xs us others)))

test_narrow : (vs : List ℕ) (t u : Term) → fit_test vs t ≡ Some u → is_narrow u ≡ true
test_narrow vs t u h =
    let k = cond_some (is_writable t && is_test t && has_only vs t) t u h in
    ap is_narrow (sym k.1) ∙ writable_narrow t (and_parts (is_writable t) (is_test t) (and_parts (is_writable t && is_test t) (has_only vs t) k.0).0).0

-- whether a goal of a body has names and integers that can be written
abbrev is_narrow_goal : BodyGoal → Bool
is_narrow_goal g = is_narrow g.goal

goal_case : (x y : Bool) (m : List ℕ) (t u : Term) → is_text m ≡ true → is_narrow t ≡ true → cond x (Some t) (cond y (Some (pair (codes ":") (atom m) t)) None) ≡ Some u → is_narrow u ≡ true
goal_case true y m t u text narrow h = ap is_narrow (sym (same_Some t u h)) ∙ narrow
goal_case false true m t u text narrow h =
    ap is_narrow (sym (same_Some (pair (codes ":") (atom m) t) u h)) ∙ and_from (is_text m) (is_narrow t && true) text (and_from (is_narrow t) true narrow refl)
goal_case false false m t u text narrow h = absurd (none-some u h)

goal_narrow : (m : List ℕ) → is_text m ≡ true → (g : GoalTree) (u : BodyGoal) → fit_goal m g ≡ Some u → is_narrow_goal u ≡ true
goal_narrow m text (plain_goal e) u h =
    let t = expression_term e in
    let k = passed (is_writable t) (option_map without_priority (body_goal m t)) u h in
    option_map_some without_priority (body_goal m t) u k.1 (λ v found here.
    ap is_narrow_goal (sym here) ∙ goal_case (is_goal t) (is_head t) m t v text (writable_narrow t k.0) found)
goal_narrow m text (urgent_goal e quotes n) u h =
    let t = expression_term e in
    let k = passed (is_writable t && may_name n t) (option_map (with_priority n) (body_goal m t)) u h in
    option_map_some (with_priority n) (body_goal m t) u k.1 (λ v found here.
    ap is_narrow_goal (sym here) ∙ goal_case (is_goal t) (is_head t) m t v text (writable_narrow t (and_parts (is_writable t) (may_name n t) k.0).0) found)

terms_narrow : (ts : List Term) → list_all is_narrow ts ≡ true → are_narrow (terms_of ts) ≡ true
terms_narrow [] h = refl
terms_narrow (t ∷ ts) h =
    let both = and_parts (is_narrow t) (list_all is_narrow ts) h in
    and_from (is_narrow t) (are_narrow (terms_of ts)) both.0 (terms_narrow ts both.1)

goals_narrow : (gs : List BodyGoal) → list_all is_narrow_goal gs ≡ true → are_narrow (terms_of (goals_of gs)) ≡ true
goals_narrow [] h = refl
goals_narrow (g ∷ gs) h =
    let both = and_parts (is_narrow_goal g) (list_all is_narrow_goal gs) h in
    and_from (is_narrow g.goal) (are_narrow (terms_of (goals_of gs))) both.0 (goals_narrow gs both.1)

head_narrow : (h : Head) → is_narrow (head_term h) ≡ true → (is_text (head_name h) ≡ true) × (are_narrow (head_patterns h) ≡ true)
head_narrow (bare_head p quotes) is = (is, refl)
head_narrow (head_with p quotes s) is =
    let ts = series_terms s in
    let front = and_parts (is_text p && nat_le 1 (count_of ts) && nat_le (count_of ts) MOST_ARGUMENTS) (are_narrow ts) is in
    let named = and_parts (is_text p && nat_le 1 (count_of ts)) (nat_le (count_of ts) MOST_ARGUMENTS) front.0 in
    ((and_parts (is_text p) (nat_le 1 (count_of ts)) named.0).0, front.1)

-- whether the names of a clause are texts
abbrev has_texts : Clause → Bool
has_texts c = list_all is_text (names_of_clause c)

three_texts : (a b c : List (List ℕ)) → list_all is_text a ≡ true → list_all is_text b ≡ true → list_all is_text c ≡ true → list_all is_text (a ++ b ++ c) ≡ true
three_texts a b c p q r =
    list_all-append is_text (a ++ b) c
    ∙ and_from (list_all is_text (a ++ b)) (list_all is_text c) (list_all-append is_text a b ∙ and_from (list_all is_text a) (list_all is_text b) p q) r

parts_texts : (h : Head) (ts : List Term) (gs : List BodyGoal) → is_fit_head h ≡ true → list_all is_narrow ts ≡ true → list_all is_narrow_goal gs ≡ true → has_texts (record { name = head_name h; patterns = head_patterns h; tests = ts; section = 0; body = gs }) ≡ true
parts_texts h ts gs fit tests body =
    let head = head_narrow h (writable_narrow (head_term h) (and_parts (is_writable (head_term h)) (is_head (head_term h)) fit).0) in
    let a = names_in (head_patterns h) in
    let b = names_in (terms_of ts) in
    let c = names_in (terms_of (goals_of gs)) in
    and_from (is_text (head_name h)) (list_all is_text (a ++ b ++ c)) head.0
    (three_texts a b c (names_in_are_texts (head_patterns h) head.1) (names_in_are_texts (terms_of ts) (terms_narrow ts tests)) (names_in_are_texts (terms_of (goals_of gs)) (goals_narrow gs body)))

clause_with_texts : (h : Head) (tests : List Term) (body : Option (List BodyGoal)) (c : Clause) → ((gs : List BodyGoal) → body ≡ Some gs → list_all is_narrow_goal gs ≡ true) → clause_with h tests body ≡ Some c → has_texts c ≡ true
clause_with_texts h tests body c narrow is =
    let k = passed (is_fit_head h) _ c is in
    option_and_then_some _ (each_of (fit_test (variables_in (head_patterns h))) tests) c k.1 (λ ts kept rest.
    option_map_some _ body c rest (λ gs there here.
    ap has_texts (sym here) ∙ parts_texts h ts gs k.0 (each_holds (fit_test (variables_in (head_patterns h))) is_narrow (test_narrow (variables_in (head_patterns h))) tests ts kept) (narrow gs there)))

tree_texts : (m : List ℕ) → is_text m ≡ true → (t : ClauseTree) (c : Clause) → clause_of_tree m t ≡ Some c → has_texts c ≡ true
tree_texts m text (fact h) c is = clause_with_texts h [] (Some (without_priority true_goal ∷ [])) c (λ gs there. ap (list_all is_narrow_goal) (sym (same_Some (without_priority true_goal ∷ []) gs there))) is
tree_texts m text (rule h body) c is = clause_with_texts h [] (fit_body m body) c (each_holds (fit_goal m) is_narrow_goal (goal_narrow m text) (trees_of body)) is
tree_texts m text (guarded h tests body) c is = clause_with_texts h (list_of (series_terms tests)) (fit_body m body) c (each_holds (fit_goal m) is_narrow_goal (goal_narrow m text) (trees_of body)) is

clause_texts : (m : List ℕ) → is_text m ≡ true → (ts : List (Token (List ℕ))) (c : Clause) → clause_of m ts ≡ Some c → has_texts c ≡ true
clause_texts m text ts c h = option_and_then_some (clause_of_tree m) (clause_tree (numbered_tokens ts)) c h (λ t read is. tree_texts m text t c is)

-- clauses whose names are texts, with one more
added : (m : List ℕ) → is_text m ≡ true → (before : List Clause) (opens : Bool) (ts : List (Token (List ℕ))) (c : Clause) → list_all has_texts before ≡ true → clause_of m ts ≡ Some c → may_follow before opens c ≡ true → list_all has_texts (before ++ record c { section = section_after before opens c } ∷ []) ≡ true
added m text before opens ts c all is may =
    let placed : Clause = record c { section = section_after before opens c } in
    list_all-append has_texts before (placed ∷ [])
    ∙ and_from (list_all has_texts before) (has_texts placed && true) all (and_from (has_texts placed) true (clause_texts m text ts c is) refl)

clauses_texts : (cs : List Clause) → list_all has_texts cs ≡ true → list_all is_text (names_of_clauses cs) ≡ true
clauses_texts [] h = refl
clauses_texts (c ∷ cs) h =
    let both = and_parts (has_texts c) (list_all has_texts cs) h in
    list_all-append is_text (names_of_clause c) (names_of_clauses cs) ∙ and_from (has_texts c) (list_all is_text (names_of_clauses cs)) both.0 (clauses_texts cs both.1)

-- whether the names of a module are texts
abbrev module_has_texts : Module → Bool
module_has_texts m = list_all is_text (names_of_module m)

named_text : (x : Option (List ℕ)) (name : List ℕ) → GivesText x → x ≡ Some name → is_text name ≡ true
named_text None name text is = absurd (none-some name is)
named_text (Some n) name text is = ap is_text (sym (same_Some n name is)) ∙ text

items_texts : (source : List ℕ) (items : List Item) (m : Module) → ItemsHave items → module_of_items source items ≡ good m → module_has_texts m ≡ true
items_texts source items m have h =
    let read = items_read source items m h in
    let all : ItemsHave (read.item ∷ read.others) = subst ItemsHave read.all have in
    let text = named_text (option_and_then named_module read.item.tokens) m.name (item_gives_text read.item.tokens all.0) read.named in
    and_from (is_text m.name) (list_all is_text (names_of_clauses m.clauses)) text
    (clauses_texts m.clauses (clauses_keep m.name (λ cs. list_all has_texts cs ≡ true) (added m.name text) read.others [] m.clauses None read.clauses refl))

-- the names of a module that was read are texts
pub module_names_are_texts : (source : List ℕ) (m : Module) → read_module source ≡ good m → list_all is_text (names_of_module m) ≡ true
module_names_are_texts source m h = items_texts source (items_of (tokens_of_text source)) m (items_have_texts source) h
