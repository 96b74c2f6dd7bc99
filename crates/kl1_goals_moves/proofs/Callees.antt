-- Calls, and goals that are none.
use Rattle.std.proofs.Common.{◌≡◌, ℕ, ◌<◌, ◌==◌, Bool, true, false, if◌then◌else◌, List, [], ◌∷◌, length, refl, sym, ap, subst, ◌∙◌, arith}
use Rattle.std.specs.Prelude.{not, ◌&&◌, Option, Some, None, slice_get, codes, bytes_eq}
use Rattle.std.proofs.lemmas.Bool.{cond-true, cond-false, and_right, and_parts, eqb-true}
use Rattle.std.proofs.lemmas.Slice.Eq.{bytes_eq-Decides}
use Rattle.kl1_model.specs.Term.{Term, variable, integer, atom, structure, Terms, none, more, count_of}
use Rattle.kl1_model.specs.Match as model
use Rattle.kl1_model.specs.Match.{call_of}
use Rattle.kl1_model.specs.Arithmetic.{evaluated}
use Rattle.kl1_model.specs.Goal.{is_execute}
use Rattle.kl1_model.specs.Look as model_look
use Rattle.kl1_model.specs.Look.{spelling, arguments_look}
use Rattle.kl1_model.specs.declared.rules.Rules.{Rules}
use Rattle.kl1_model.specs.State.{most_spelled}
use Rattle.kl1_model.specs.Reduction.{Move, unifies, goes, execute_arguments, execute_move, built_in_move, becomes, move_found, names, opens}
use Rattle.kl1_model.specs.code.Steps.{order_move}
use Rattle.kl1_model.specs.code.Waits.{awaited_in_call, awaited_at_head, awaited_by_order, awaited_by_execute, awaited_by_built_in, awaited_by_found}
use Rattle.kl1_store.specs.declared.cell.Cell.{Cell}
use Rattle.kl1_store.specs.declared.qualified.Qualified.{Qualified}
use Rattle.kl1_store.specs.declared.cell.Cell.TheVariants.{Atom, Structure}
use Rattle.kl1_store.specs.Held.{Held, IsIn, arguments_of}
use Rattle.kl1_store.specs.Meaning.{term_of, terms_of}
use Rattle.kl1_store.specs.InModules.{in_module, qualified_term}
use Rattle.kl1_store.specs.Sound.{IsFormed}
use Rattle.kl1_store.proofs.Terms.{term_of-Structure}
use Rattle.kl1_store.proofs.Meetings.{named, count_of-terms_of}
use Rattle.kl1_match.specs.Verdicts.{arguments_of_goal}
use Rattle.kl1_match.proofs.Cells.{at_atom}
use Rattle.kl1_goals_moves.specs.declared.call.Call.{Call}
use Rattle.kl1_goals_moves.specs.declared.calling.Callee.{Callee}
use Rattle.kl1_goals_moves.specs.declared.calling.Callee.TheVariants as callee
use Rattle.kl1_goals_moves.specs.declared.kind.Kind.{Kind}
use Rattle.kl1_goals_moves.specs.declared.kind.Kind.TheVariants as kind
use Rattle.kl1_goals_moves.specs.Shapes.{IsNoGoal, two_terms}
use Rattle.kl1_model.specs.Meaning.{pair}
use Rattle.kl1_goals_moves.specs.Judged.{six, order_goal}
use Rattle.kl1_goals_moves.specs.declared.order.ExecuteArguments.{ExecuteArguments}
use Rattle.kl1_goals_moves.specs.Orders.{order_at, IsOrder}
use Rattle.kl1_goals_moves.specs.Calls.{atom_in, name_in, cell_in, cell_of, IsOf, IsNameless, CallsNothing, Calls, CalledIn, CalledBetween, CalledAs, CalledInside, IsCounted, is_order}
use Rattle.kl1_goals_moves.specs.Kinds.{IsCall, IsUnification, IsAssignment, IsSpelling, IsExecution, IsTrueGoal, IsKind, KindIn, order_kind, callee_kind}

-- ---- under another name than `:`

pub other_name : (f : List ℕ) (a b : Term) → bytes_eq f (codes ":") ≡ false → call_of (structure f (more a (more b none))) ≡ None
other_name f (variable n) b e = refl
other_name f (integer n) b e = refl
other_name f (structure g us) b e = refl
other_name f (atom m) (variable n) e = refl
other_name f (atom m) (integer n) e = refl
other_name f (atom m) (atom p) e = cond-false (bytes_eq f (codes ":")) (Some (record { module_name = m; name = p; arguments = none })) None e
other_name f (atom m) (structure p ts) e =
    ap (λ c. if c && not (is_execute m (structure p ts)) then Some (record { module_name = m; name = p; arguments = ts }) else None) e

other_head : (f : List ℕ) (a b : Term) → bytes_eq f (codes ":") ≡ false → awaited_at_head (structure f (more a (more b none))) ≡ []
other_head f a b e = cond-false (bytes_eq f (codes ":")) (awaited_in_call a b) [] e

own_head : (f : List ℕ) (a b : Term) → bytes_eq f (codes ":") ≡ true → awaited_at_head (structure f (more a (more b none))) ≡ awaited_in_call a b
own_head f a b e = cond-true (bytes_eq f (codes ":")) (awaited_in_call a b) [] e

-- what a name makes of two terms that is neither `=` nor `:=` nor `atom_from`
abbrev by_module : List ℕ → Term → Term → Option Move
by_module f a b = if bytes_eq f (codes ":") then execute_move a b else None

-- and one that is neither `=` nor `:=`
abbrev by_spelling : Rules → List ℕ → Term → Term → Option Move
by_spelling rules f a b = if bytes_eq f (codes "atom_from") then move_found (λ text. names text b) (spelling (most_spelled rules) a) else by_module f a b

-- and one that isn't `=`
abbrev by_assignment : Rules → List ℕ → Term → Term → Option Move
by_assignment rules f a b = if bytes_eq f (codes ":=") then move_found (becomes a) (evaluated b) else by_spelling rules f a b

no_unification : (rules : Rules) (f : List ℕ) (a b : Term) → bytes_eq f (codes "=") ≡ false → built_in_move rules (structure f (more a (more b none))) ≡ by_assignment rules f a b
no_unification rules f a b e = cond-false (bytes_eq f (codes "=")) (Some (unifies a b)) (by_assignment rules f a b) e

no_assignment : (rules : Rules) (f : List ℕ) (a b : Term) → bytes_eq f (codes "=") ≡ false → bytes_eq f (codes ":=") ≡ false → built_in_move rules (structure f (more a (more b none))) ≡ by_spelling rules f a b
no_assignment rules f a b e n = no_unification rules f a b e ∙ cond-false (bytes_eq f (codes ":=")) (move_found (becomes a) (evaluated b)) (by_spelling rules f a b) n

no_spelling : (rules : Rules) (f : List ℕ) (a b : Term) → bytes_eq f (codes "=") ≡ false → bytes_eq f (codes ":=") ≡ false → bytes_eq f (codes "atom_from") ≡ false → built_in_move rules (structure f (more a (more b none))) ≡ by_module f a b
no_spelling rules f a b e n s = no_assignment rules f a b e n ∙ cond-false (bytes_eq f (codes "atom_from")) (move_found (λ text. names text b) (spelling (most_spelled rules) a)) (by_module f a b) s

-- what a name waits for of two terms that is neither `:=` nor `atom_from`
abbrev waits_by_module : List ℕ → Term → Term → List ℕ
waits_by_module f a b = if bytes_eq f (codes ":") then awaited_by_execute a b else []

-- and one that isn't `:=`
abbrev waits_by_spelling : Rules → List ℕ → Term → Term → List ℕ
waits_by_spelling rules f a b = if bytes_eq f (codes "atom_from") then awaited_by_found (spelling (most_spelled rules) a) else waits_by_module f a b

no_expression : (rules : Rules) (f : List ℕ) (a b : Term) → bytes_eq f (codes ":=") ≡ false → awaited_by_built_in rules (structure f (more a (more b none))) ≡ waits_by_spelling rules f a b
no_expression rules f a b n = cond-false (bytes_eq f (codes ":=")) (awaited_by_found (evaluated b)) (waits_by_spelling rules f a b) n

no_codes : (rules : Rules) (f : List ℕ) (a b : Term) → bytes_eq f (codes ":=") ≡ false → bytes_eq f (codes "atom_from") ≡ false → awaited_by_built_in rules (structure f (more a (more b none))) ≡ waits_by_module f a b
no_codes rules f a b n s = no_expression rules f a b n ∙ cond-false (bytes_eq f (codes "atom_from")) (awaited_by_found (spelling (most_spelled rules) a)) (waits_by_module f a b) s

waits_for_none : (rules : Rules) (f : List ℕ) (a b : Term) → bytes_eq f (codes ":") ≡ false → bytes_eq f (codes ":=") ≡ false → bytes_eq f (codes "atom_from") ≡ false → awaited_by_built_in rules (structure f (more a (more b none))) ≡ []
waits_for_none rules f a b e n s = no_codes rules f a b n s ∙ cond-false (bytes_eq f (codes ":")) (awaited_by_execute a b) [] e

-- a text that is one is that one
own_text : (f own : List ℕ) → bytes_eq f own ≡ true → f ≡ own
own_text f own e = (bytes_eq-Decides f own).0 e

-- two terms under it
under : (f own : List ℕ) (a b : Term) → bytes_eq f own ≡ true → pair f a b ≡ pair own a b
under f own a b e = ap (λ l. pair l a b) (own_text f own e)

-- and it is no other
other_text : (f own other : List ℕ) → bytes_eq f own ≡ true → bytes_eq own other ≡ false → bytes_eq f other ≡ false
other_text f own other e n = ap (λ l. bytes_eq l other) (own_text f own e) ∙ n

pub is_unification : {N : Type 0} (f : N → List ℕ) (h : Held N) (name : N) (left right : Cell N) → bytes_eq (f name) (codes ":") ≡ false → bytes_eq (f name) (codes "=") ≡ true → IsUnification f h (two_terms f h name left right) left right
is_unification f h name left right ne e = record {
  is = under (f name) (codes "=") (term_of f h left) (term_of f h right) e;
  call = other_name (f name) (term_of f h left) (term_of f h right) ne;
  built_in = λ rules. cond-true (bytes_eq (f name) (codes "=")) (Some (unifies (term_of f h left) (term_of f h right))) (by_assignment rules (f name) (term_of f h left) (term_of f h right)) e;
  awaits = other_head (f name) (term_of f h left) (term_of f h right) ne;
  waits_no_more = λ rules. waits_for_none rules (f name) (term_of f h left) (term_of f h right) ne (other_text (f name) (codes "=") (codes ":=") e refl) (other_text (f name) (codes "=") (codes "atom_from") e refl);
}

pub is_assignment : {N : Type 0} (f : N → List ℕ) (h : Held N) (name : N) (left right : Cell N) → bytes_eq (f name) (codes ":") ≡ false → bytes_eq (f name) (codes "=") ≡ false → bytes_eq (f name) (codes ":=") ≡ true → IsAssignment f h (two_terms f h name left right) left right
is_assignment f h name left right ne other e = record {
  is = under (f name) (codes ":=") (term_of f h left) (term_of f h right) e;
  call = other_name (f name) (term_of f h left) (term_of f h right) ne;
  built_in = λ rules. no_unification rules (f name) (term_of f h left) (term_of f h right) other ∙ cond-true (bytes_eq (f name) (codes ":=")) (move_found (becomes (term_of f h left)) (evaluated (term_of f h right))) (by_spelling rules (f name) (term_of f h left) (term_of f h right)) e;
  awaits = other_head (f name) (term_of f h left) (term_of f h right) ne;
  waits_for = λ rules. cond-true (bytes_eq (f name) (codes ":=")) (awaited_by_found (evaluated (term_of f h right))) (waits_by_spelling rules (f name) (term_of f h left) (term_of f h right)) e;
}

pub is_spelling : {N : Type 0} (f : N → List ℕ) (h : Held N) (name : N) (left right : Cell N) → bytes_eq (f name) (codes ":") ≡ false → bytes_eq (f name) (codes "=") ≡ false → bytes_eq (f name) (codes ":=") ≡ false → bytes_eq (f name) (codes "atom_from") ≡ true →
    IsSpelling f h (two_terms f h name left right) left right
is_spelling f h name left right ne other n e = record {
  is = under (f name) (codes "atom_from") (term_of f h left) (term_of f h right) e;
  call = other_name (f name) (term_of f h left) (term_of f h right) ne;
  built_in = λ rules. no_assignment rules (f name) (term_of f h left) (term_of f h right) other n ∙ cond-true (bytes_eq (f name) (codes "atom_from")) (move_found (λ text. names text (term_of f h right)) (spelling (most_spelled rules) (term_of f h left))) (by_module (f name) (term_of f h left) (term_of f h right)) e;
  awaits = other_head (f name) (term_of f h left) (term_of f h right) ne;
  waits_for = λ rules. no_expression rules (f name) (term_of f h left) (term_of f h right) n ∙ cond-true (bytes_eq (f name) (codes "atom_from")) (awaited_by_found (spelling (most_spelled rules) (term_of f h left))) (waits_by_module (f name) (term_of f h left) (term_of f h right)) e;
}

pub other_two : {N : Type 0} (f : N → List ℕ) (h : Held N) (name : N) (left right : Cell N) → bytes_eq (f name) (codes ":") ≡ false → bytes_eq (f name) (codes "=") ≡ false → bytes_eq (f name) (codes ":=") ≡ false → bytes_eq (f name) (codes "atom_from") ≡ false →
    IsNoGoal (two_terms f h name left right) []
other_two f h name left right ne other n s = record {
  call = other_name (f name) (term_of f h left) (term_of f h right) ne;
  built_in = λ rules. no_spelling rules (f name) (term_of f h left) (term_of f h right) other n s ∙ cond-false (bytes_eq (f name) (codes ":")) (execute_move (term_of f h left) (term_of f h right)) None ne;
  awaits = other_head (f name) (term_of f h left) (term_of f h right) ne;
  waits_no_more = λ rules. waits_for_none rules (f name) (term_of f h left) (term_of f h right) ne n s;
}

-- ---- under the name `:`

module_move : (rules : Rules) (f : List ℕ) (a b : Term) → bytes_eq f (codes ":") ≡ true → built_in_move rules (structure f (more a (more b none))) ≡ execute_move a b
module_move rules f a b e =
    no_spelling rules f a b (other_text f (codes ":") (codes "=") e refl) (other_text f (codes ":") (codes ":=") e refl) (other_text f (codes ":") (codes "atom_from") e refl)
    ∙ cond-true (bytes_eq f (codes ":")) (execute_move a b) None e

module_waits : (rules : Rules) (f : List ℕ) (a b : Term) → bytes_eq f (codes ":") ≡ true → awaited_by_built_in rules (structure f (more a (more b none))) ≡ awaited_by_execute a b
module_waits rules f a b e =
    no_codes rules f a b (other_text f (codes ":") (codes ":=") e refl) (other_text f (codes ":") (codes "atom_from") e refl)
    ∙ cond-true (bytes_eq f (codes ":")) (awaited_by_execute a b) [] e

-- ---- modules and callees

no_module_call : (f : List ℕ) (a b : Term) → atom_in a ≡ None → call_of (structure f (more a (more b none))) ≡ None
no_module_call f (variable n) b e = refl
no_module_call f (integer n) b e = refl
no_module_call f (structure g us) b e = refl
no_module_call f (atom m) b e = absurd (cc)

no_module_move : (a b : Term) → atom_in a ≡ None → execute_move a b ≡ None
no_module_move (variable n) b e = refl
no_module_move (integer n) b e = refl
no_module_move (structure g us) b e = refl
no_module_move (atom m) b e = absurd (cc)

no_module_waits : (a b : Term) → atom_in a ≡ None → awaited_by_execute a b ≡ []
no_module_waits (variable n) b e = refl
no_module_waits (integer n) b e = refl
no_module_waits (structure g us) b e = refl
no_module_waits (atom m) b e = absurd (cc)

pub no_module : (left right : Term) (vs : List ℕ) → atom_in left ≡ None → awaited_in_call left right ≡ vs → CallsNothing left right vs
no_module left right vs e a = record { call = λ f. no_module_call f left right e; awaits = a; executes = no_module_move left right e; executing = no_module_waits left right e }

no_callee_call : (f : List ℕ) (a b : Term) → name_in b ≡ None → call_of (structure f (more a (more b none))) ≡ None
no_callee_call f (variable n) b e = refl
no_callee_call f (integer n) b e = refl
no_callee_call f (structure g us) b e = refl
no_callee_call f (atom m) (variable n) e = refl
no_callee_call f (atom m) (integer n) e = refl
no_callee_call f (atom m) (atom p) e = absurd (cc)
no_callee_call f (atom m) (structure p ts) e = absurd (cc)

no_execution : (m : List ℕ) (b : Term) → name_in b ≡ None → is_execute m b ≡ false
no_execution m (variable n) e = refl
no_execution m (integer n) e = refl
no_execution m (atom p) e = absurd (cc)
no_execution m (structure p ts) e = absurd (cc)

not_execute_move : (m : List ℕ) (b : Term) → is_execute m b ≡ false → execute_move (atom m) b ≡ None
not_execute_move m b e = cond-false (is_execute m b) (order_move (execute_arguments b)) None e

not_execute_waits : (m : List ℕ) (b : Term) → is_execute m b ≡ false → awaited_by_execute (atom m) b ≡ []
not_execute_waits m b e = cond-false (is_execute m b) (awaited_by_order (execute_arguments b)) [] e

no_callee : (left right : Term) (m : List ℕ) (vs : List ℕ) → left ≡ atom m → IsNameless right vs → CallsNothing left right vs
no_callee left right m vs e n = record {
  call = λ f. no_callee_call f left right n.name;
  awaits = ap (λ t. awaited_in_call t right) e ∙ n.awaits m;
  executes = ap (λ t. execute_move t right) e ∙ not_execute_move m right (no_execution m right n.name);
  executing = ap (λ t. awaited_by_execute t right) e ∙ not_execute_waits m right (no_execution m right n.name);
}

-- what is called in the module of a name, which a term is
called_between : {N : Type 0} (f : N → List ℕ) (h : Held N) (left : Term) (right : Cell N) (m : N) (r : Callee N) → left ≡ atom (f m) → CalledIn f h m right r → CalledBetween f h left (term_of f h right) r
called_between f h left right m (callee.Calls c) e k = record { module_is = ap atom_in e ∙ ap (λ x. Some (f x)) (sym k.module_is); goal_is = k.goal_is }
called_between f h left right m (callee.Waits v) e k = no_callee left (term_of f h right) (f m) (v ∷ []) e k
called_between f h left right m callee.Nothing e k = no_callee left (term_of f h right) (f m) [] e k

-- and a cell
pub called_at : {N : Type 0} (f : N → List ℕ) (h : Held N) (left right : Cell N) (m : N) (r : Callee N) → term_of f h left ≡ atom (f m) → CalledIn f h m right r → CalledAs f h left right r
called_at f h left right m r e k = called_between f h (term_of f h left) right m r e k

pub of_structure : {N : Type 0} (f : N → List ℕ) (h : Held N) (goal x : Cell N) (s : ℕ) (m name : N) (count : ℕ) → IsFormed h → x ≡ Structure s → slice_get h.structures s ≡ Some (record { name = name; arguments = arguments_of h s }) →
    term_of f h x ≡ term_of f h goal → count ≡ length (arguments_of h s) → IsOf f h (term_of f h goal) (record { module_name = m; name = name; count = count; structure = Some s })
of_structure f h goal x s m name count p e at means counted =
    let ts = terms_of f h (arguments_of h s) in
    let is = sym means ∙ ap (term_of f h) e ∙ term_of-Structure f h s name p at in
    record {
      means = sym (ap (term_of f h) e) ∙ means;
      name_is = ap name_in is;
      counted = ap (λ t. count_of (arguments_of_goal t)) is ∙ count_of-terms_of f h (arguments_of h s) ∙ sym counted;
    }

pub of_atom : {N : Type 0} (f : N → List ℕ) (h : Held N) (goal x : Cell N) (m name : N) → x ≡ Atom name → term_of f h x ≡ term_of f h goal → IsOf f h (term_of f h goal) (record { module_name = m; name = name; count = 0; structure = None })
of_atom f h goal x m name e means =
    let is = sym means ∙ at_atom f h x name e in
    record { means = sym (ap (term_of f h) e) ∙ means; name_is = ap name_in is; counted = ap (λ t. count_of (arguments_of_goal t)) is }

pub nameless : (t u : Term) (vs : List ℕ) → t ≡ u → name_in u ≡ None → ((m : List ℕ) → awaited_in_call (atom m) u ≡ vs) → IsNameless t vs
nameless t u vs e n a = record { name = ap name_in e ∙ n; awaits = λ m. ap (awaited_in_call (atom m)) e ∙ a m }

-- ---- calls

-- a call by its parts
abbrev call_with : List ℕ → List ℕ → Terms → model.Call
call_with m p ts = record { module_name = m; name = p; arguments = ts }

some_text : {x y : List ℕ} → Some x ≡ Some y → x ≡ y
some_text e = cc

-- a term with the text of an atom is that atom
atom_is : (a : Term) (m : List ℕ) → atom_in a ≡ Some m → a ≡ atom m
atom_is (variable n) m l = absurd (cc)
atom_is (integer n) m l = absurd (cc)
atom_is (structure g us) m l = absurd (cc)
atom_is (atom n) m l = ap atom (some_text l)

calls : (f m p : List ℕ) (a b : Term) → bytes_eq f (codes ":") ≡ true → atom_in a ≡ Some m → name_in b ≡ Some p → is_execute m b ≡ false → call_of (structure f (more a (more b none))) ≡ Some (call_with m p (arguments_of_goal b))
calls f m p a b e l r x = ap (λ t. call_of (structure f (more t (more b none)))) (atom_is a m l) ∙ by b r x
  where
    by : (b : Term) → name_in b ≡ Some p → is_execute m b ≡ false → call_of (structure f (more (atom m) (more b none))) ≡ Some (call_with m p (arguments_of_goal b))
    by (variable k) r x = absurd (cc)
    by (integer k) r x = absurd (cc)
    by (atom q) r x = cond-true (bytes_eq f (codes ":")) (Some (call_with m q none)) None e ∙ ap (λ y. Some (call_with m y none)) (some_text r)
    by (structure q ts) r x =
        ap (λ c. if c && not (is_execute m (structure q ts)) then Some (call_with m q ts) else None) e
        ∙ ap (λ c. if not c then Some (call_with m q ts) else None) x ∙ ap (λ y. Some (call_with m y ts)) (some_text r)

call_awaits : (m p : List ℕ) (a b : Term) → atom_in a ≡ Some m → name_in b ≡ Some p → awaited_in_call a b ≡ []
call_awaits m p a b l r = ap (λ t. awaited_in_call t b) (atom_is a m l) ∙ by b r
  where
    by : (b : Term) → name_in b ≡ Some p → awaited_in_call (atom m) b ≡ []
    by (variable k) r = absurd (cc)
    by (integer k) r = refl
    by (atom q) r = refl
    by (structure q ts) r = refl

-- ---- orders

order_by_parts : (m p : List ℕ) (count : ℕ) (t : Term) (b : Bool) → name_in t ≡ Some p → count_of (arguments_of_goal t) ≡ count → (bytes_eq m (codes "shoen") && (bytes_eq p (codes "execute") && count == 6)) ≡ b → is_execute m t ≡ b
order_by_parts m p count (variable n) b e n' o = absurd (cc)
order_by_parts m p count (integer n) b e n' o = absurd (cc)
order_by_parts m p count (atom q) b e n' o = no_arguments (bytes_eq m (codes "shoen")) (bytes_eq p (codes "execute")) b (ap (λ k. bytes_eq m (codes "shoen") && (bytes_eq p (codes "execute") && k == 6)) n' ∙ o)
  where
    no_arguments : (x y b : Bool) → (x && (y && false)) ≡ b → false ≡ b
    no_arguments true true b e = e
    no_arguments true false b e = e
    no_arguments false y b e = e
order_by_parts m p count (structure q ts) b e n' o =
    ap (λ l. bytes_eq m (codes "shoen") && (bytes_eq l (codes "execute") && count_of ts == 6)) (some_text e)
    ∙ ap (λ k. bytes_eq m (codes "shoen") && (bytes_eq p (codes "execute") && k == 6)) n' ∙ o

pub order_as : {N : Type 0} (f : N → List ℕ) (h : Held N) (t : Term) (c : Call N) (b : Bool) → IsOf f h t c → is_order f c ≡ b → is_execute (f c.module_name) t ≡ b
order_as f h t c b k e = order_by_parts (f c.module_name) (f c.name) c.count t b k.name_is k.counted e

six_cells : {N : Type 0} (f : N → List ℕ) (h : Held N) (xs : List (Cell N)) (o : ExecuteArguments N) → length xs ≡ 6 →
    slice_get xs 0 ≡ Some o.goal → slice_get xs 1 ≡ Some o.low → slice_get xs 2 ≡ Some o.high → slice_get xs 3 ≡ Some o.allowance → slice_get xs 4 ≡ Some o.control → slice_get xs 5 ≡ Some o.reports →
    (p : List ℕ) → execute_arguments (structure p (terms_of f h xs)) ≡ Some (order_at f h o)
unfolding terms_of
six_cells f h [] o n a b c d e g p = absurd (omega arith)
six_cells f h (x ∷ []) o n a b c d e g p = absurd (omega arith)
six_cells f h (x ∷ y ∷ []) o n a b c d e g p = absurd (omega arith)
six_cells f h (x ∷ y ∷ z ∷ []) o n a b c d e g p = absurd (omega arith)
six_cells f h (x ∷ y ∷ z ∷ u ∷ []) o n a b c d e g p = absurd (omega arith)
six_cells f h (x ∷ y ∷ z ∷ u ∷ v ∷ []) o n a b c d e g p = absurd (omega arith)
six_cells {N = N} f h (x ∷ y ∷ z ∷ u ∷ v ∷ w ∷ []) o n a b c d e g p =
    let first : x ≡ o.goal = some_cell a in
    let second : y ≡ o.low = some_cell b in
    let third : z ≡ o.high = some_cell c in
    let fourth : u ≡ o.allowance = some_cell d in
    let fifth : v ≡ o.control = some_cell e in
    let sixth : w ≡ o.reports = some_cell g in
    let made : ExecuteArguments N → Option model_look.ExecuteArguments = λ o. Some (order_at f h o) in
    ap (λ (k : Cell N). made (record { goal = k; low = y; high = z; allowance = u; control = v; reports = w })) first
    ∙ ap (λ (k : Cell N). made (record { goal = o.goal; low = k; high = z; allowance = u; control = v; reports = w })) second
    ∙ ap (λ (k : Cell N). made (record { goal = o.goal; low = o.low; high = k; allowance = u; control = v; reports = w })) third
    ∙ ap (λ (k : Cell N). made (record { goal = o.goal; low = o.low; high = o.high; allowance = k; control = v; reports = w })) fourth
    ∙ ap (λ (k : Cell N). made (record { goal = o.goal; low = o.low; high = o.high; allowance = o.allowance; control = k; reports = w })) fifth
    ∙ ap (λ (k : Cell N). made (record { goal = o.goal; low = o.low; high = o.high; allowance = o.allowance; control = o.control; reports = k })) sixth
  where
    some_cell : {M : Type 0} {x y : Cell M} → Some x ≡ Some y → x ≡ y
    some_cell e = cc
six_cells f h (x ∷ y ∷ z ∷ u ∷ v ∷ w ∷ k ∷ xs) o n a b c d e g p = absurd (omega arith)

pub order_in : {N : Type 0} (f : N → List ℕ) (h : Held N) (s : ℕ) (o : ExecuteArguments N) → IsFormed h → s < length h.structures → length (arguments_of h s) ≡ 6 → IsOrder h s o → execute_arguments (term_of f h (Structure s)) ≡ Some (order_at f h o)
order_in f h s o p lt six k =
    let r = named h s lt in
    ap execute_arguments (term_of-Structure f h s r.0 p r.1) ∙ six_cells f h (arguments_of h s) o six k.goal_is k.low_is k.high_is k.allowance_is k.control_is k.reports_is (f r.0)

-- `shoen:execute` with six arguments is no call
no_call : (f m : List ℕ) (a b : Term) → atom_in a ≡ Some m → is_execute m b ≡ true → call_of (structure f (more a (more b none))) ≡ None
no_call f m a b l e = ap (λ t. call_of (structure f (more t (more b none)))) (atom_is a m l) ∙ by b e
  where
    by : (b : Term) → is_execute m b ≡ true → call_of (structure f (more (atom m) (more b none))) ≡ None
    by (variable k) e = refl
    by (integer k) e = refl
    by (atom q) e = absurd (cc)
    by (structure q ts) e =
        cond-false (bytes_eq f (codes ":") && not (is_execute m (structure q ts))) (Some (call_with m q ts)) None (and_right (bytes_eq f (codes ":")) (not (is_execute m (structure q ts))) (ap not e))

execution_moves : (m : List ℕ) (a b : Term) (o : model_look.ExecuteArguments) → atom_in a ≡ Some m → is_execute m b ≡ true → execute_arguments b ≡ Some o → execute_move a b ≡ move_found (λ right. opens o) (arguments_look o)
execution_moves m a b o l e k = ap (λ t. execute_move t b) (atom_is a m l) ∙ cond-true (is_execute m b) (order_move (execute_arguments b)) None e ∙ ap order_move k

execution_waits : (m : List ℕ) (a b : Term) (o : model_look.ExecuteArguments) → atom_in a ≡ Some m → is_execute m b ≡ true → execute_arguments b ≡ Some o → awaited_by_execute a b ≡ awaited_by_found (arguments_look o)
execution_waits m a b o l e k = ap (λ t. awaited_by_execute t b) (atom_is a m l) ∙ cond-true (is_execute m b) (awaited_by_order (execute_arguments b)) [] e ∙ ap awaited_by_order k

no_execute_move : (m : List ℕ) (a b : Term) → atom_in a ≡ Some m → is_execute m b ≡ false → awaited_by_execute a b ≡ []
no_execute_move m a b l e = ap (λ t. awaited_by_execute t b) (atom_is a m l) ∙ not_execute_waits m b e

-- what `shoen:execute` with these six arguments is
execution_is : (g m : List ℕ) (a b : Term) (o : model_look.ExecuteArguments) → bytes_eq g (codes ":") ≡ true → atom_in a ≡ Some m → is_execute m b ≡ true → execute_arguments b ≡ Some o → pair g a b ≡ order_goal o
execution_is g m a b o e l x k = let both = by b x k in under g (codes ":") a b e ∙ ap (λ t. pair (codes ":") t b) (atom_is a m l ∙ ap atom both.0) ∙ ap (pair (codes ":") (atom (codes "shoen"))) both.1
  where
    one : {o q : model_look.ExecuteArguments} → Some o ≡ Some q → o ≡ q
    one k = cc

    those : (ts : Terms) (p : List ℕ) → execute_arguments (structure p ts) ≡ Some o → ts ≡ six o
    those none p k = absurd (cc)
    those (more t none) p k = absurd (cc)
    those (more t (more u none)) p k = absurd (cc)
    those (more t (more u (more v none))) p k = absurd (cc)
    those (more t (more u (more v (more w none)))) p k = absurd (cc)
    those (more t (more u (more v (more w (more y none))))) p k = absurd (cc)
    those (more t (more u (more v (more w (more y (more z none)))))) p k = ap six (one k)
    those (more t (more u (more v (more w (more y (more z (more s ts))))))) p k = absurd (cc)

    by : (b : Term) → is_execute m b ≡ true → execute_arguments b ≡ Some o → (m ≡ codes "shoen") × (b ≡ structure (codes "execute") (six o))
    by (variable n) x k = absurd (cc)
    by (integer n) x k = absurd (cc)
    by (atom n) x k = absurd (cc)
    by (structure p ts) x k =
        let parts = and_parts (bytes_eq m (codes "shoen")) (bytes_eq p (codes "execute") && count_of ts == 6) x in
        let named = and_parts (bytes_eq p (codes "execute")) (count_of ts == 6) parts.1 in
        (own_text m (codes "shoen") parts.0, ap (λ l. structure l ts) (own_text p (codes "execute") named.0) ∙ ap (structure (codes "execute")) (those ts p k))

-- ---- what is called as a goal's kind

pub is_call : {N : Type 0} (f : N → List ℕ) (h : Held N) (g : List ℕ) (a b : Term) (c : Call N) → bytes_eq g (codes ":") ≡ true → Calls f h a b c → is_order f c ≡ false → IsCall f h (structure g (more a (more b none))) c
is_call f h g a b c e k n =
    let other = order_as f h b c false k.goal_is n in
    record {
      is = calls g (f c.module_name) (f c.name) a b e k.module_is k.goal_is.name_is other ∙ ap (λ x. Some (call_with (f c.module_name) (f c.name) (arguments_of_goal x))) (sym k.goal_is.means);
      counted = ap (λ x. count_of (arguments_of_goal x)) k.goal_is.means ∙ k.goal_is.counted;
      awaits = own_head g a b e ∙ call_awaits (f c.module_name) (f c.name) a b k.module_is k.goal_is.name_is;
      waits_no_more = λ rules. module_waits rules g a b e ∙ no_execute_move (f c.module_name) a b k.module_is other;
    }

-- the goal of a call whose structure is this
pub cell_by : {N : Type 0} (c : Call N) (s : ℕ) → c.structure ≡ Some s → cell_of c ≡ Structure s
cell_by c s e = ap (cell_in c.name) e

is_execution : {N : Type 0} (f : N → List ℕ) (h : Held N) (g : List ℕ) (a b : Term) (c : Call N) (s : ℕ) → IsFormed h → bytes_eq g (codes ":") ≡ true → Calls f h a b c → is_order f c ≡ true → c.structure ≡ Some s → s < length h.structures → length (arguments_of h s) ≡ 6 →
    IsExecution f h (structure g (more a (more b none))) s
is_execution f h g a b c s p e k y at lt six =
    let other = order_as f h b c true k.goal_is y in
    let means : b ≡ term_of f h (Structure s) = sym k.goal_is.means ∙ ap (term_of f h) (cell_by c s at) in
    record {
      is = λ o is. execution_is g (f c.module_name) a b (order_at f h o) e k.module_is other (ap execute_arguments means ∙ order_in f h s o p lt six is);
      call = no_call g (f c.module_name) a b k.module_is other;
      built_in = λ rules o is. module_move rules g a b e ∙ execution_moves (f c.module_name) a b (order_at f h o) k.module_is other (ap execute_arguments means ∙ order_in f h s o p lt six is);
      awaits = own_head g a b e ∙ call_awaits (f c.module_name) (f c.name) a b k.module_is k.goal_is.name_is;
      waits_for = λ rules o is. module_waits rules g a b e ∙ execution_waits (f c.module_name) a b (order_at f h o) k.module_is other (ap execute_arguments means ∙ order_in f h s o p lt six is);
    }

nothing_called : (g : List ℕ) (a b : Term) (vs : List ℕ) → bytes_eq g (codes ":") ≡ true → CallsNothing a b vs → IsNoGoal (structure g (more a (more b none))) vs
nothing_called g a b vs e n = record {
  call = n.call g;
  built_in = λ rules. module_move rules g a b e ∙ n.executes;
  awaits = own_head g a b e ∙ n.awaits;
  waits_no_more = λ rules. module_waits rules g a b e ∙ n.executing;
}

-- of an order there are six arguments
six_of : {N : Type 0} (f : N → List ℕ) (c : Call N) → is_order f c ≡ true → c.count ≡ 6
six_of f c e = by (bytes_eq (f c.module_name) (codes "shoen")) (bytes_eq (f c.name) (codes "execute")) e
  where
    by : (x y : Bool) → (x && (y && c.count == 6)) ≡ true → c.count ≡ 6
    by true true e = eqb-true c.count 6 e
    by true false e = absurd (cc)
    by false y e = absurd (cc)

call_as : {N : Type 0} (f : N → List ℕ) (h : Held N) (g : List ℕ) (a b : Term) (c : Call N) (o : Option ℕ) (x : Bool) → IsFormed h → bytes_eq g (codes ":") ≡ true → IsIn h (cell_of c) → IsCounted h c.count c.structure → Calls f h a b c → c.structure ≡ o → is_order f c ≡ x →
    IsKind f h (structure g (more a (more b none))) (if x then order_kind c o else kind.Calls c)
call_as f h g a b c o false p e inside counted k at n = is_call f h g a b c e k n
call_as {N = N} f h g a b c None true p e inside counted k at y =
    let C : Option ℕ → Type 0 = λ s. IsCounted h c.count s in
    let zero : c.count ≡ 0 = subst C at counted in
    let six = six_of f c y in
    absurd (omega (arith, zero, six))
call_as {N = N} f h g a b c (Some s) true p e inside counted k at y =
    let C : Option ℕ → Type 0 = λ s. IsCounted h c.count s in
    let many : c.count ≡ length (arguments_of h s) = subst C at counted in
    let I : Cell N → Type 0 = λ x. IsIn h x in
    let lt : s < length h.structures = subst I (cell_by c s at) inside in
    is_execution f h g a b c s p e k y at lt (sym many ∙ six_of f c y)

-- what is called under `:` is a goal's kind
pub callee_as : {N : Type 0} (f : N → List ℕ) (h : Held N) (g : List ℕ) (a b : Term) (r : Callee N) → IsFormed h → bytes_eq g (codes ":") ≡ true → CalledInside h r → CalledBetween f h a b r → IsKind f h (structure g (more a (more b none))) (callee_kind f r)
callee_as f h g a b (callee.Calls c) p e inside k = call_as f h g a b c c.structure (is_order f c) p e inside.0 inside.1 k refl refl
callee_as f h g a b (callee.Waits v) p e inside k = nothing_called g a b (v ∷ []) e k
callee_as f h g a b callee.Nothing p e inside k = nothing_called g a b [] e k

pub colon_kind : {N : Type 0} (f : N → List ℕ) (h : Held N) (name : N) (left right : Cell N) (r : Callee N) (k : Kind N) → IsFormed h → bytes_eq (f name) (codes ":") ≡ true → CalledInside h r → CalledAs f h left right r → k ≡ callee_kind f r → IsKind f h (two_terms f h name left right) k
colon_kind {N = N} f h name left right r k p e inside c is =
    let P : Kind N → Type 0 = λ x. IsKind f h (two_terms f h name left right) x in
    subst P (sym is) (callee_as f h (f name) (term_of f h left) (term_of f h right) r p e inside c)

pub in_module_kind : {N : Type 0} (f : N → List ℕ) (h : Held N) (q : Qualified N) (m : N) (r : Callee N) (k : Kind N) → IsFormed h → q.module_name ≡ Some m → CalledInside h r → CalledIn f h m q.cell r → k ≡ callee_kind f r → IsKind f h (qualified_term f h q) k
in_module_kind {N = N} f h q m r k p e inside c is =
    let P : Option N → Type 0 = λ o. IsKind f h (in_module f o (term_of f h q.cell)) k in
    let Q : Kind N → Type 0 = λ x. IsKind f h (in_module f (Some m) (term_of f h q.cell)) x in
    subst P (sym e) (subst Q (sym is) (callee_as f h (codes ":") (atom (f m)) (term_of f h q.cell) r p refl inside (called_between f h (atom (f m)) q.cell m r refl c)))

-- the kind of what is called stands inside if that of a call does
pub call_inside : {N : Type 0} (h : Held N) (r : Callee N) (c : Call N) (k : Kind N) → r ≡ callee.Calls c → (IsIn h (cell_of c) → IsCounted h c.count c.structure → KindIn h k) → CalledInside h r → KindIn h k
call_inside {N = N} h r c k e by inside = let P : Callee N → Type 0 = λ x. CalledInside h x in let i = subst P e inside in by i.0 i.1

pub whole_kind : {N : Type 0} (f : N → List ℕ) (h : Held N) (q : Qualified N) (k : Kind N) → q.module_name ≡ None → IsKind f h (term_of f h q.cell) k → IsKind f h (qualified_term f h q) k
whole_kind {N = N} f h q k e is = let P : Option N → Type 0 = λ o. IsKind f h (in_module f o (term_of f h q.cell)) k in subst P (sym e) is

-- ---- atoms

pub is_true_goal : (t : Term) (a : List ℕ) → t ≡ atom a → bytes_eq a (codes "true") ≡ true → IsTrueGoal t
is_true_goal t a e is = record { is = e ∙ ap atom (own_text a (codes "true") is); call = ap call_of e; built_in = λ rules. ap (built_in_move rules) e ∙ cond-true (bytes_eq a (codes "true")) (Some goes) None is; awaits = ap awaited_at_head e; waits_no_more = λ rules. ap (awaited_by_built_in rules) e }

pub other_atom : (t : Term) (a : List ℕ) → t ≡ atom a → bytes_eq a (codes "true") ≡ false → IsNoGoal t []
other_atom t a e is = record { call = ap call_of e; built_in = λ rules. ap (built_in_move rules) e ∙ cond-false (bytes_eq a (codes "true")) (Some goes) None is; awaits = ap awaited_at_head e; waits_no_more = λ rules. ap (awaited_by_built_in rules) e }

pub no_goal_yet : (t : Term) (v : ℕ) → t ≡ variable v → IsNoGoal t (v ∷ [])
no_goal_yet t v e = record { call = ap call_of e; built_in = λ rules. ap (built_in_move rules) e; awaits = ap awaited_at_head e; waits_no_more = λ rules. ap (awaited_by_built_in rules) e }
