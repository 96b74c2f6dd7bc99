-- By which clause a term can step, and for what it waits, when variables are replaced.
use Rattle.std.proofs.Common.{◌≡◌, ℕ, ◌==◌, Bool, true, false, if◌then◌else◌, List, [], ◌∷◌, ◌++◌, refl, sym, ap, ap₂, ◌∙◌}
use Rattle.std.specs.Prelude.{not, ◌&&◌, codes, bytes_eq, Option, Some, None, option_map, is_some, find, filter}
use Rattle.std.proofs.lemmas.Bool.{cond-false}
use Rattle.kl1_model.specs.Goal.{is_called, is_execute}
use Rattle.kl1_model.specs.Look.{spelling, ExecuteArguments, arguments_look}
use Rattle.kl1_model.specs.declared.rules.Rules.{Rules}
use Rattle.kl1_model.specs.State.{most_spelled}
use Rattle.kl1_model.specs.Term.{Term, variable, integer, atom, structure, Terms, none, more, count_of, substituted, each_substituted, Replacement}
use Rattle.kl1_model.specs.code.Unifying.{replaced}
use Rattle.kl1_model.specs.Module.{Module, is_of}
use Rattle.kl1_model.specs.Match.{Call, call_of, module_of, clauses_of}
use Rattle.kl1_model.specs.code.Sections.{clauses_in}
use Rattle.kl1_model.specs.Arithmetic.{evaluated}
use Rattle.kl1_model.specs.Reduction.{Move, unifies, names, opens, move_found, becomes, execute_move, built_in_move, term_move}
use Rattle.kl1_model.specs.code.Steps.{order_move}
use Rattle.kl1_model.specs.code.Waits.{LeavesEach, least_clause, term_clause, awaited_by_clauses, awaited_by_order, awaited_by_execute, awaited_by_built_in, awaited_by_call, awaited_in_call, awaited_at_head, call_clauses}
use Rattle.kl1_model.specs.laws.WaitsLaws.{call_substituted, HeadStays, TermStays}
use Rattle.kl1_model.proofs.Substitutions.{count-each_substituted}
use Rattle.kl1_model.proofs.LeastClause.{term_clause-call}
use Rattle.kl1_model.proofs.SameStays.{left_front, left_back}
use Rattle.kl1_model.proofs.ScanStays.{evaluated_stays}
use Rattle.kl1_model.proofs.LookStays.{spelling_stays, order_substituted, order_stays}
use Rattle.kl1_model.proofs.VerdictStays.{clauses_stay}
use Rattle.kl1_model.specs.Found.{Found, found, awaits, wrong}
use Rattle.kl1_model.specs.code.Waits.{awaited_by_found}

-- ---- calls

pub call_of-not_one : (f : List ℕ) (a : Term) → call_of (structure f (more a none)) ≡ None
call_of-not_one f (variable v) = refl
call_of-not_one f (integer i) = refl
call_of-not_one f (atom m) = refl
call_of-not_one f (structure g us) = refl

pub call_of-not_many : (f : List ℕ) (a b c : Term) (us : Terms) → call_of (structure f (more a (more b (more c us)))) ≡ None
call_of-not_many f (variable v) b c us = refl
call_of-not_many f (integer i) b c us = refl
call_of-not_many f (atom m) (variable p) c us = refl
call_of-not_many f (atom m) (integer j) c us = refl
call_of-not_many f (atom m) (atom p) c us = refl
call_of-not_many f (atom m) (structure p ts) c us = refl
call_of-not_many f (structure g ts) b c us = refl

pub call_of-other : (f : List ℕ) (a b : Term) → bytes_eq f (codes ":") ≡ false → call_of (structure f (more a (more b none))) ≡ None
call_of-other f (variable v) b e = refl
call_of-other f (integer i) b e = refl
call_of-other f (atom m) (variable p) e = refl
call_of-other f (atom m) (integer j) e = refl
call_of-other f (atom m) (atom p) e = cond-false (bytes_eq f (codes ":")) (Some (record { module_name = m; name = p; arguments = none })) None e
call_of-other f (atom m) (structure p ts) e =
    ap (λ c. if c && not (is_execute m (structure p ts)) then Some (record { module_name = m; name = p; arguments = ts }) else None) e
call_of-other f (structure g ts) b e = refl

some_call : (s : ℕ → Term) (c : Bool) (k : Call) → (if c then Some (call_substituted s k) else None) ≡ option_map (call_substituted s) (if c then Some k else None)
some_call s true k = refl
some_call s false k = refl

pair_stays : (s : ℕ → Term) (f : List ℕ) (a b : Term) → LeavesEach s (awaited_in_call a b) →
    call_of (structure f (more (substituted s a) (more (substituted s b) none))) ≡ option_map (call_substituted s) (call_of (structure f (more a (more b none))))
pair_stays s f (variable v) b l = ap (λ t. call_of (structure f (more t (more (substituted s b) none)))) l.0
pair_stays s f (integer i) b l = refl
pair_stays s f (atom m) (variable p) l = ap (λ t. call_of (structure f (more (atom m) (more t none)))) l.0
pair_stays s f (atom m) (integer j) l = refl
pair_stays s f (atom m) (atom p) l = some_call s (bytes_eq f (codes ":")) (record { module_name = m; name = p; arguments = none })
pair_stays s f (atom m) (structure p ts) l =
    ap (λ n. if bytes_eq f (codes ":") && not (bytes_eq m (codes "shoen") && is_called (codes "execute") 6 p n) then Some (record { module_name = m; name = p; arguments = each_substituted s ts }) else None) (count-each_substituted s ts)
    ∙ some_call s (bytes_eq f (codes ":") && not (is_execute m (structure p ts))) (record { module_name = m; name = p; arguments = ts })
pair_stays s f (structure g ts) b l = refl

two_stay : (s : ℕ → Term) (f : List ℕ) (a b : Term) (c : Bool) → bytes_eq f (codes ":") ≡ c → LeavesEach s (if c then awaited_in_call a b else []) →
    call_of (structure f (more (substituted s a) (more (substituted s b) none))) ≡ option_map (call_substituted s) (call_of (structure f (more a (more b none))))
two_stay s f a b true e l = pair_stays s f a b l
two_stay s f a b false e l = call_of-other f (substituted s a) (substituted s b) e ∙ sym (ap (option_map (call_substituted s)) (call_of-other f a b e))

pub head_stays : HeadStays
head_stays s (variable v) l = ap call_of l.0
head_stays s (integer i) l = refl
head_stays s (atom a) l = refl
head_stays s (structure f none) l = refl
head_stays s (structure f (more a none)) l = call_of-not_one f (substituted s a) ∙ sym (ap (option_map (call_substituted s)) (call_of-not_one f a))
head_stays s (structure f (more a (more b none))) l = two_stay s f a b (bytes_eq f (codes ":")) refl l
head_stays s (structure f (more a (more b (more c us)))) l =
    call_of-not_many f (substituted s a) (substituted s b) (substituted s c) (each_substituted s us) ∙ sym (ap (option_map (call_substituted s)) (call_of-not_many f a b c us))

-- ---- what is awaited at the head

in_call_stays : (s : ℕ → Term) (a b : Term) → LeavesEach s (awaited_in_call a b) → awaited_in_call (substituted s a) (substituted s b) ≡ awaited_in_call a b
in_call_stays s (variable v) b l = ap (λ t. awaited_in_call t (substituted s b)) l.0
in_call_stays s (integer i) b l = refl
in_call_stays s (atom m) (variable p) l = ap (λ t. awaited_in_call (atom m) t) l.0
in_call_stays s (atom m) (integer j) l = refl
in_call_stays s (atom m) (atom p) l = refl
in_call_stays s (atom m) (structure p ts) l = refl
in_call_stays s (structure g ts) b l = refl

in_two_stays : (s : ℕ → Term) (a b : Term) (c : Bool) → LeavesEach s (if c then awaited_in_call a b else []) → (if c then awaited_in_call (substituted s a) (substituted s b) else []) ≡ (if c then awaited_in_call a b else [])
in_two_stays s a b true l = in_call_stays s a b l
in_two_stays s a b false l = refl

pub head_awaited_stays : (s : ℕ → Term) (t : Term) → LeavesEach s (awaited_at_head t) → awaited_at_head (substituted s t) ≡ awaited_at_head t
head_awaited_stays s (variable v) l = ap awaited_at_head l.0
head_awaited_stays s (integer i) l = refl
head_awaited_stays s (atom a) l = refl
head_awaited_stays s (structure f none) l = refl
head_awaited_stays s (structure f (more a none)) l = refl
head_awaited_stays s (structure f (more a (more b none))) l = in_two_stays s a b (bytes_eq f (codes ":")) l
head_awaited_stays s (structure f (more a (more b (more c us)))) l = refl

-- ---- built-in goals

some-if : (c : Bool) (m n : Move) → is_some (if c then Some m else None) ≡ is_some (if c then Some n else None)
some-if true m n = refl
some-if false m n = refl

moves_as : {A : Type 0} (f g : A → Move) (x y : Found A) → x ≡ y → is_some (move_found f x) ≡ is_some (move_found g y)
moves_as f g x (found a) e = ap (λ z. is_some (move_found f z)) e
moves_as f g x (awaits v) e = ap (λ z. is_some (move_found f z)) e
moves_as f g x wrong e = ap (λ z. is_some (move_found f z)) e

no_order : (s : ℕ → Term) (c d : Bool) → is_some (if c then order_move None else None) ≡ is_some (if d then order_move None else None)
no_order s true true = refl
no_order s true false = refl
no_order s false true = refl
no_order s false false = refl

no_awaited : (s : ℕ → Term) (c d : Bool) → (if c then awaited_by_order None else []) ≡ (if d then awaited_by_order None else [])
no_awaited s true true = refl
no_awaited s true false = refl
no_awaited s false true = refl
no_awaited s false false = refl

six_stay : (s : ℕ → Term) (c : Bool) (o : ExecuteArguments) → LeavesEach s (if c then awaited_by_found (arguments_look o) else []) →
    is_some (if c then move_found (λ right. opens (order_substituted s o)) (arguments_look (order_substituted s o)) else None) ≡ is_some (if c then move_found (λ right. opens o) (arguments_look o) else None)
six_stay s true o l = moves_as (λ right. opens (order_substituted s o)) (λ right. opens o) (arguments_look (order_substituted s o)) (arguments_look o) (order_stays s o l)
six_stay s false o l = refl

execute_stays : (s : ℕ → Term) (a b : Term) → LeavesEach s (awaited_in_call a b) → LeavesEach s (awaited_by_execute a b) → is_some (execute_move (substituted s a) (substituted s b)) ≡ is_some (execute_move a b)
execute_stays s (variable m) b l k = ap (λ t. is_some (execute_move t (substituted s b))) l.0
execute_stays s (integer i) b l k = refl
execute_stays s (structure f ts) b l k = refl
execute_stays s (atom m) (variable p) l k = ap (λ t. is_some (execute_move (atom m) t)) l.0
execute_stays s (atom m) (integer j) l k = refl
execute_stays s (atom m) (atom p) l k = refl
execute_stays s (atom m) (structure p none) l k = refl
execute_stays s (atom m) (structure p (more a none)) l k = refl
execute_stays s (atom m) (structure p (more a (more b none))) l k = refl
execute_stays s (atom m) (structure p (more a (more b (more c none)))) l k = refl
execute_stays s (atom m) (structure p (more a (more b (more c (more d none))))) l k = refl
execute_stays s (atom m) (structure p (more a (more b (more c (more d (more e none)))))) l k = refl
execute_stays s (atom m) (structure p (more a (more b (more c (more d (more e (more g none))))))) l k =
    six_stay s (is_execute m (structure p (more a (more b (more c (more d (more e (more g none)))))))) (record { goal = a; low = b; high = c; allowance = d; control = e; reports = g }) k
execute_stays s (atom m) (structure p (more a (more b (more c (more d (more e (more g (more h us)))))))) l k = no_order s (bytes_eq m (codes "shoen") && is_called (codes "execute") 6 p (count_of (each_substituted s (more a (more b (more c (more d (more e (more g (more h us)))))))))) (bytes_eq m (codes "shoen") && is_called (codes "execute") 6 p (count_of (more a (more b (more c (more d (more e (more g (more h us)))))))))

six_awaited_stay : (s : ℕ → Term) (c : Bool) (o : ExecuteArguments) → LeavesEach s (if c then awaited_by_found (arguments_look o) else []) →
    (if c then awaited_by_found (arguments_look (order_substituted s o)) else []) ≡ (if c then awaited_by_found (arguments_look o) else [])
six_awaited_stay s true o l = ap awaited_by_found (order_stays s o l)
six_awaited_stay s false o l = refl

execute_awaited_stays : (s : ℕ → Term) (a b : Term) → LeavesEach s (awaited_in_call a b) → LeavesEach s (awaited_by_execute a b) → awaited_by_execute (substituted s a) (substituted s b) ≡ awaited_by_execute a b
execute_awaited_stays s (variable m) b l k = ap (λ t. awaited_by_execute t (substituted s b)) l.0
execute_awaited_stays s (integer i) b l k = refl
execute_awaited_stays s (structure f ts) b l k = refl
execute_awaited_stays s (atom m) (variable p) l k = ap (awaited_by_execute (atom m)) l.0
execute_awaited_stays s (atom m) (integer j) l k = refl
execute_awaited_stays s (atom m) (atom p) l k = refl
execute_awaited_stays s (atom m) (structure p none) l k = refl
execute_awaited_stays s (atom m) (structure p (more a none)) l k = refl
execute_awaited_stays s (atom m) (structure p (more a (more b none))) l k = refl
execute_awaited_stays s (atom m) (structure p (more a (more b (more c none)))) l k = refl
execute_awaited_stays s (atom m) (structure p (more a (more b (more c (more d none))))) l k = refl
execute_awaited_stays s (atom m) (structure p (more a (more b (more c (more d (more e none)))))) l k = refl
execute_awaited_stays s (atom m) (structure p (more a (more b (more c (more d (more e (more g none))))))) l k =
    six_awaited_stay s (is_execute m (structure p (more a (more b (more c (more d (more e (more g none)))))))) (record { goal = a; low = b; high = c; allowance = d; control = e; reports = g }) k
execute_awaited_stays s (atom m) (structure p (more a (more b (more c (more d (more e (more g (more h us)))))))) l k = no_awaited s (bytes_eq m (codes "shoen") && is_called (codes "execute") 6 p (count_of (each_substituted s (more a (more b (more c (more d (more e (more g (more h us)))))))))) (bytes_eq m (codes "shoen") && is_called (codes "execute") 6 p (count_of (more a (more b (more c (more d (more e (more g (more h us)))))))))

pair_stays_by : (rules : Rules) (s : ℕ → Term) (c d e g : Bool) (a b : Term) → LeavesEach s (if g then awaited_in_call a b else []) →
    LeavesEach s (if d then awaited_by_found (evaluated b) else if e then awaited_by_found (spelling (most_spelled rules) a) else if g then awaited_by_execute a b else []) →
    is_some (if c then Some (unifies (substituted s a) (substituted s b)) else if d then move_found (becomes (substituted s a)) (evaluated (substituted s b)) else if e then move_found (λ text. names text (substituted s b)) (spelling (most_spelled rules) (substituted s a)) else if g then execute_move (substituted s a) (substituted s b) else None)
    ≡ is_some (if c then Some (unifies a b) else if d then move_found (becomes a) (evaluated b) else if e then move_found (λ text. names text b) (spelling (most_spelled rules) a) else if g then execute_move a b else None)
pair_stays_by rules s true d e g a b l k = refl
pair_stays_by rules s false true e g a b l k = moves_as (becomes (substituted s a)) (becomes a) (evaluated (substituted s b)) (evaluated b) (evaluated_stays s b k)
pair_stays_by rules s false false true g a b l k = moves_as (λ text. names text (substituted s b)) (λ text. names text b) (spelling (most_spelled rules) (substituted s a)) (spelling (most_spelled rules) a) (spelling_stays s (most_spelled rules) a k)
pair_stays_by rules s false false false true a b l k = execute_stays s a b l k
pair_stays_by rules s false false false false a b l k = refl

built_in_stays : (rules : Rules) (s : ℕ → Term) (t : Term) → LeavesEach s (awaited_at_head t) → LeavesEach s (awaited_by_built_in rules t) → is_some (built_in_move rules (substituted s t)) ≡ is_some (built_in_move rules t)
built_in_stays rules s (variable v) l k = ap (λ t. is_some (built_in_move rules t)) l.0
built_in_stays rules s (integer i) l k = refl
built_in_stays rules s (atom a) l k = refl
built_in_stays rules s (structure f none) l k = refl
built_in_stays rules s (structure f (more a none)) l k = refl
built_in_stays rules s (structure f (more a (more b none))) l k = pair_stays_by rules s (bytes_eq f (codes "=")) (bytes_eq f (codes ":=")) (bytes_eq f (codes "atom_from")) (bytes_eq f (codes ":")) a b l k
built_in_stays rules s (structure f (more a (more b (more c us)))) l k = refl

awaited_if_stays : (rules : Rules) (s : ℕ → Term) (d e g : Bool) (a b : Term) → LeavesEach s (if g then awaited_in_call a b else []) →
    LeavesEach s (if d then awaited_by_found (evaluated b) else if e then awaited_by_found (spelling (most_spelled rules) a) else if g then awaited_by_execute a b else []) →
    (if d then awaited_by_found (evaluated (substituted s b)) else if e then awaited_by_found (spelling (most_spelled rules) (substituted s a)) else if g then awaited_by_execute (substituted s a) (substituted s b) else [])
    ≡ (if d then awaited_by_found (evaluated b) else if e then awaited_by_found (spelling (most_spelled rules) a) else if g then awaited_by_execute a b else [])
awaited_if_stays rules s true e g a b l k = ap awaited_by_found (evaluated_stays s b k)
awaited_if_stays rules s false true g a b l k = ap awaited_by_found (spelling_stays s (most_spelled rules) a k)
awaited_if_stays rules s false false true a b l k = execute_awaited_stays s a b l k
awaited_if_stays rules s false false false a b l k = refl

built_in_awaited_stays : (rules : Rules) (s : ℕ → Term) (t : Term) → LeavesEach s (awaited_at_head t) → LeavesEach s (awaited_by_built_in rules t) → awaited_by_built_in rules (substituted s t) ≡ awaited_by_built_in rules t
built_in_awaited_stays rules s (variable v) l k = ap (awaited_by_built_in rules) l.0
built_in_awaited_stays rules s (integer i) l k = refl
built_in_awaited_stays rules s (atom a) l k = refl
built_in_awaited_stays rules s (structure f none) l k = refl
built_in_awaited_stays rules s (structure f (more a none)) l k = refl
built_in_awaited_stays rules s (structure f (more a (more b none))) l k = awaited_if_stays rules s (bytes_eq f (codes ":=")) (bytes_eq f (codes "atom_from")) (bytes_eq f (codes ":")) a b l k
built_in_awaited_stays rules s (structure f (more a (more b (more c us)))) l k = refl

-- a term that is no call takes 0, or nothing
no_call : (rules : Rules) (modules : List Module) (t : Term) → call_of t ≡ None → term_clause rules modules t ≡ (if is_some (built_in_move rules t) then Some 0 else None)
no_call rules modules t e = ap (λ o. find (λ clause. is_some (term_move rules modules t clause o)) (0 ∷ call_clauses modules o)) e

-- ---- terms

clauses_stay_of : (modules : List Module) (s : ℕ → Term) (k : Call) → clauses_of modules (call_substituted s k) ≡ clauses_of modules k
clauses_stay_of modules s k = by_module (module_of modules k.module_name)
  where
    by_module : (o : Option Module) → clauses_in o (call_substituted s k) ≡ clauses_in o k
    by_module None = refl
    by_module (Some m) = ap (λ n. filter (is_of k.name n) m.clauses) (count-each_substituted s k.arguments)

-- how a term stays, by the call that it is
by_call : (rules : Rules) (modules : List Module) (s : ℕ → Term) (t : Term) (o : Option Call) → call_of t ≡ o → call_of (substituted s t) ≡ option_map (call_substituted s) o → is_some (built_in_move rules (substituted s t)) ≡ is_some (built_in_move rules t) →
    LeavesEach s (awaited_by_call modules o) → (term_clause rules modules (substituted s t) ≡ term_clause rules modules t) × (awaited_by_call modules (call_of (substituted s t)) ≡ awaited_by_call modules (call_of t))
by_call rules modules s t None e h b l =
    (no_call rules modules (substituted s t) h ∙ ap (λ c. if c then Some 0 else None) b ∙ sym (no_call rules modules t e), ap (awaited_by_call modules) h ∙ sym (ap (awaited_by_call modules) e))
by_call rules modules s t (Some k) e h b l =
    let q = call_substituted s k in
    let c = clauses_stay_of modules s k in
    let r = clauses_stay s (clauses_of modules k) k.arguments l in (
      term_clause-call rules modules (substituted s t) q h ∙ ap (λ cs. least_clause cs q.arguments) c ∙ r.0 ∙ sym (term_clause-call rules modules t k e),
      ap (awaited_by_call modules) h ∙ ap (λ cs. awaited_by_clauses cs q.arguments) c ∙ r.1 ∙ sym (ap (awaited_by_call modules) e),
    )

pub term_stays : TermStays
term_stays rules modules s t l =
    let calls = awaited_by_call modules (call_of t) in
    let built = awaited_by_built_in rules t in
    let front = left_front s (awaited_at_head t ++ calls) built l in
    let a = left_front s (awaited_at_head t) calls front in
    let k = left_back s (awaited_at_head t ++ calls) built l in
    let r = by_call rules modules s t (call_of t) refl (head_stays s t a) (built_in_stays rules s t a k) (left_back s (awaited_at_head t) calls front) in
    (r.0, ap₂ (λ (vs ws : List ℕ). vs ++ ws) (ap₂ (λ (vs ws : List ℕ). vs ++ ws) (head_awaited_stays s t a) r.1) (built_in_awaited_stays rules s t a k))

-- ---- what replacements leave

-- whether a variable is replaced
abbrev pub is_replaced : List Replacement → ℕ → Bool
is_replaced [] v = false
is_replaced (r ∷ rs) v = if v == r.number then true else is_replaced rs v

not_first : (r : Replacement) (rs : List Replacement) (v : ℕ) (c : Bool) → v == r.number ≡ c → (if c then true else is_replaced rs v) ≡ false → (is_replaced rs v ≡ false → replaced rs (variable v) ≡ variable v) → replaced (r ∷ rs) (variable v) ≡ variable v
not_first r rs v true h k f = absurd (cc)
not_first r rs v false h k f = ap (replaced rs) (cond-false (v == r.number) r.by (variable v) h) ∙ f k

-- a variable that no replacement names is left
pub left_alone : (rs : List Replacement) (v : ℕ) → is_replaced rs v ≡ false → replaced rs (variable v) ≡ variable v
left_alone [] v e = refl
left_alone (r ∷ rs) v e = not_first r rs v (v == r.number) refl e (left_alone rs v)
