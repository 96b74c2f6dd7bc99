-- What goals do that were judged, by cells.
use Rattle.std.proofs.Common.{◌≡◌, ℕ, ◌<◌, Bool, true, false, if◌then◌else◌, List, length, refl, sym, ap, subst, ◌∙◌, arith}
use Rattle.std.specs.Prelude.{ℤ, not, ◌&&◌, Option, Some, None, MatchOption, codes, bytes_eq}
use Rattle.std.proofs.lemmas.Bool.{false≢true}
use Rattle.kl1_model.specs.declared.built_in.BuiltIn.TheVariants.{Failure}
use Rattle.kl1_model.specs.Term.{Term, variable, integer, atom, structure, none, more}
use Rattle.kl1_model.specs.Module.{Module}
use Rattle.kl1_model.specs.Match as model
use Rattle.kl1_model.specs.Match.{call_of}
use Rattle.kl1_model.specs.Goal.{is_execute}
use Rattle.kl1_model.specs.Look as model_look
use Rattle.kl1_model.specs.Look.{spelling}
use Rattle.kl1_model.specs.Text.{text_of}
use Rattle.kl1_model.specs.declared.rules.Rules.{Rules}
use Rattle.kl1_model.specs.State.{most_spelled}
use Rattle.kl1_model.specs.Reduction.{raises, unifies, names, move_found, becomes, execute_arguments, pair_move}
use Rattle.kl1_model.specs.code.Waits.{move_by, term_clause}
use Rattle.kl1_model.proofs.LeastClause.{term_clause-call}
use Rattle.kl1_store.specs.declared.cell.Cell.{Cell}
use Rattle.kl1_store.specs.declared.cell.Cell.TheVariants.{Integer, Atom}
use Rattle.kl1_store.specs.declared.qualified.Qualified.{Qualified}
use Rattle.kl1_store.specs.Held.{Held, IsIn, arguments_of}
use Rattle.kl1_store.specs.Meaning.{term_of}
use Rattle.kl1_store.specs.InModules.{in_module, qualified_term}
use Rattle.kl1_store.specs.Sound.{IsFormed}
use Rattle.kl1_clause.specs.declared.predicate.Predicate.{Predicate}
use Rattle.kl1_match.specs.declared.place.Place.{Place}
use Rattle.kl1_match.proofs.Cells.{at_atom, at_integer}
use Rattle.kl1_goals.specs.declared.standing.Standing.{Standing}
use Rattle.kl1_goals.specs.declared.standing.Standing.TheVariants as standing
use Rattle.kl1_goals.specs.Readies.{clause_in}
use Rattle.kl1_goals_moves.specs.declared.call.Call.{Call}
use Rattle.kl1_goals_moves.specs.declared.calling.Callee.{Callee}
use Rattle.kl1_goals_moves.specs.declared.order.ExecuteArguments.{ExecuteArguments}
use Rattle.kl1_goals_moves.specs.declared.spelling.Spelling.{Spelling}
use Rattle.kl1_goals_moves.specs.declared.spelling.Spelling.TheVariants as spelled
use Rattle.kl1_goals_moves.specs.Calls.{cell_of, CalledIn, CalledBetween, Calls, IsCounted, is_order}
use Rattle.kl1_model.specs.Meaning.{pair}
use Rattle.kl1_goals_moves.specs.Judged.{six, IsCalling, DoesAs}
use Rattle.kl1_goals_moves.specs.Kinds.{IsCall}
use Rattle.kl1_goals_moves.specs.Moves.{MovesAs}
use Rattle.kl1_goals_moves.specs.Opening.{naming}
use Rattle.kl1_goals_moves.specs.Orders.{IsOrder, order_at}
use Rattle.kl1_goals_moves.specs.Spellings.{spelling_of}
use Rattle.kl1_goals_moves.proofs.Callees.{other_name, called_at, order_as, order_in, is_call, cell_by}
use Rattle.kl1_goals_moves.proofs.Candidates.{fails_by, by_zero}

-- ---- terms of two arguments

pair_parts : {f g : List ℕ} {a b c d : Term} → pair f a b ≡ pair g c d → (f ≡ g) × (a ≡ c) × (b ≡ d)
pair_parts e = (cc, cc, cc)

-- a goal that is in the module of a name is of the name `:`
whole : {N : Type 0} (f : N → List ℕ) (o : Option N) (t : Term) (name : List ℕ) (a b : Term) → bytes_eq name (codes ":") ≡ false → in_module f o t ≡ pair name a b → t ≡ pair name a b
whole f None t name a b other e = e
whole f (Some m) t name a b other e = absurd (false≢true (sym other ∙ ap (λ l. bytes_eq l (codes ":")) (sym (pair_parts e).0)))

-- if a cell is a term of two arguments, these are what two cells are
abbrev pub IsTwo : {N : Type 0} → (N → List ℕ) → Held N → Cell N → Cell N → Cell N → Type 0
IsTwo f h goal left right = (name : List ℕ) (a b : Term) → term_of f h goal ≡ pair name a b → (term_of f h left ≡ a) × (term_of f h right ≡ b)

two_cells : {N : Type 0} (f : N → List ℕ) (h : Held N) (q : Qualified N) (left right : Cell N) (name : List ℕ) (a b : Term) → bytes_eq name (codes ":") ≡ false → IsTwo f h q.cell left right → qualified_term f h q ≡ pair name a b →
    (term_of f h left ≡ a) × (term_of f h right ≡ b)
two_cells f h q left right name a b other two e = two name a b (whole f q.module_name (term_of f h q.cell) name a b other e)

-- what a term of two arguments does that isn't of the name `:`
pair_by_zero : (rules : Rules) (modules : List Module) (t : Term) (n : ℕ) (name : List ℕ) (a b : Term) → bytes_eq name (codes ":") ≡ false → t ≡ pair name a b → n ≡ 0 → move_by rules modules t n ≡ pair_move rules name a b
pair_by_zero rules modules t n name a b other e z = ap (λ u. move_by rules modules u n) e ∙ by_zero rules modules (pair name a b) n (pair_move rules name a b) (other_name name a b other) refl z

-- ---- what is called by a goal

pub called_two : {N : Type 0} (f : N → List ℕ) (h : Held N) (left right : Cell N) (a b : Term) (r : Callee N) → (term_of f h left ≡ a) × (term_of f h right ≡ b) → CalledBetween f h (term_of f h left) (term_of f h right) r → CalledBetween f h a b r
called_two {N = N} f h left right a b r e k =
    let A : Term → Type 0 = λ x. CalledBetween f h x (term_of f h right) r in
    let B : Term → Type 0 = λ x. CalledBetween f h a x r in
    subst B e.1 (subst A e.0 k)

pub called_named : {N : Type 0} (f : N → List ℕ) (h : Held N) (q : Qualified N) (m : N) (name : List ℕ) (a b : Term) (r : Callee N) → q.module_name ≡ Some m → CalledIn f h m q.cell r → qualified_term f h q ≡ pair name a b → CalledBetween f h a b r
called_named {N = N} f h q m name a b r o k e =
    let p = pair_parts (ap (λ (m : Option N). in_module f m (term_of f h q.cell)) (sym o) ∙ e) in
    called_two f h (Atom m) q.cell a b r (at_atom f h (Atom m) m refl ∙ p.1, p.2) (called_at f h (Atom m) q.cell m r (at_atom f h (Atom m) m refl) k)

-- ---- calls

-- a call is of two terms under the name `:`, the first an atom, and it is no order
record IsCalled (t : Term) : Type 0 where
  name : List ℕ
  module_name : List ℕ
  goal : Term
  is : t ≡ pair name (atom module_name) goal
  colon : bytes_eq name (codes ":") ≡ true
  no_order : is_execute module_name goal ≡ false

some_if : (c : Bool) (k l : model.Call) → (if c then Some k else None) ≡ Some l → c ≡ true
some_if true k l e = refl
some_if false k l e = absurd (cc)

and_not : (c d : Bool) → (c && not d) ≡ true → (c ≡ true) × (d ≡ false)
and_not true true e = absurd (false≢true e)
and_not true false e = (refl, refl)
and_not false d e = absurd (false≢true e)

called : (t : Term) (k : model.Call) → call_of t ≡ Some k → IsCalled t
called (variable v) k e = absurd (cc)
called (integer i) k e = absurd (cc)
called (atom a) k e = absurd (cc)
called (structure f none) k e = absurd (cc)
called (structure f (more (variable v) us)) k e = absurd (cc)
called (structure f (more (integer i) us)) k e = absurd (cc)
called (structure f (more (structure g ts) us)) k e = absurd (cc)
called (structure f (more (atom m) none)) k e = absurd (cc)
called (structure f (more (atom m) (more (variable v) us))) k e = absurd (cc)
called (structure f (more (atom m) (more (integer i) us))) k e = absurd (cc)
called (structure f (more (atom m) (more (atom p) none))) k e =
    record { name = f; module_name = m; goal = atom p; is = refl; colon = some_if (bytes_eq f (codes ":")) (record { module_name = m; name = p; arguments = none }) k e; no_order = refl }
called (structure f (more (atom m) (more (structure p ts) none))) k e =
    let b = and_not (bytes_eq f (codes ":")) (is_execute m (structure p ts)) (some_if (bytes_eq f (codes ":") && not (is_execute m (structure p ts))) (record { module_name = m; name = p; arguments = ts }) k e) in
    record { name = f; module_name = m; goal = structure p ts; is = refl; colon = b.0; no_order = b.1 }
called (structure f (more (atom m) (more (atom p) (more c us)))) k e = absurd (cc)
called (structure f (more (atom m) (more (structure p ts) (more c us)))) k e = absurd (cc)

-- what was judged to be a call is one
pub call_judged : {N : Type 0} (f : N → List ℕ) (h : Held N) (t : Term) (c : Call N) → IsCalling t → ((name : List ℕ) (a b : Term) → t ≡ pair name a b → Calls f h a b c) → IsCall f h t c
call_judged {N = N} f h t c k calls =
    let r = called t k.call k.is in
    let own = calls r.name (atom r.module_name) r.goal r.is in
    let named : r.module_name ≡ f c.module_name = let e = own.module_is in cc in
    let C : Term → Type 0 = λ x. IsCall f h x c in
    subst C (sym r.is) (is_call f h r.name (atom r.module_name) r.goal c r.colon own (by (is_order f c) refl (ap (λ m. is_execute m r.goal) (sym named) ∙ r.no_order) own))
  where
    by : (b : Bool) {u v : Term} → is_order f c ≡ b → is_execute (f c.module_name) v ≡ false → Calls f h u v c → is_order f c ≡ false
    by true {v = v} e n own = absurd (false≢true (sym n ∙ order_as f h v c true own.goal_is e))
    by false e n own = e

-- ---- moves

-- a call fails that is judged to
pub fails_judged : (rules : Rules) (modules : List Module) (t : Term) (x : Standing) (n : ℕ) → x ≡ standing.Fails → DoesAs rules t x → clause_in x ≡ Some n → term_clause rules modules t ≡ Some n → move_by rules modules t n ≡ Some (raises (text_of Failure))
fails_judged rules modules t x n e d c j =
    let D : Standing → Type 0 = λ y. DoesAs rules t y in
    let k = subst D e d in
    let none : Some 0 ≡ Some n = ap clause_in (sym e) ∙ c in
    let z : n ≡ 0 = cc in
    fails_by rules modules t k.call n k.is z (sym (term_clause-call rules modules t k.call k.is) ∙ j ∙ sym none)

-- a cell becomes the integer that was computed
pub becomes_judged : {N : Type 0} (f : N → List ℕ) (h : Held N) (rules : Rules) (modules : List Module) (q : Qualified N) (left right : Cell N) (x : Standing) (i : ℤ) (n : ℕ) → x ≡ standing.Becomes i → IsTwo f h q.cell left right → DoesAs rules (qualified_term f h q) x →
    clause_in x ≡ Some n → move_by rules modules (qualified_term f h q) n ≡ Some (unifies (term_of f h left) (term_of f h (Integer i)))
becomes_judged f h rules modules q left right x i n e two d c =
    let t = qualified_term f h q in
    let D : Standing → Type 0 = λ y. DoesAs rules t y in
    let k = subst D e d in
    let none : Some 0 ≡ Some n = ap clause_in (sym e) ∙ c in
    let p = two_cells f h q left right (codes ":=") k.left k.right refl two k.is in
    pair_by_zero rules modules t n (codes ":=") k.left k.right refl k.is (cc) ∙ ap (move_found (becomes k.left)) k.comes ∙ ap (λ a. Some (unifies a (integer i))) (sym p.0) ∙ ap (λ u. Some (unifies (term_of f h left) u)) (sym (at_integer f h (Integer i) i refl))

-- a cell becomes the name that codes spell
pub names_judged : {N : Type 0} (f : N → List ℕ) (h : Held N) (rules : Rules) (modules : List Module) (q : Qualified N) (list target : Cell N) (x : Standing) (y : Spelling) (text : List ℕ) (n : ℕ) → x ≡ standing.Names → IsTwo f h q.cell list target →
    spelling_of y text ≡ spelling (most_spelled rules) (term_of f h list) → DoesAs rules (qualified_term f h q) x → clause_in x ≡ Some n → (p : Predicate N) (places : List (Place N)) → MovesAs f h rules modules (qualified_term f h q) n p places text (naming target y)
names_judged f h rules modules q list target x y text n e two value d c p places =
    let t = qualified_term f h q in
    let D : Standing → Type 0 = λ z. DoesAs rules t z in
    let k = subst D e d in
    let none : Some 0 ≡ Some n = ap clause_in (sym e) ∙ c in
    let r = two_cells f h q list target (codes "atom_from") k.list k.target refl two k.is in
    by y (pair_by_zero rules modules t n (codes "atom_from") k.list k.target refl k.is (cc) ∙ ap (λ a. move_found (λ text. names text k.target) (spelling (most_spelled rules) a)) (sym r.0) ∙ ap (λ b. move_found (λ text. names text b) (spelling (most_spelled rules) (term_of f h list))) (sym r.1) ∙ ap (move_found (λ text. names text (term_of f h target))) (sym value))
  where
    by : (y : Spelling) → move_by rules modules (qualified_term f h q) n ≡ move_found (λ text. names text (term_of f h target)) (spelling_of y text) → MovesAs f h rules modules (qualified_term f h q) n p places text (naming target y)
    by spelled.Spelled m = m
    by (spelled.Waits v) m = m
    by spelled.Misspelled m = m

-- ---- orders

some_order : {o q : model_look.ExecuteArguments} → Some o ≡ Some q → o ≡ q
some_order e = cc

-- the structure of an order's goal has its arguments
pub order_judged : {N : Type 0} (f : N → List ℕ) (h : Held N) (c : Call N) (o : model_look.ExecuteArguments) (x : Option ℕ) → IsFormed h → IsIn h (cell_of c) → IsCounted h c.count c.structure → c.count ≡ 6 → Calls f h (atom (codes "shoen")) (structure (codes "execute") (six o)) c → c.structure ≡ x →
    MatchOption x ⊥ (λ s. (y : ExecuteArguments N) → IsOrder h s y → order_at f h y ≡ o)
order_judged {N = N} f h c o None formed inside counted six k e =
    let C : Option ℕ → Type 0 = λ s. IsCounted h c.count s in
    let zero : c.count ≡ 0 = subst C e counted in
    omega (arith, zero, six)
order_judged {N = N} f h c o (Some s) formed inside counted six k e =
    let C : Option ℕ → Type 0 = λ s. IsCounted h c.count s in
    let many : c.count ≡ length (arguments_of h s) = subst C e counted in
    let I : Cell N → Type 0 = λ x. IsIn h x in
    let lt : s < length h.structures = subst I (cell_by c s e) inside in
    λ y is. some_order (sym (order_in f h s y formed lt (sym many ∙ six) is) ∙ ap (λ (x : Cell N). execute_arguments (term_of f h x)) (sym (cell_by c s e)) ∙ ap execute_arguments k.goal_is.means)
