-- The forms of the terms of tests.
use Rattle.std.proofs.Common.{◌≡◌, ℕ, zero, suc, ◌+◌, ◌<◌, ◌≤◌, ◌==◌, Bool, true, false, if◌then◌else◌, List, [], ◌∷◌, length, drop, refl, sym, ap, ◌∙◌, subst, arith}
use Rattle.std.specs.Prelude.{Option, Some, None, option_map}
use Rattle.kl1_model.specs.declared.built_in.BuiltIn.{BuiltIn}
use Rattle.kl1_model.specs.Term.{Term, variable, structure, substituted, Terms, none, more, each_substituted, count_of}
use Rattle.kl1_model.specs.code.TermCode.{first_term, behind_first, front_of, behind}
use Rattle.kl1_model.specs.laws.Clashes.{argument_at}
use Rattle.kl1_model.specs.Match.{beside, test_variable}
use Rattle.kl1_model.proofs.Substitutions.{count-each_substituted}
use Rattle.kl1_store.specs.declared.cell.Cell.{Cell}
use Rattle.kl1_store.specs.Held.{Held, IsIn, arguments_of}
use Rattle.kl1_store.specs.Meaning.{term_of, terms_of}
use Rattle.kl1_clause.specs.declared.instruction.Instruction.{Instruction}
use Rattle.kl1_clause.specs.declared.instruction.Instruction.TheVariants as instruction
use Rattle.kl1_match_guard.specs.declared.form.Form.{Form}
use Rattle.kl1_match_guard.specs.declared.form.Form.TheVariants.{Variable, Integer, Atom, Structure}
use Rattle.kl1_match_guard.specs.Forms.{IsForm, IsFormIn, IsStructure}
use Rattle.kl1_clause.specs.declared.name.Name.{Name}
use Rattle.kl1_clause.specs.Instructions.{IsNamed, AreNamed}
use Rattle.kl1_match.specs.declared.place.Place.{Place}
use Rattle.kl1_match.specs.declared.test_view.TestAt.{TestAt}
use Rattle.kl1_match.specs.declared.test_view.TestAt.TheVariants as at
use Rattle.kl1_match.specs.declared.test_view.TestVariable.{TestVariable}
use Rattle.kl1_match.specs.declared.test_view.TestStructure.{TestStructure}
use Rattle.kl1_match.specs.declared.test_view.TestStructure.TheVariants as place
use Rattle.kl1_match.specs.Matching.{arguments_after}
use Rattle.kl1_match.proofs.Reading.{top_of, first_at}
use Rattle.kl1_match.specs.Instances.{AreThere, replacements_of}
use Rattle.kl1_match.specs.Waiting.{IsUnbound}
use Rattle.kl1_match.specs.TestTerms.{name_of, terms_from, instruction_in, highest_of, highest_among, first_cell, Tests, AreSound, last_of, named_in, value_in, test_term, test_number, test_count, test_arguments, IsFreeIn, IsTermAt, IsStructureAt, moved_form}

-- ---- cells

pub form_moved : {N : Type 0} (built : BuiltIn → N) (f : N → List ℕ) (t : Tests N) (form : Form N ℕ ℕ) (u : Term) → IsForm f (λ v. v) (λ s. terms_of f t.held (arguments_of t.held s)) form u →
    IsForm f (test_number t) (test_arguments built f t) (moved_form form) (beside (last_of t) u)
form_moved built f t (Variable v) u i = ap (beside (last_of t)) i
form_moved built f t (Integer k) u i = ap (beside (last_of t)) i
form_moved built f t (Atom a) u i = ap (beside (last_of t)) i
form_moved built f t (Structure a n s) u i = record { is = ap (beside (last_of t)) i.is; counted = count-each_substituted (λ v. variable (suc (last_of t + v))) (terms_of f t.held (arguments_of t.held s)) ∙ i.counted }

pub inside_moved : {N : Type 0} (t : Tests N) (form : Form N ℕ ℕ) → IsFormIn (IsUnbound t.held) (λ n. n < length t.held.structures) (λ n. length (arguments_of t.held n)) form →
    IsFormIn (IsFreeIn t) (IsStructureAt t) (test_count t) (moved_form form)
inside_moved t (Variable v) i = i
inside_moved t (Integer k) i = tt
inside_moved t (Atom a) i = tt
inside_moved t (Structure a n s) i = i

-- ---- variables of the row

value_here : {N : Type 0} (f : N → List ℕ) (h : Held N) (last : ℕ) (p : Place N) (ps : List (Place N)) (v : ℕ) (x : Cell N) (b : Bool) → (first_cell ps v ≡ Some x → test_variable last (replacements_of f h ps) v ≡ beside last (term_of f h x)) →
    (if b then Some p.cell else first_cell ps v) ≡ Some x → (if b then beside last (term_of f h p.cell) else test_variable last (replacements_of f h ps) v) ≡ beside last (term_of f h x)
value_here f h last p ps v x true next e = ap (λ c. beside last (term_of f h c)) (some_same e)
  where
    some_same : Some p.cell ≡ Some x → p.cell ≡ x
    some_same e = cc
value_here f h last p ps v x false next e = next e

pub placed_value : {N : Type 0} (f : N → List ℕ) (h : Held N) (last : ℕ) (ps : List (Place N)) (v : ℕ) (x : Cell N) → first_cell ps v ≡ Some x → test_variable last (replacements_of f h ps) v ≡ beside last (term_of f h x)
placed_value f h last [] v x e = absurd (cc)
placed_value f h last (p ∷ ps) v x e = value_here f h last p ps v x (p.variable == v) (placed_value f h last ps v x) e

own_here : {N : Type 0} (f : N → List ℕ) (h : Held N) (last : ℕ) (p : Place N) (ps : List (Place N)) (v : ℕ) (b : Bool) → (first_cell ps v ≡ None → test_variable last (replacements_of f h ps) v ≡ variable v) →
    (if b then Some p.cell else first_cell ps v) ≡ None → (if b then beside last (term_of f h p.cell) else test_variable last (replacements_of f h ps) v) ≡ variable v
own_here f h last p ps v true next e = absurd (cc)
own_here f h last p ps v false next e = next e

pub own_value : {N : Type 0} (f : N → List ℕ) (h : Held N) (last : ℕ) (ps : List (Place N)) (v : ℕ) → first_cell ps v ≡ None → test_variable last (replacements_of f h ps) v ≡ variable v
own_value f h last [] v e = refl
own_value f h last (p ∷ ps) v e = own_here f h last p ps v (p.variable == v) (own_value f h last ps v) e

cell_here : {N : Type 0} (h : Held N) (p : Place N) (ps : List (Place N)) (v : ℕ) (x : Cell N) (b : Bool) → IsIn h p.cell → (first_cell ps v ≡ Some x → IsIn h x) → (if b then Some p.cell else first_cell ps v) ≡ Some x → IsIn h x
cell_here {N = N} h p ps v x true inside next e = let I : Cell N → Type 0 = λ c. IsIn h c in subst I (some_same e) inside
  where
    some_same : Some p.cell ≡ Some x → p.cell ≡ x
    some_same e = cc
cell_here h p ps v x false inside next e = next e

-- the cell at the first place of a variable is of the store
pub placed_in : {N : Type 0} (h : Held N) (ps : List (Place N)) (v : ℕ) (x : Cell N) → AreThere h ps → first_cell ps v ≡ Some x → IsIn h x
placed_in h [] v x a e = absurd (cc)
placed_in h (p ∷ ps) v x a e = cell_here h p ps v x (p.variable == v) a.0 (placed_in h ps v x a.1) e

-- a variable of the row is at most the greatest
pub within_last : (row : List Instruction) (q : ℕ) → highest_of (instruction_in row q) ≤ highest_among row
within_last [] zero = omega arith
within_last [] (suc q) = omega arith
within_last (i ∷ is) zero = omega arith
within_last (i ∷ is) (suc q) = omega (arith, within_last is q)

-- ---- arguments

front_count : (n : ℕ) (ts : List Term) (s : ℕ → Term) (i : ℕ) → i < n → argument_at (each_substituted s (front_of n ts)) i ≡ Some (substituted s (first_term (behind i ts)))
front_count zero ts s i lt = absurd (omega arith)
front_count (suc n) ts s zero lt = refl
front_count (suc n) ts s (suc i) lt = front_count n (behind_first ts) s i (omega arith)

pub front_argument : (n : ℕ) (ts us : List Term) (s : ℕ → Term) (i : ℕ) → i < n → us ≡ behind i ts → argument_at (each_substituted s (front_of n ts)) i ≡ Some (substituted s (first_term us))
front_argument n ts us s i lt e = front_count n ts s i lt ∙ ap (λ l. Some (substituted s (first_term l))) (sym e)

pub argument_moved : (s : ℕ → Term) (ts : Terms) (i : ℕ) (t : Term) → argument_at ts i ≡ Some t → argument_at (each_substituted s ts) i ≡ Some (substituted s t)
argument_moved s none i t e = absurd (cc)
argument_moved s (more u us) zero t e = ap (λ (o : Option Term). option_map (substituted s) o) e
argument_moved s (more u us) (suc i) t e = argument_moved s us i t e

pub front_of_count : (n : ℕ) (ts : List Term) → count_of (front_of n ts) ≡ n
front_of_count zero ts = refl
front_of_count (suc n) ts = ap suc (front_of_count n (behind_first ts))

-- ---- what stands somewhere

-- an argument of a cell's structure
pub argument_is : {N : Type 0} (built : BuiltIn → N) (f : N → List ℕ) (t : Tests N) (x : TestStructure) (s i : ℕ) (y : Cell N) → x ≡ place.Cell s → argument_at (terms_of f t.held (arguments_of t.held s)) i ≡ Some (term_of f t.held y) →
    argument_at (test_arguments built f t x) i ≡ Some (test_term built f t (at.Cell y))
argument_is built f t x s i y e a =
    ap (λ k. argument_at (test_arguments built f t k) i) e ∙ argument_moved (λ v. variable (suc (last_of t + v))) (terms_of f t.held (arguments_of t.held s)) i (term_of f t.held y) a

-- an argument of a structure of the row
pub argument_is_row : {N : Type 0} (built : BuiltIn → N) (f : N → List ℕ) (t : Tests N) (x : TestStructure) (q i p : ℕ) → x ≡ place.Row q → i < test_count t x → terms_from (named_in built f t) (drop p t.row) ≡ behind i (terms_from (named_in built f t) (drop (suc q) t.row)) →
    argument_at (test_arguments built f t x) i ≡ Some (test_term built f t (at.Row p))
argument_is_row built f t x q i p e lt a =
    let L : TestStructure → Type 0 = λ k. i < test_count t k in
    ap (λ k. argument_at (test_arguments built f t k) i) e
    ∙ front_argument (arguments_after (instruction_in t.row q)) (terms_from (named_in built f t) (drop (suc q) t.row)) (terms_from (named_in built f t) (drop p t.row)) (value_in f t) i (subst L e lt) a

pub sound_at : {N : Type 0} (t : Tests N) (x : TestAt N) (q : ℕ) → x ≡ at.Row q → IsTermAt t x → AreSound t
sound_at {N = N} t x q e i = let P : TestAt N → Type 0 = λ k. IsTermAt t k in subst P e i

-- the form of a cell's term
pub cell_form : {N : Type 0} (built : BuiltIn → N) (f : N → List ℕ) (t : Tests N) (x : TestAt N) (y : Cell N) (form : Form N ℕ ℕ) (result : Form N TestVariable TestStructure) → x ≡ at.Cell y → result ≡ moved_form form →
    IsForm f (λ v. v) (λ s. terms_of f t.held (arguments_of t.held s)) form (term_of f t.held y) → IsForm f (test_number t) (test_arguments built f t) result (test_term built f t x)
cell_form {N = N} built f t x y form result e r i =
    let P : Form N TestVariable TestStructure → Type 0 = λ k. IsForm f (test_number t) (test_arguments built f t) k (test_term built f t x) in
    let Q : TestAt N → Type 0 = λ k. IsForm f (test_number t) (test_arguments built f t) (moved_form form) (test_term built f t k) in
    subst P (sym r) (subst Q (sym e) (form_moved built f t form (term_of f t.held y) i))

-- the term that begins with an instruction of the row
pub row_term : {N : Type 0} (built : BuiltIn → N) (f : N → List ℕ) (t : Tests N) (x : TestAt N) (q : ℕ) (i : Instruction) → x ≡ at.Row q → instruction_in t.row q ≡ i →
    test_term built f t x ≡ substituted (value_in f t) (top_of (named_in built f t) i (terms_from (named_in built f t) (drop (suc q) t.row)))
row_term built f t x q i e k =
    ap (test_term built f t) e
    ∙ ap (substituted (value_in f t)) (first_at (named_in built f t) t.row q ∙ ap (λ j. top_of (named_in built f t) j (terms_from (named_in built f t) (drop (suc q) t.row))) k)

pub placed_cell : {N : Type 0} (t : Tests N) (x : TestAt N) (q v : ℕ) (y : Cell N) → x ≡ at.Row q → IsTermAt t x → first_cell t.places v ≡ Some y → IsIn t.held y
placed_cell t x q v y e i c = placed_in t.held t.places v y (sound_at t x q e i).there c

-- a variable of the row with a place
pub placed_form : {N : Type 0} (built : BuiltIn → N) (f : N → List ℕ) (t : Tests N) (x : TestAt N) (q v : ℕ) (y : Cell N) (form : Form N ℕ ℕ) (result : Form N TestVariable TestStructure) → x ≡ at.Row q → instruction_in t.row q ≡ instruction.Variable v →
    first_cell t.places v ≡ Some y → result ≡ moved_form form → IsForm f (λ v. v) (λ s. terms_of f t.held (arguments_of t.held s)) form (term_of f t.held y) → IsForm f (test_number t) (test_arguments built f t) result (test_term built f t x)
placed_form {N = N} built f t x q v y form result e k c r i =
    let P : Form N TestVariable TestStructure → Type 0 = λ k. IsForm f (test_number t) (test_arguments built f t) k (test_term built f t x) in
    let Q : Term → Type 0 = λ u. IsForm f (test_number t) (test_arguments built f t) (moved_form form) u in
    subst P (sym r) (subst Q (sym (row_term built f t x q (instruction.Variable v) e k ∙ placed_value f t.held (last_of t) t.places v y c)) (form_moved built f t form (term_of f t.held y) i))

-- one without
pub own_form : {N : Type 0} (built : BuiltIn → N) (f : N → List ℕ) (t : Tests N) (x : TestAt N) (q v : ℕ) → x ≡ at.Row q → instruction_in t.row q ≡ instruction.Variable v → first_cell t.places v ≡ None → test_term built f t x ≡ variable v
own_form built f t x q v e k c = row_term built f t x q (instruction.Variable v) e k ∙ own_value f t.held (last_of t) t.places v c

pub own_free : {N : Type 0} (t : Tests N) (q v : ℕ) → instruction_in t.row q ≡ instruction.Variable v → v ≤ last_of t
own_free t q v k = omega (arith, ap highest_of k, within_last t.row q)

named_anywhere : (count : ℕ) (row : List Instruction) (q : ℕ) → AreNamed count row → IsNamed count (instruction_in row q)
named_anywhere count [] zero a = tt
named_anywhere count [] (suc q) a = tt
named_anywhere count (i ∷ is) zero a = a.0
named_anywhere count (i ∷ is) (suc q) a = named_anywhere count is q a.1

-- the name of an instruction of the row is one of the code
pub row_name : {N : Type 0} (t : Tests N) (x : TestAt N) (q : ℕ) (i : Instruction) → x ≡ at.Row q → IsTermAt t x → instruction_in t.row q ≡ i → IsNamed (length t.names) i
row_name t x q i e a k = let P : Instruction → Type 0 = λ j. IsNamed (length t.names) j in subst P k (named_anywhere (length t.names) t.row q (sound_at t x q e a).named)

-- a structure of the row
pub structure_form : {N : Type 0} (built : BuiltIn → N) (f : N → List ℕ) (t : Tests N) (x : TestAt N) (q : ℕ) (a : Name) (n : ℕ) (name : N) → x ≡ at.Row q → instruction_in t.row q ≡ instruction.Structure a n → name ≡ name_of built t.names a →
    IsStructure (f name) (test_arguments built f t (place.Row q)) n (test_term built f t x)
structure_form built f t x q a n name e k m =
    let rest = terms_from (named_in built f t) (drop (suc q) t.row) in
    let counted : arguments_after (instruction_in t.row q) ≡ n = ap arguments_after k in
    record {
      is =
          row_term built f t x q (instruction.Structure a n) e k
          ∙ ap (λ g. structure (f g) (each_substituted (value_in f t) (front_of n rest))) (sym m)
          ∙ ap (λ c. structure (f name) (each_substituted (value_in f t) (front_of c rest))) (sym counted);
      counted = count-each_substituted (value_in f t) (front_of (arguments_after (instruction_in t.row q)) rest) ∙ (front_of_count (arguments_after (instruction_in t.row q)) rest ∙ counted);
    }
