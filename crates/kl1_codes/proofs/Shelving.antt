-- Modules found by the numbers of their names.
use Rattle.std.proofs.Common.{◌≡◌, ℕ, ◌==◌, ◌||◌, cond, if◌then◌else◌, Bool, true, false, List, [], ◌∷◌, ◌++◌, filter, refl, sym, ap, ◌∙◌, subst, bytes_eq}
use Rattle.std.specs.Prelude.{Option, Some, None, IfSome, option_map, is_some, nat_eq}
use Rattle.std.specs.Map.{lookup, values_of}
use Rattle.std.specs.HashMap.{HashMap}
use Rattle.indexmap.specs.IndexMap.{get, insert_entry}
use Rattle.indexmap.proofs.CallerLemmas.{insert_entry-new}
use Rattle.std.proofs.lemmas.Bool.{cond-true, cond-false, eq-eqb, ne_eqb, false≢true}
use Rattle.kl1_model.specs.Term.{count_of}
use Rattle.kl1_model.specs.Module.{Module, is_of}
use Rattle.kl1_model.specs.Match.{Call, module_of, clauses_of}
use Rattle.kl1_model.specs.code.Sections.{clauses_in}
use Rattle.kl1_text.specs.Reading.{Reads}
use Rattle.kl1_text.specs.declared.cell_name.CellName.{CellName}
use Rattle.kl1_clause.specs.declared.predicate.Predicate.{Predicate}
use Rattle.kl1_clause.specs.Predicates.{FoundAs}
use Rattle.kl1_codes.specs.Numbered.{Numbered, IsRead, AreRead, ArePlaced, built, number_of}
use Rattle.kl1_codes.specs.Finding.{FindsIn, contents, Asks, is_numbered, Finds, TellsModule}
use Rattle.kl1_codes.specs.Shelves.{AreKeyed}
use Rattle.kl1_codes.proofs.Answers.{same_texts, nat_same, number_is}
use Rattle.kl1_codes.proofs.Names.{number_reads}

-- a module has a name if its number is the name's
named : (f : CellName → List ℕ) → Reads built f → (l : Numbered) → IsRead f l → (n : CellName) → bytes_eq l.content.name (f n) ≡ ((number_of l).number == n.number)
named f r l e n = ap (λ t. bytes_eq t (f n)) (sym (number_reads f r l e)) ∙ same_texts f r (number_of l) n

-- the numbers tell which modules are there
pub tells : (ls : List Numbered) (n : CellName) → TellsModule ls n (is_numbered ls n)
tells [] n f r a = refl
tells (l ∷ ls) n f r a =
    ap (λ b. b || is_numbered ls n) (sym (named f r l a.0 n))
    ∙ by (bytes_eq l.content.name (f n)) (tells ls n f r a.1)
  where
    by : (b : Bool) → is_numbered ls n ≡ is_some (module_of (contents ls) (f n)) → (b || is_numbered ls n) ≡ is_some (if b then Some l.content else module_of (contents ls) (f n))
    by true e = refl
    by false e = e

-- what stands under a number is the module of the name
pub looked_up : (f : CellName → List ℕ) → Reads built f → (es : List (ℕ × Numbered)) (n : CellName) → AreKeyed es → AreRead f (values_of es) → module_of (contents (values_of es)) (f n) ≡ option_map (λ l. l.content) (lookup (nat_eq n.number) es)
looked_up f r [] n k a = refl
looked_up f r (e ∷ es) n k a =
    ap (λ b. if b then Some e.1.content else module_of (contents (values_of es)) (f n)) (named f r e.1 a.0 n ∙ ap (λ m. m == n.number) (sym k.0) ∙ sym (nat_same n.number e.0))
    ∙ by (nat_eq n.number e.0) (looked_up f r es n k.1 a.1)
  where
    by : (b : Bool) → module_of (contents (values_of es)) (f n) ≡ option_map (λ l. l.content) (lookup (nat_eq n.number) es) → (if b then Some e.1.content else module_of (contents (values_of es)) (f n)) ≡ option_map (λ l. l.content) (cond b (Some e.1) (lookup (nat_eq n.number) es))
    by true h = refl
    by false h = h

pub read_at : (f : CellName → List ℕ) (es : List (ℕ × Numbered)) (n : ℕ) (l : Numbered) → AreRead f (values_of es) → lookup (nat_eq n) es ≡ Some l → IsRead f l
read_at f [] n l a h = absurd (cc)
read_at f (e ∷ es) n l a h = by (nat_eq n e.0) h (λ g. read_at f es n l a.1 g)
  where
    by : (b : Bool) → cond b (Some e.1) (lookup (nat_eq n) es) ≡ Some l → (lookup (nat_eq n) es ≡ Some l → IsRead f l) → IsRead f l
    by true g k = let same : e.1 ≡ l = cc in subst (IsRead f) same a.0
    by false g k = k g

-- the code of what stands under a number stands where those of all modules do
pub placed_at : (has : ℕ × ℕ → Type 0) (es : List (ℕ × Numbered)) (n : ℕ) (l : Numbered) → ArePlaced has (values_of es) → lookup (nat_eq n) es ≡ Some l → has l.place
placed_at has [] n l a h = absurd (cc)
placed_at has (e ∷ es) n l a h = by (nat_eq n e.0) h (λ g. placed_at has es n l a.1 g)
  where
    by : (b : Bool) → cond b (Some e.1) (lookup (nat_eq n) es) ≡ Some l → (lookup (nat_eq n) es ≡ Some l → has l.place) → has l.place
    by true g k = let same : e.1 ≡ l = cc in let P : Numbered → Type 0 = λ x. has x.place in subst P same a.0
    by false g k = k g

-- whether something stands under a number
pub has_number : (es : List (ℕ × Numbered)) (n : CellName) → AreKeyed es → is_some (lookup (nat_eq n.number) es) ≡ is_numbered (values_of es) n
has_number [] n k = refl
has_number (e ∷ es) n k = by (nat_eq n.number e.0) (has_number es n k.1) ∙ ap (λ b. b || is_numbered (values_of es) n) (nat_same n.number e.0 ∙ ap (λ m. m == n.number) k.0)
  where
    by : (b : Bool) → is_some (lookup (nat_eq n.number) es) ≡ is_numbered (values_of es) n → is_some (cond b (Some e.1) (lookup (nat_eq n.number) es)) ≡ (b || is_numbered (values_of es) n)
    by true h = refl
    by false h = h

pub nothing_at : {A : Type 0} (o : Option A) → is_some o ≡ false → o ≡ None
nothing_at None e = refl
nothing_at (Some a) e = absurd (false≢true (sym e))

pub more_keyed : (es : List (ℕ × Numbered)) (n : ℕ) (l : Numbered) → AreKeyed es → n ≡ (number_of l).number → AreKeyed (es ++ (n, l) ∷ [])
more_keyed [] n l k e = (e, tt)
more_keyed (x ∷ es) n l k e = (k.0, more_keyed es n l k.1 e)

pub more_values : (es : List (ℕ × Numbered)) (n : ℕ) (l : Numbered) → values_of (es ++ (n, l) ∷ []) ≡ values_of es ++ l ∷ []
more_values [] n l = refl
more_values (x ∷ es) n l = ap (λ ls. x.1 ∷ ls) (more_values es n l)

-- ---- the clauses of calls

-- the clauses of a call in the module of its name
pub asked : (f : CellName → List ℕ) (ms : List Module) (module_name name : CellName) (count : ℕ) (call : Call) (o : Option Module) → Asks f module_name name count call → module_of ms (f module_name) ≡ o → clauses_of ms call ≡ clauses_in o call
asked f ms module_name name count call o a e = ap (λ t. clauses_in (module_of ms t) call) a.module_is ∙ ap (λ m. clauses_in m call) e

in_module : (f : CellName → List ℕ) (m : Module) (module_name name : CellName) (count : ℕ) (call : Call) → Asks f module_name name count call → clauses_in (Some m) call ≡ filter (is_of (f name) count) m.clauses
in_module f m module_name name count call a = ap (λ t. filter (is_of t (count_of call.arguments)) m.clauses) a.name_is ∙ ap (λ n. filter (is_of (f name) n) m.clauses) a.counted

pub found_in : (f : CellName → List ℕ) (ms : List Module) (l : Numbered) (module_name name : CellName) (count : ℕ) (call : Call) (found : Option (Predicate CellName)) → Reads built f → IsRead f l → Asks f module_name name count call → module_of ms (f module_name) ≡ Some l.content → FindsIn l name count found → FoundAs f (clauses_of ms call) found
found_in f ms l module_name name count call found r i a e finds =
    subst (λ cs. FoundAs f cs found) (sym (asked f ms module_name name count call (Some l.content) a e ∙ in_module f l.content module_name name count call a)) (finds f r i)

-- ---- one module more

read_front : (f : CellName → List ℕ) (ls : List Numbered) (d : Numbered) → AreRead f (ls ++ d ∷ []) → AreRead f ls
read_front f [] d a = tt
read_front f (l ∷ ls) d a = (a.0, read_front f ls d a.1)

read_last : (f : CellName → List ℕ) (ls : List Numbered) (d : Numbered) → AreRead f (ls ++ d ∷ []) → IsRead f d
read_last f [] d a = a.0
read_last f (l ∷ ls) d a = read_last f ls d a.1

other_last : (ls : List Numbered) (d : Numbered) (t : List ℕ) → bytes_eq d.content.name t ≡ false → module_of (contents (ls ++ d ∷ [])) t ≡ module_of (contents ls) t
other_last [] d t e = cond-false (bytes_eq d.content.name t) (Some d.content) None e
other_last (l ∷ ls) d t e = ap (λ o. if bytes_eq l.content.name t then Some l.content else o) (other_last ls d t e)

own_last : (ls : List Numbered) (d : Numbered) (t : List ℕ) → module_of (contents ls) t ≡ None → bytes_eq d.content.name t ≡ true → module_of (contents (ls ++ d ∷ [])) t ≡ Some d.content
own_last [] d t n e = cond-true (bytes_eq d.content.name t) (Some d.content) None e
own_last (l ∷ ls) d t n e = by (bytes_eq l.content.name t) n (λ m. own_last ls d t m e)
  where
    by : (b : Bool) → (if b then Some l.content else module_of (contents ls) t) ≡ None → (module_of (contents ls) t ≡ None → module_of (contents (ls ++ d ∷ [])) t ≡ Some d.content) → (if b then Some l.content else module_of (contents (ls ++ d ∷ [])) t) ≡ Some d.content
    by true g k = absurd (cc)
    by false g k = k g

-- a predicate of the module that is drafted
pub in_draft : (ls : List Numbered) (d : Numbered) (module_name name : CellName) (count : ℕ) (found : Option (Predicate CellName)) → is_numbered ls (number_of d) ≡ false → (number_of d).number ≡ module_name.number → FindsIn d name count found → Finds (ls ++ d ∷ []) module_name name count found
in_draft ls d module_name name count found new e finds f r a call asks =
    let own : number_of d ≡ module_name = number_is (number_of d) module_name e in
    let none : module_of (contents ls) (f module_name) ≡ None = nothing_at (module_of (contents ls) (f module_name)) (sym (tells ls module_name f r (read_front f ls d a)) ∙ ap (is_numbered ls) (sym own) ∙ new) in
    let here : bytes_eq d.content.name (f module_name) ≡ true = named f r d (read_last f ls d a) module_name ∙ eq-eqb (number_of d).number module_name.number e in
    found_in f (contents (ls ++ d ∷ [])) d module_name name count call found r (read_last f ls d a) asks (own_last ls d (f module_name) none here) finds

-- and of another
pub beside_draft : (ls : List Numbered) (d : Numbered) (module_name name : CellName) (count : ℕ) (found : Option (Predicate CellName)) → ((number_of d).number ≡ module_name.number → ⊥) → Finds ls module_name name count found → Finds (ls ++ d ∷ []) module_name name count found
beside_draft ls d module_name name count found ne finds f r a call asks =
    let other : bytes_eq d.content.name (f module_name) ≡ false = named f r d (read_last f ls d a) module_name ∙ ne_eqb (number_of d).number module_name.number ne in
    let same : clauses_of (contents ls) call ≡ clauses_of (contents (ls ++ d ∷ [])) call =
    asked f (contents ls) module_name name count call (module_of (contents ls) (f module_name)) asks refl
    ∙ sym (asked f (contents (ls ++ d ∷ [])) module_name name count call (module_of (contents ls) (f module_name)) asks (other_last ls d (f module_name) other)) in
    subst (λ cs. FoundAs f cs found) same (finds f r (read_front f ls d a) call asks)

-- ---- what is found among the entries

pub finds_none : (es : List (ℕ × Numbered)) (ls : List Numbered) (module_name name : CellName) (count : ℕ) → AreKeyed es → values_of es ≡ ls → lookup (nat_eq module_name.number) es ≡ None → Finds ls module_name name count None
finds_none es ls module_name name count k same e =
    subst (λ (l : List Numbered). Finds l module_name name count None) same
    (λ f r a call asks. asked f (contents (values_of es)) module_name name count call None asks (looked_up f r es module_name k a ∙ ap (λ o. option_map (λ l. l.content) o) e))

pub finds_some : (es : List (ℕ × Numbered)) (ls : List Numbered) (l : Numbered) (module_name name : CellName) (count : ℕ) (found : Option (Predicate CellName)) → AreKeyed es → values_of es ≡ ls → lookup (nat_eq module_name.number) es ≡ Some l → FindsIn l name count found → Finds ls module_name name count found
finds_some es ls l module_name name count found k same e finds =
    subst (λ (x : List Numbered). Finds x module_name name count found) same
    (λ f r a call asks.
    found_in f (contents (values_of es)) l module_name name count call found r (read_at f es module_name.number l a e) asks (looked_up f r es module_name k a ∙ ap (λ o. option_map (λ x. x.content) o) e) finds)

-- if something is found in a module at a place
pub finds_at : (es : List (ℕ × Numbered)) (ls : List Numbered) (l : Numbered) (module_name name : CellName) (count : ℕ) (found : Option (Predicate CellName)) → AreKeyed es → values_of es ≡ ls → lookup (nat_eq module_name.number) es ≡ Some l → IfSome found (λ p. FindsIn l name count (Some p)) →
    IfSome found (λ p. Finds ls module_name name count (Some p))
finds_at es ls l module_name name count None k same e finds = tt
finds_at es ls l module_name name count (Some p) k same e finds = finds_some es ls l module_name name count (Some p) k same e finds

pub tells_value : (ls : List Numbered) (n : CellName) (b : Bool) → b ≡ is_numbered ls n → TellsModule ls n b
tells_value ls n b e f r a = e ∙ tells ls n f r a

-- ---- what is put after the others

pub entry_is_last : {S : Type 0} (m : HashMap ℕ Numbered S) (k : ℕ) (v : Numbered) → get nat_eq m k ≡ None → insert_entry nat_eq m.entries k v ≡ m.entries ++ (k, v) ∷ []
entry_is_last m k v e = insert_entry-new nat_eq m k v e

pub no_entry : (es : List (ℕ × Numbered)) (ls : List Numbered) (l : CellName) → AreKeyed es → values_of es ≡ ls → is_numbered ls l ≡ false → lookup (nat_eq l.number) es ≡ None
no_entry es ls l k same e = nothing_at (lookup (nat_eq l.number) es) (has_number es l k ∙ ap (λ (x : List Numbered). is_numbered x l) same ∙ e)
