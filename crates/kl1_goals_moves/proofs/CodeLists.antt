-- Lists of codes, cell by cell.
use Rattle.std.proofs.Common.{◌≡◌, ℕ, zero, suc, ◌+◌, ◌-◌, ◌<◌, ◌≤◌, Bool, true, false, if◌then◌else◌, List, [], ◌∷◌, ◌++◌, length, length-append, refl, sym, ap, ◌∙◌, subst, arith, append_assoc}
use Rattle.std.specs.Prelude.{pos, negsuc, ◌&&◌, codes, bytes_eq}
use Rattle.std.specs.List.{list_all}
use Rattle.std.proofs.lemmas.Bool.{cond-true, le-leb}
use Rattle.kl1_model.specs.declared.limits.TheConstants.{MOST_NAME_BYTES, MOST_SPELLED_BEFORE}
use Rattle.kl1_model.specs.declared.rules.Rules.{Rules}
use Rattle.kl1_model.specs.declared.rules.Rules.TheVariants.{One, Two, Three, Four, Five}
use Rattle.kl1_model.specs.State.{most_spelled}
use Rattle.kl1_model.specs.Text.{is_name_byte, is_text}
use Rattle.kl1_model.specs.Term.{Term, variable, integer, atom, structure, none, more}
use Rattle.kl1_model.specs.Look.{spelled_by, spelling}
use Rattle.kl1_model.specs.declared.built_in.BuiltIn.{BuiltIn}
use Rattle.kl1_text.specs.Reading.{Reads}
use Rattle.kl1_store.specs.declared.cell.Cell.{Cell}
use Rattle.kl1_store.specs.declared.cell.Cell.TheVariants.{Variable, Integer, Atom, Structure}
use Rattle.kl1_store.specs.Held.{Held}
use Rattle.kl1_store.specs.Meaning.{term_of}
use Rattle.kl1_goals_moves.specs.Tops.{HasTop}
use Rattle.kl1_goals_moves.specs.Shapes.{two_terms}
use Rattle.kl1_goals_moves.specs.declared.codes.Code.{Code}
use Rattle.kl1_goals_moves.specs.declared.codes.Code.TheVariants.{Byte, Waits, Wrong}
use Rattle.kl1_goals_moves.specs.declared.codes.Front.{Front}
use Rattle.kl1_goals_moves.specs.Spellings.{code_by, front_by, HasFront, spelled_after}
use Rattle.kl1_model.specs.Found.{Found, found, awaits, wrong, found_map}

-- what an element of a list of codes makes of what is spelled after it
abbrev code_before : Code → Found (List ℕ) → Found (List ℕ)
code_before (Byte n) rest = found_map (λ text. n ∷ text) rest
code_before (Waits v) rest = awaits v
code_before Wrong rest = wrong

byte_before : (n : ℕ) (b : Bool) (rest : Found (List ℕ)) → (if b then found_map (λ text. n ∷ text) rest else wrong) ≡ code_before (if b then Byte n else Wrong) rest
byte_before n true rest = refl
byte_before n false rest = refl

element_as : {N : Type 0} (f : N → List ℕ) (t : Term) (x : Cell N) (rest : Found (List ℕ)) → HasTop f t x → spelled_by t rest ≡ code_before (code_by x) rest
element_as f t (Variable v) rest e = ap (λ k. spelled_by k rest) e
element_as f t (Integer (pos n)) rest e = ap (λ k. spelled_by k rest) e ∙ byte_before n (is_name_byte n) rest
element_as f t (Integer (negsuc n)) rest e = ap (λ k. spelled_by k rest) e
element_as f t (Atom a) rest e = ap (λ k. spelled_by k rest) e
element_as f (variable v) (Structure s) rest e = absurd (cc)
element_as f (integer i) (Structure s) rest e = absurd (cc)
element_as f (atom a) (Structure s) rest e = absurd (cc)
element_as f (structure g us) (Structure s) rest e = refl

cell_spelled : (left : ℕ) (g : List ℕ) (a b : Term) → (left ≡ 0 → ⊥) → bytes_eq g (codes ".") ≡ true → spelling left (structure g (more a (more b none))) ≡ spelled_by a (spelling (left - 1) b)
cell_spelled zero g a b some e = absurd (some refl)
cell_spelled (suc left) g a b some e =
    let one : left ≡ suc left - 1 = omega arith in
    cond-true (bytes_eq g (codes ".")) (spelled_by a (spelling left b)) wrong e ∙ ap (λ k. spelled_by a (spelling k b)) one

front_as : {N : Type 0} (f : N → List ℕ) (h : Held N) (left : ℕ) (t : Term) (rest : Cell N) (k : Code) → spelling left t ≡ code_before k (spelling (left - 1) (term_of f h rest)) → HasFront f h left t (front_by k rest)
front_as f h left t rest (Byte n) e = e
front_as f h left t rest (Waits v) e = e
front_as f h left t rest Wrong e = e

-- a cell with an element and the rest
pub cell_front : {N : Type 0} (f : N → List ℕ) (h : Held N) (left : ℕ) (t : Term) (name : N) (element rest top : Cell N) (k : Code) (r : Front N) → t ≡ two_terms f h name element rest → (left ≡ 0 → ⊥) → bytes_eq (f name) (codes ".") ≡ true →
    HasTop f (term_of f h element) top → k ≡ code_by top → r ≡ front_by k rest → HasFront f h left t r
cell_front {N = N} f h left t name element rest top k r e some cell has is own =
    let P : Front N → Type 0 = λ x. HasFront f h left t x in
    let Q : Code → Type 0 = λ x. HasFront f h left t (front_by x rest) in
    subst P (sym own) (subst Q (sym is) (front_as f h left t rest (code_by top) (
    ap (spelling left) e ∙ cell_spelled left (f name) (term_of f h element) (term_of f h rest) some cell ∙ element_as f (term_of f h element) top (spelling (left - 1) (term_of f h rest)) has)))

-- ---- the walk over a list of codes

after_before : (text : List ℕ) (n : ℕ) (x : Found (List ℕ)) → spelled_after text (found_map (λ text. n ∷ text) x) ≡ spelled_after (text ++ n ∷ []) x
after_before text n (found rest) = ap (λ l. found l) (sym (append_assoc text (n ∷ []) rest))
after_before text n (awaits v) = refl
after_before text n wrong = refl

-- what the rest of a list spells after a text is what the whole list spells
abbrev pub SpellsOn : {N : Type 0} → (BuiltIn → N) → Held N → ℕ → List ℕ → ℕ → Cell N → Cell N → Type 0
SpellsOn {N = N} built h most text left rest whole = (f : N → List ℕ) → Reads built f → spelled_after text (spelling left (term_of f h rest)) ≡ spelling most (term_of f h whole)

pub no_codes_yet : {N : Type 0} (built : BuiltIn → N) (h : Held N) (most : ℕ) (text : List ℕ) (left : ℕ) (rest whole : Cell N) → text ≡ [] → left ≡ most → rest ≡ whole → SpellsOn built h most text left rest whole
no_codes_yet built h most text left rest whole et el er = λ f r.
    ap (λ l. spelled_after l (spelling left (term_of f h rest))) et ∙ nothing (spelling left (term_of f h rest)) ∙ ap (λ n. spelling n (term_of f h rest)) el ∙ ap (λ x. spelling most (term_of f h x)) er
  where
    nothing : (x : Found (List ℕ)) → spelled_after [] x ≡ x
    nothing (found rest) = refl
    nothing (awaits v) = refl
    nothing wrong = refl

-- one code more is put after the text
pub code_taken : (text text' : List ℕ) (n left left' : ℕ) (t rest : Term) (whole : Found (List ℕ)) → text' ≡ text ++ n ∷ [] → left' ≡ left - 1 → spelling left t ≡ found_map (λ text. n ∷ text) (spelling (left - 1) rest) → spelled_after text (spelling left t) ≡ whole → spelled_after text' (spelling left' rest) ≡ whole
code_taken text text' n left left' t rest whole et el front so_far =
    ap (λ l. spelled_after l (spelling left' rest)) et ∙ ap (λ k. spelled_after (text ++ n ∷ []) (spelling k rest)) el
    ∙ sym (after_before text n (spelling (left - 1) rest)) ∙ sym (ap (spelled_after text) front) ∙ so_far

bytes_behind : (text : List ℕ) (n : ℕ) → list_all is_name_byte text ≡ true → is_name_byte n ≡ true → list_all is_name_byte (text ++ n ∷ []) ≡ true
bytes_behind [] n e b = ap (λ x. x && true) b
bytes_behind (m ∷ text) n e b = by (is_name_byte m) (list_all is_name_byte text) e (λ rest. bytes_behind text n rest b)
  where
    by : (x y : Bool) → (x && y) ≡ true → (y ≡ true → list_all is_name_byte (text ++ n ∷ []) ≡ true) → (x && list_all is_name_byte (text ++ n ∷ [])) ≡ true
    by true y e next = next e
    by false y e next = absurd (cc)

pub all_bytes : (text text' : List ℕ) (n : ℕ) → text' ≡ text ++ n ∷ [] → list_all is_name_byte text ≡ true → is_name_byte n ≡ true → list_all is_name_byte text' ≡ true
all_bytes text text' n own e b = ap (list_all is_name_byte) own ∙ bytes_behind text n e b

pub one_more : (text text' : List ℕ) (n left most : ℕ) → text' ≡ text ++ n ∷ [] → 0 < left → length text + left ≡ most → length text' + (left - 1) ≡ most
one_more text text' n left most own some count = let e : length text' ≡ length text + 1 = ap length own ∙ length-append text (n ∷ []) in omega (arith, e, some, count)

-- by any rules no more is spelled than a name may have
pub spelled_in_names : (rules : Rules) → most_spelled rules ≤ MOST_NAME_BYTES
spelled_in_names One = let le : MOST_SPELLED_BEFORE ≤ MOST_NAME_BYTES = omega arith in le
spelled_in_names Two = let le : MOST_SPELLED_BEFORE ≤ MOST_NAME_BYTES = omega arith in le
spelled_in_names Four = let le : MOST_NAME_BYTES ≤ MOST_NAME_BYTES = omega arith in le
spelled_in_names Five = let le : MOST_NAME_BYTES ≤ MOST_NAME_BYTES = omega arith in le
spelled_in_names Three = let le : MOST_NAME_BYTES ≤ MOST_NAME_BYTES = omega arith in le

-- the text is a name at the end
pub text_is : (rules : Rules) (text : List ℕ) (left : ℕ) → length text + left ≡ most_spelled rules → list_all is_name_byte text ≡ true → is_text text ≡ true
text_is rules text left n e = let few = spelled_in_names rules in let le : length text ≤ MOST_NAME_BYTES = omega (arith, n, few) in ap (λ b. b && list_all is_name_byte text) (le-leb (length text) MOST_NAME_BYTES le) ∙ e
