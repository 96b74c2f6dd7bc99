-- Lines that are put, and lines that were read, one by one.
use Rattle.std.proofs.Common.{◌≡◌, ℕ, suc, ◌+◌, ◌-◌, ◌^◌, ◌≤◌, ◌<◌, List, [], ◌∷◌, ◌++◌, map, length, get_or, take, drop, sym, ap, ◌∙◌, subst, arith, append_assoc}
use Rattle.std.specs.Prelude.{Option, Some, Result, Ok, Err, IfOk, Vec, codes}
use Rattle.std.specs.Option.{SomeIff}
use Rattle.std.specs.declared.alloc.Global.{Global}
use Rattle.std.specs.Fmt.{decimal}
use Rattle.std.proofs.lemmas.Fmt.{decimal_digit}
use Rattle.std.proofs.lemmas.List.{take_all}
use Rattle.kl1_model.specs.declared.rules.Rules.{Rules}
use Rattle.kl1_model_server.specs.Command.{written_line, written_lines}
use Rattle.kl1_model_server.specs.JournalText.{version, heading_line}
use Rattle.kl1_log.specs.Later.{run_of_line, run_of_lines, run_line}

-- the bytes of texts
abbrev pub bytes_in : List (Vec ℕ Global) → List (List ℕ)
bytes_in ts = map (λ t. t.items) ts

-- the items after the first
abbrev pub others : {X : Type 0} → List X → List X
others xs = take (length xs - 1) (drop 1 xs)

-- a list by its first item and the others
first_and_others : {X : Type 0} (xs : List X) (x : X) → 1 ≤ length xs → x ≡ get_or xs 0 x → x ∷ others xs ≡ xs
first_and_others [] x some is = absurd (omega (arith, some))
first_and_others {X = X} (y ∷ ys) x some is =
    let count : suc (length ys) - 1 ≡ length ys = omega arith in
    ap (λ (z : X). z ∷ take (suc (length ys) - 1) ys) is ∙ ap (λ (n : ℕ). y ∷ take n ys) count ∙ ap (λ (zs : List X). y ∷ zs) (take_all (length ys) ys (omega arith))

-- texts by the first of them and the others
pub texts_split : (ts : List (Vec ℕ Global)) (t : Vec ℕ Global) (page : List (List ℕ)) → 1 ≤ length ts → t ≡ get_or ts 0 t → bytes_in ts ≡ page → t.items ∷ bytes_in (others ts) ≡ page
texts_split ts t page some is all = ap bytes_in (first_and_others ts t some is) ∙ all

pub no_texts : (ts : List (Vec ℕ Global)) (page : List (List ℕ)) → length ts < 1 → bytes_in ts ≡ page → [] ≡ page
no_texts [] page none all = all
no_texts (t ∷ ts) page none all = absurd (omega (arith, none))

-- a sum that fits
pub counted : (o : Option ℕ) (end a b : ℕ) → o ≡ Some end → SomeIff o (a + b < 2 ^ 64) (a + b) → (a + b < 2 ^ 64) × (end ≡ a + b)
counted o end a b is sum = subst (λ (x : Option ℕ). SomeIff x (a + b < 2 ^ 64) (a + b)) is sum

-- the bytes that a file gets, piece by piece
pub grown_put : (rules : Rules) (none one two : List ℕ) (was is : ℕ) (line last : List ℕ) (more : List (List ℕ)) → none ≡ [] → one ≡ none ++ run_line was is → two ≡ one ++ written_lines more → is ≡ run_of_line rules line → line ≡ last → two ≡ run_line was (run_of_line rules last) ++ written_lines more
grown_put rules none one two was is line last more p q r s t =
    r
    ∙ ap (λ (x : List ℕ). x ++ written_lines more) (q ∙ ap (λ (x : List ℕ). x ++ run_line was is) p)
    ∙ ap (λ (n : ℕ). run_line was n ++ written_lines more) (s ∙ ap (run_of_line rules) t)

-- the first line of a journal with no session open, piece by piece
pub heading_put : (rules : Rules) (n : ℕ) (out a b d new line : List ℕ) → a ≡ out ++ codes "journal " → b ≡ a ++ version rules → d ≡ b ++ codes " 0 " → line ≡ decimal n → new ≡ d ++ written_line line → new ≡ out ++ written_line (heading_line rules 0 n)
heading_put rules n out a b d new line p q r s t =
    let v = version rules in
    let front : d ≡ ((out ++ codes "journal ") ++ v) ++ codes " 0 " = r ∙ ap (λ (x : List ℕ). x ++ codes " 0 ") (q ∙ ap (λ (x : List ℕ). x ++ v) p) in
    let zero : decimal 0 ≡ codes "0" = decimal_digit 0 (omega arith) in
    t
    ∙ ap (λ (x : List ℕ). x ++ written_line line) front
    ∙ ap (λ (x : List ℕ). (((out ++ codes "journal ") ++ v) ++ codes " 0 ") ++ written_line x) s
    ∙ pieces out v (decimal n)
    ∙ ap (λ (x : List ℕ). out ++ written_line (codes "journal " ++ v ++ codes " " ++ x ++ codes " " ++ decimal n)) (sym zero)
  where
    pieces : (out v line : List ℕ) → (((out ++ codes "journal ") ++ v) ++ codes " 0 ") ++ written_line line ≡ out ++ written_line (codes "journal " ++ v ++ codes " " ++ codes "0" ++ codes " " ++ line)
    pieces out v line = simp append_assoc

-- the last of lines that are read one by one
pub last_read : {E : Type 0} (rules : Rules) (r : Result ℕ E) (line last : List ℕ) (rest : List (Vec ℕ Global)) (lines : List (List ℕ)) → IfOk r (λ n. n ≡ run_of_line rules line) → line ≡ last → run_of_lines rules (last ∷ bytes_in rest) ≡ run_of_lines rules lines → length rest < 1 → IfOk r (λ n. n ≡ run_of_lines rules lines)
last_read rules (Err e) line last rest lines is same all none = tt
last_read rules (Ok n) line last [] lines is same all none = is ∙ ap (run_of_line rules) same ∙ all
last_read rules (Ok n) line last (x ∷ xs) lines is same all none = absurd (omega (arith, none))
