-- A comparison of two integers as the only test.
use Rattle.std.proofs.Common.{◌≡◌, ℕ, ℤ, Bool, true, false, List, [], ◌∷◌, length, drop, refl, sym, ap, ◌∙◌, subst, arith}
use Rattle.std.specs.Prelude.{Some, option_map}
use Rattle.kl1_model.specs.declared.built_in.BuiltIn.{BuiltIn}
use Rattle.kl1_model.specs.declared.comparison.Comparison.{Comparison}
use Rattle.kl1_model.specs.Term.{Term, integer}
use Rattle.kl1_model.specs.code.TermCode.{behind_first}
use Rattle.kl1_model.specs.Guard.{compares, compared, test_of, test_of_two}
use Rattle.kl1_model.specs.Match.{beside}
use Rattle.kl1_text.specs.Reading.{Reads}
use Rattle.kl1_store.specs.Held.{Held}
use Rattle.kl1_clause.specs.declared.name.Name.{Name}
use Rattle.kl1_clause.specs.declared.name.Name.TheVariants.{Language}
use Rattle.kl1_clause.specs.declared.instruction.Instruction.{Instruction}
use Rattle.kl1_clause.specs.declared.instruction.Instruction.TheVariants as instruction
use Rattle.kl1_match_guard.specs.declared.test.Test.TheVariants.{Compares}
use Rattle.kl1_match_guard.specs.Tests.{test_in}
use Rattle.kl1_match.specs.declared.place.Place.{Place}
use Rattle.kl1_match.specs.declared.test_view.TestAt.TheVariants as at
use Rattle.kl1_match.specs.TestTerms.{Tests, tests_with, last_of, terms_from, instruction_in, test_term}
use Rattle.kl1_match.specs.Testing.{TestComes, TestsCome}
use Rattle.kl1_match.specs.AtOnce.{IsComparison, IsInteger}
use Rattle.kl1_match.proofs.TestForms.{row_term, placed_value}
use Rattle.kl1_match.proofs.TestSteps.{compared_integers, found_compares, test_found, tests_begin, tests_step, tests_clash, tests_end}

-- the term of an operand is its integer
operand_is : {N : Type 0} (built : BuiltIn → N) (f : N → List ℕ) (t : Tests N) (q : ℕ) (o : Instruction) (i : ℤ) → instruction_in t.row q ≡ o → IsInteger t.held t.places o i → test_term built f t (at.Row q) ≡ integer i
operand_is built f t q (instruction.Variable v) i k is = row_term built f t (at.Row q) q (instruction.Variable v) refl k ∙ placed_value f t.held (last_of t) t.places v is.cell is.placed ∙ ap (beside (last_of t)) (is.means f)
operand_is built f t q (instruction.Integer j) i k is = row_term built f t (at.Row q) q (instruction.Integer j) refl k ∙ ap integer is
operand_is built f t q (instruction.Atom a) i k is = absurd is
operand_is built f t q (instruction.Structure a n) i k is = absurd is

-- a row of one comparison
abbrev row_of : BuiltIn → Instruction → Instruction → List Instruction
row_of name left right = instruction.Structure (Language name) 2 ∷ left ∷ right ∷ []

-- nothing stands after it
none_behind : {N : Type 0} (h : Held N) (places : List (Place N)) (name : BuiltIn) (left right : Instruction) (i j : ℤ) → IsInteger h places left i → IsInteger h places right j → (named : Name → List ℕ) → terms_from named (drop 3 (row_of name left right)) ≡ behind_first (terms_from named (drop 0 (row_of name left right)))
none_behind h places name (instruction.Variable v) (instruction.Variable w) i j one two named = refl
none_behind h places name (instruction.Variable v) (instruction.Integer k) i j one two named = refl
none_behind h places name (instruction.Variable v) (instruction.Atom a) i j one two named = absurd two
none_behind h places name (instruction.Variable v) (instruction.Structure a n) i j one two named = absurd two
none_behind h places name (instruction.Integer l) (instruction.Variable w) i j one two named = refl
none_behind h places name (instruction.Integer l) (instruction.Integer k) i j one two named = refl
none_behind h places name (instruction.Integer l) (instruction.Atom a) i j one two named = absurd two
none_behind h places name (instruction.Integer l) (instruction.Structure a n) i j one two named = absurd two
none_behind h places name (instruction.Atom a) right i j one two named = absurd one
none_behind h places name (instruction.Structure a n) right i j one two named = absurd one

-- the test that it is
named_test : {N : Type 0} (built : BuiltIn → N) (h : Held N) (names : List N) (places : List (Place N)) (name : BuiltIn) (c : Comparison) (left right : Instruction) (i j : ℤ) → IsComparison name c → IsInteger h places left i → IsInteger h places right j → (f : N → List ℕ) → Reads built f →
    option_map (test_in (test_term built f (tests_with h names (row_of name left right) places))) (Some (Compares c (at.Row 1) (at.Row 2))) ≡ test_of (test_term built f (tests_with h names (row_of name left right) places) (at.Row 0))
named_test {N = N} built h names places name c left right i j is one two f reads = by left right one two
  where
    t : Instruction → Instruction → Tests N
    t left right = tests_with h names (row_of name left right) places

    there : (a b : Term) → Some (compares c a b) ≡ test_of_two (f (built name)) a b
    there a b = sym (is a b) ∙ ap (λ g. test_of_two g a b) (sym (reads.texts name))

    by : (left right : Instruction) → IsInteger h places left i → IsInteger h places right j → option_map (test_in (test_term built f (t left right))) (Some (Compares c (at.Row 1) (at.Row 2))) ≡ test_of (test_term built f (t left right) (at.Row 0))
    by (instruction.Variable v) (instruction.Variable w) one two = there (test_term built f (t (instruction.Variable v) (instruction.Variable w)) (at.Row 1)) (test_term built f (t (instruction.Variable v) (instruction.Variable w)) (at.Row 2))
    by (instruction.Variable v) (instruction.Integer k) one two = there (test_term built f (t (instruction.Variable v) (instruction.Integer k)) (at.Row 1)) (integer k)
    by (instruction.Variable v) (instruction.Atom a) one two = absurd two
    by (instruction.Variable v) (instruction.Structure a n) one two = absurd two
    by (instruction.Integer l) (instruction.Variable w) one two = there (integer l) (test_term built f (t (instruction.Integer l) (instruction.Variable w)) (at.Row 2))
    by (instruction.Integer l) (instruction.Integer k) one two = there (integer l) (integer k)
    by (instruction.Integer l) (instruction.Atom a) one two = absurd two
    by (instruction.Integer l) (instruction.Structure a n) one two = absurd two
    by (instruction.Atom a) right one two = absurd one
    by (instruction.Structure a n) right one two = absurd one

-- what all tests come to if the first is the last
all_come : {N : Type 0} (built : BuiltIn → N) (t : Tests N) (awaited : List ℕ) (b : Bool) → length t.row ≡ 3 → ((named : Name → List ℕ) → terms_from named (drop 3 t.row) ≡ behind_first (terms_from named (drop 0 t.row))) → TestComes built t 0 awaited awaited b → TestsCome built t 0 awaited awaited b
all_come built t awaited true three behind c = tests_end built t 3 awaited awaited (omega (arith, three)) (tests_step built t 0 3 awaited awaited awaited (omega (arith, three)) behind (tests_begin built t awaited) c)
all_come built t awaited false three behind c = tests_clash built t 0 awaited awaited awaited (omega (arith, three)) (tests_begin built t awaited) c

-- a row of one comparison of two integers comes to whether it holds
compared_at_once : {N : Type 0} (built : BuiltIn → N) (h : Held N) (names : List N) (places : List (Place N)) (name : BuiltIn) (c : Comparison) (left right : Instruction) (i j : ℤ) (b : Bool) (awaited : List ℕ) → IsComparison name c → IsInteger h places left i → IsInteger h places right j → b ≡ compared c i j →
    TestsCome built (tests_with h names (row_of name left right) places) 0 awaited awaited b
compared_at_once {N = N} built h names places name c left right i j b awaited is one two e =
    let t : Tests N = tests_with h names (row_of name left right) places in
    let sides = compared_integers built t c (at.Row 1) (at.Row 2) i j awaited b e (λ f. operand_is built f t 1 left i refl one) (λ f. operand_is built f t 2 right j refl two) in
    let found = found_compares built t (Compares c (at.Row 1) (at.Row 2)) c (at.Row 1) (at.Row 2) awaited awaited b refl sides in
    all_come built t awaited b refl (none_behind h places name left right i j one two)
    (test_found built t 0 (Some (Compares c (at.Row 1) (at.Row 2))) (Compares c (at.Row 1) (at.Row 2)) awaited awaited b refl refl (λ f reads. named_test built h names places name c left right i j is one two f reads) found)

-- a row of three instructions
row_is : (row : List Instruction) → length row ≡ 3 → row ≡ instruction_in row 0 ∷ instruction_in row 1 ∷ instruction_in row 2 ∷ []
row_is [] e = absurd (omega (arith, e))
row_is (a ∷ []) e = absurd (omega (arith, e))
row_is (a ∷ b ∷ []) e = absurd (omega (arith, e))
row_is (a ∷ b ∷ c ∷ []) e = refl
row_is (a ∷ b ∷ c ∷ d ∷ is) e = absurd (omega (arith, e))

-- a row whose three instructions are one comparison of two integers comes to whether it holds
pub row_at_once : {N : Type 0} (built : BuiltIn → N) (h : Held N) (names : List N) (row : List Instruction) (places : List (Place N)) (name : BuiltIn) (c : Comparison) (left right : Instruction) (i j : ℤ) (b : Bool) (awaited : List ℕ) → length row ≡ 3 →
    instruction_in row 0 ≡ instruction.Structure (Language name) 2 → instruction_in row 1 ≡ left → instruction_in row 2 ≡ right → IsComparison name c → IsInteger h places left i → IsInteger h places right j → b ≡ compared c i j →
    TestsCome built (tests_with h names row places) 0 awaited awaited b
row_at_once {N = N} built h names row places name c left right i j b awaited three first second third is one two e =
    let P : List Instruction → Type 0 = λ r. TestsCome built (tests_with h names r places) 0 awaited awaited b in
    subst P (sym (row_is row three ∙ ap (λ k. k ∷ instruction_in row 1 ∷ instruction_in row 2 ∷ []) first ∙ ap (λ k. instruction.Structure (Language name) 2 ∷ k ∷ instruction_in row 2 ∷ []) second ∙ ap (λ k. instruction.Structure (Language name) 2 ∷ left ∷ k ∷ []) third))
    (compared_at_once built h names places name c left right i j b awaited is one two e)
