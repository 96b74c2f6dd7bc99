-- Tests that give the same answer.
use Rattle.std.proofs.Common.{◌≡◌, ℕ, ◌==◌, ◌&&◌, Bool, true, false, List, map, refl, sym, ap, ◌∙◌, bytes_eq}
use Rattle.std.specs.Prelude.{nat_eq}
use Rattle.std.specs.Ordering.{is_eq, eq_by_cmp}
use Rattle.std.proofs.lemmas.Bool.{eqb-true, eq-eqb, false≢true}
use Rattle.std.proofs.lemmas.Cmp.{tied_itself}
use Rattle.std.proofs.lemmas.Slice.Eq.{bytes_eq-Decides}
use Rattle.kl1_model.specs.Term.{count_of}
use Rattle.kl1_model.specs.Module.{Clause, is_of}
use Rattle.kl1_text.specs.Reading.{Reads}
use Rattle.kl1_text.specs.declared.cell_name.CellName.{CellName}
use Rattle.kl1_clause.specs.declared.compiled_clause.CompiledClause.{CompiledClause}
use Rattle.kl1_clause.specs.Instructions.{text_in}
use Rattle.kl1_clause.specs.Clauses.{IsCompiled}
use Rattle.kl1_codes.specs.Numbered.{built}
use Rattle.kl1_codes.specs.Indexes.{Key, key_by, key_order, IsKeyOf}
use Rattle.kl1_codes.proofs.Rows.{key_total, one_key, equal_is}

-- two answers that imply one another are one
pub same_answer : (a b : Bool) → (a ≡ true → b ≡ true) → (b ≡ true → a ≡ true) → a ≡ b
same_answer true true f g = refl
same_answer true false f g = sym (f refl)
same_answer false true f g = g refl
same_answer false false f g = refl

pub number_is : (m n : CellName) → m.number ≡ n.number → m ≡ n
number_is m n e = ap (λ k. let c : CellName = record { number = k } in c) e

-- texts of numbers are equal if the numbers are
pub same_texts : (f : CellName → List ℕ) → Reads built f → (m n : CellName) → bytes_eq (f m) (f n) ≡ (m.number == n.number)
same_texts f r m n =
    same_answer (bytes_eq (f m) (f n)) (m.number == n.number)
    (λ e. eq-eqb m.number n.number (ap (λ c. c.number) (r.once m n ((bytes_eq-Decides (f m) (f n)).0 e))))
    (λ e. (bytes_eq-Decides (f m) (f n)).1 (ap f (number_is m n (eqb-true m.number n.number e))))

both_true : (a b : Bool) → (a && b) ≡ true → (a ≡ true) × (b ≡ true)
both_true true b e = (refl, e)
both_true false b e = absurd (false≢true e)

of_both : (a b : Bool) → a ≡ true → b ≡ true → (a && b) ≡ true
of_both true b e f = f
of_both false b e f = e

-- keys are the same if their parts are
pub same_parts : (a b : Key) → ((a.0 == b.0) && (a.1 == b.1)) ≡ eq_by_cmp key_order b a
same_parts a b =
    same_answer ((a.0 == b.0) && (a.1 == b.1)) (eq_by_cmp key_order b a)
    (λ e. let parts = both_true (a.0 == b.0) (a.1 == b.1) e in
    let same : a ≡ b = λ i. (eqb-true a.0 b.0 parts.0 i, eqb-true a.1 b.1 parts.1 i) in
    ap (λ k. eq_by_cmp key_order b k) same ∙ ap is_eq (tied_itself key_total b))
    (λ e. let same : b ≡ a = one_key b a (equal_is (key_order b a) e) in
    ap (λ k. (a.0 == k.0) && (a.1 == k.1)) same ∙ of_both (a.0 == a.0) (a.1 == a.1) (eq-eqb a.0 a.0 refl) (eq-eqb a.1 a.1 refl))

-- a clause is of a predicate if their keys are equal
pub same_key : (f : CellName → List ℕ) → Reads built f → (row : List CellName) (names : List (List ℕ)) (compiled : CompiledClause) (c : Clause) (key : Key) (name : CellName) (count : ℕ) → map f row ≡ names → IsCompiled names compiled c → IsKeyOf row compiled key →
    is_of (f name) count c ≡ eq_by_cmp key_order (key_by name count) key
same_key f r row names compiled c key name count e is k =
    let called : c.name ≡ f k.name = sym is.name ∙ ap (λ l. text_in l compiled.name) (sym e) ∙ sym (k.reads f r) in
    ap (λ t. bytes_eq t (f name) && count_of c.patterns == count) called
    ∙ ap (λ b. b && count_of c.patterns == count) (same_texts f r k.name name)
    ∙ ap (λ n. (k.name.number == name.number) && (n == count)) (sym is.count)
    ∙ same_parts (key_by k.name compiled.count) (key_by name count)
    ∙ ap (λ l. eq_by_cmp key_order (key_by name count) l) (sym k.is)

pub nat_same : (m n : ℕ) → nat_eq m n ≡ (n == m)
nat_same m n = same_answer (nat_eq m n) (n == m) (λ e. eq-eqb n m (sym (eqb-true m n e))) (λ e. eq-eqb m n (sym (eqb-true n m e)))
