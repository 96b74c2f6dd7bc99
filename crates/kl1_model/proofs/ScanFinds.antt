-- Which terms are expressions, and which expressions.
use Rattle.std.proofs.Common.{◌≡◌, ℕ, zero, suc, ◌+◌, Bool, true, false, if◌then◌else◌, List, [], ◌∷◌, refl, sym, ap, ap₂, ◌∙◌, subst, arith}
use Rattle.std.specs.Prelude.{bytes_eq, find, Option, Some, None}
use Rattle.std.proofs.lemmas.Option.{none-some, same_Some}
use Rattle.std.proofs.lemmas.Slice.Eq.{bytes_eq-Decides}
use Rattle.kl1_model.specs.declared.operator.Operator.{Operator}
use Rattle.kl1_model.specs.declared.operator.Operator.TheVariants.{Plus, Minus, Times, Divide, Modulo}
use Rattle.kl1_model.specs.Term.{Term, variable, integer, atom, structure, Terms, none, more}
use Rattle.kl1_model.specs.Arithmetic.{ArithmeticExpression, number, operation, operator_name, operator_named, operators, with_left, with_right, scan, scan_operation, Scanned}
use Rattle.kl1_model.specs.laws.ScanLaws.{formula_term, operators_of, ScanFinds}
use Rattle.kl1_model.specs.Found.{Found, found, awaits, wrong}

-- ---- names

named_again : (o : Operator) → operator_named (operator_name o) ≡ Some o
named_again Plus = refl
named_again Minus = refl
named_again Times = refl
named_again Divide = refl
named_again Modulo = refl

found_name_by : (b : Bool) (f : List ℕ) (p o : Operator) (rest : Option Operator) → bytes_eq f (operator_name p) ≡ b → (if b then Some p else rest) ≡ Some o → (rest ≡ Some o → f ≡ operator_name o) → f ≡ operator_name o
found_name_by true f p o rest e h k = (bytes_eq-Decides f (operator_name p)).0 e ∙ ap operator_name (same_Some p o h)
found_name_by false f p o rest e h k = k h

found_name : (ps : List Operator) (f : List ℕ) (o : Operator) → find (λ p. bytes_eq f (operator_name p)) ps ≡ Some o → f ≡ operator_name o
found_name [] f o h = absurd (none-some o h)
found_name (p ∷ ps) f o h = found_name_by (bytes_eq f (operator_name p)) f p o (find (λ q. bytes_eq f (operator_name q)) ps) refl h (found_name ps f o)

-- ---- from scans to expressions

-- what was found writes the term, with the operators that are fewer left
record Finds (t : Term) (most : ℕ) (e : ArithmeticExpression) (left : ℕ) : Type 0 where
  writes : formula_term e ≡ t
  counts : most ≡ operators_of e + left

same_scanned : (x y : Scanned) → found x ≡ found y → x ≡ y
same_scanned x y e = cc

found_parts : {a b : ArithmeticExpression} {m n : ℕ} → ◌≡◌ {A = Found Scanned} (found (record { expression = a; operators_left = m })) (found (record { expression = b; operators_left = n })) → (a ≡ b) × (m ≡ n)
found_parts {a} {b} {m} {n} e =
    let same : ◌≡◌ {A = Scanned} (record { expression = a; operators_left = m }) (record { expression = b; operators_left = n }) = same_scanned (record { expression = a; operators_left = m }) (record { expression = b; operators_left = n }) e in
    (ap (λ (x : Scanned). x.expression) same, ap (λ (x : Scanned). x.operators_left) same)

by_right : (o : Operator) (t u : Term) (most m left : ℕ) (a e : ArithmeticExpression) (y : Found Scanned) → Finds t most a m → with_right o a y ≡ found (record { expression = e; operators_left = left }) → ((b : ArithmeticExpression) (n : ℕ) → y ≡ found (record { expression = b; operators_left = n }) → Finds u m b n) → Finds (structure (operator_name o) (more t (more u none))) (suc most) e left
by_right o t u most m left a e (found z) first h k =
    let p = found_parts h in
    let second = k z.expression z.operators_left refl in
    let one = first.counts in
    let two = second.counts in
    rw (← p.0) (rw (← p.1) (record {
      writes = ap₂ (λ x y. structure (operator_name o) (more x (more y none))) first.writes second.writes;
      counts = omega (arith, one, two);
    }))
by_right o t u most m left a e (awaits v) first h k = absurd (cc)
by_right o t u most m left a e wrong first h k = absurd (cc)

by_left : (o : Operator) (t u : Term) (most left : ℕ) (e : ArithmeticExpression) (x : Found Scanned) → with_left o x (λ m. scan m u) ≡ found (record { expression = e; operators_left = left }) → ((a : ArithmeticExpression) (m : ℕ) → x ≡ found (record { expression = a; operators_left = m }) → Finds t most a m) → ((m : ℕ) (b : ArithmeticExpression) (n : ℕ) → scan m u ≡ found (record { expression = b; operators_left = n }) → Finds u m b n) → Finds (structure (operator_name o) (more t (more u none))) (suc most) e left
by_left o t u most left e (found z) h f g = by_right o t u most z.operators_left left z.expression e (scan z.operators_left u) (f z.expression z.operators_left refl) h (g z.operators_left)
by_left o t u most left e (awaits v) h f g = absurd (cc)
by_left o t u most left e wrong h f g = absurd (cc)

mutual
  scan_finds : (most : ℕ) (t : Term) (e : ArithmeticExpression) (left : ℕ) → scan most t ≡ found (record { expression = e; operators_left = left }) → Finds t most e left
  scan_finds most (variable v) e left h = absurd (cc)
  scan_finds most (integer i) e left h = let p = found_parts h in rw (← p.0) (rw (← p.1) (record { writes = refl; counts = omega arith }))
  scan_finds most (atom a) e left h = absurd (cc)
  scan_finds most (structure f ts) e left h = operation_finds (operator_named f) f refl most ts e left h

  operation_finds : (x : Option Operator) (f : List ℕ) → operator_named f ≡ x → (most : ℕ) (ts : Terms) (e : ArithmeticExpression) (left : ℕ) → scan_operation x most ts ≡ found (record { expression = e; operators_left = left }) → Finds (structure f ts) most e left
  operation_finds None f is most ts e left h = absurd (cc)
  operation_finds (Some o) f is zero ts e left h = absurd (cc)
  operation_finds (Some o) f is (suc most) none e left h = absurd (cc)
  operation_finds (Some o) f is (suc most) (more a none) e left h = absurd (cc)
  operation_finds (Some o) f is (suc most) (more a (more b none)) e left h =
      subst (λ g. Finds (structure g (more a (more b none))) (suc most) e left) (sym (found_name operators f o is))
      (by_left o a b most left e (scan most a) h (λ x m read. scan_finds most a x m read) (λ m x n read. scan_finds m b x n read))
  operation_finds (Some o) f is (suc most) (more a (more b (more c ts))) e left h = absurd (cc)

-- ---- and back

written : (e : ArithmeticExpression) (most left : ℕ) → most ≡ operators_of e + left → scan most (formula_term e) ≡ found (record { expression = e; operators_left = left })
written (number i) most left h = let same : most ≡ left = omega (arith, h) in ap (λ n. found (record { expression = number i; operators_left = n })) same
written (operation o a b) most left h =
    let less : most ≡ suc (operators_of a + (operators_of b + left)) = omega (arith, h) in
    ap (λ n. scan n (formula_term (operation o a b))) less
    ∙ ap (λ x. scan_operation x (suc (operators_of a + (operators_of b + left))) (more (formula_term a) (more (formula_term b) none))) (named_again o)
    ∙ ap (λ x. with_left o x (λ m. scan m (formula_term b))) (written a (operators_of a + (operators_of b + left)) (operators_of b + left) refl)
    ∙ ap (with_right o a) (written b (operators_of b + left) left refl)

pub scan_is : ScanFinds
scan_is most left t e = (
  λ h. let k = scan_finds most t e left h in (k.writes, k.counts),
  λ h. ap (scan most) (sym h.0) ∙ written e most left h.1,
)
