-- Terms of the goal beside the variables of tests: passive equality and scans are what they were.
use Rattle.std.proofs.Common.{◌≡◌, ℕ, zero, suc, ◌+◌, ◌-◌, ◌==◌, ◌&&◌, ◌||◌, Bool, true, false, if◌then◌else◌, List, [], ◌∷◌, ◌++◌, map, refl, sym, ap, ap₂, ◌∙◌, arith}
use Rattle.std.specs.Prelude.{nat_le, bytes_eq, Option, Some, None}
use Rattle.std.proofs.lemmas.Bool.{cond-false, eq-eqb, ne_eqb, eqb-true, leb-true, false_from_ne_true, false≢true}
use Rattle.std.proofs.lemmas.List.{map-append}
use Rattle.kl1_model.specs.declared.operator.Operator.{Operator}
use Rattle.kl1_model.specs.Term.{Term, variable, integer, atom, structure, Terms, none, more, count_of, same_term, same_terms, each_substituted}
use Rattle.kl1_model.specs.code.Comparing.{clash, any_clash, same, differs, unknown, passive, awaited, all_awaited}
use Rattle.kl1_model.specs.Arithmetic.{ArithmeticExpression, with_left, with_right, operator_named, scan, scan_operation, Scanned}
use Rattle.kl1_model.specs.Match.{beside, own_variables}
use Rattle.kl1_model.proofs.Substitutions.{count-each_substituted}
use Rattle.kl1_model.specs.Found.{Found, found, awaits, wrong}

-- the number of a variable of the goal there
abbrev pub moved : ℕ → ℕ → ℕ
moved last v = suc (last + v)

abbrev pub each_beside : ℕ → Terms → Terms
each_beside last ts = each_substituted (λ v. variable (suc (last + v))) ts

moved_eq_by : (last v w : ℕ) (c : Bool) → v == w ≡ c → (moved last v == moved last w) ≡ c
moved_eq_by last v w true e = let is = eqb-true v w e in eq-eqb (moved last v) (moved last w) (ap (moved last) is)
moved_eq_by last v w false e = ne_eqb (moved last v) (moved last w) (λ is. let back : v ≡ w = omega (arith, is) in false≢true (sym e ∙ eq-eqb v w back))

moved_eq : (last v w : ℕ) → (moved last v == moved last w) ≡ (v == w)
moved_eq last v w = moved_eq_by last v w (v == w) refl

mutual
  pub same_beside : (last : ℕ) (t u : Term) → same_term (beside last t) (beside last u) ≡ same_term t u
  same_beside last (variable v) (variable w) = moved_eq last v w
  same_beside last (variable v) (integer j) = refl
  same_beside last (variable v) (atom y) = refl
  same_beside last (variable v) (structure g us) = refl
  same_beside last (integer i) (variable w) = refl
  same_beside last (integer i) (integer j) = refl
  same_beside last (integer i) (atom y) = refl
  same_beside last (integer i) (structure g us) = refl
  same_beside last (atom x) (variable w) = refl
  same_beside last (atom x) (integer j) = refl
  same_beside last (atom x) (atom y) = refl
  same_beside last (atom x) (structure g us) = refl
  same_beside last (structure f ts) (variable w) = refl
  same_beside last (structure f ts) (integer j) = refl
  same_beside last (structure f ts) (atom y) = refl
  same_beside last (structure f ts) (structure g us) = ap (λ b. bytes_eq f g && b) (same_each_beside last ts us)

  same_each_beside : (last : ℕ) (ts us : Terms) → same_terms (each_beside last ts) (each_beside last us) ≡ same_terms ts us
  same_each_beside last none none = refl
  same_each_beside last none (more u us) = refl
  same_each_beside last (more t ts) none = refl
  same_each_beside last (more t ts) (more u us) = ap₂ (λ a b. a && b) (same_beside last t u) (same_each_beside last ts us)

mutual
  pub clash_beside : (last : ℕ) (t u : Term) → clash (beside last t) (beside last u) ≡ clash t u
  clash_beside last (variable v) (variable w) = refl
  clash_beside last (variable v) (integer j) = refl
  clash_beside last (variable v) (atom y) = refl
  clash_beside last (variable v) (structure g us) = refl
  clash_beside last (integer i) (variable w) = refl
  clash_beside last (integer i) (integer j) = refl
  clash_beside last (integer i) (atom y) = refl
  clash_beside last (integer i) (structure g us) = refl
  clash_beside last (atom x) (variable w) = refl
  clash_beside last (atom x) (integer j) = refl
  clash_beside last (atom x) (atom y) = refl
  clash_beside last (atom x) (structure g us) = refl
  clash_beside last (structure f ts) (variable w) = refl
  clash_beside last (structure f ts) (integer j) = refl
  clash_beside last (structure f ts) (atom y) = refl
  clash_beside last (structure f ts) (structure g us) =
      ap₂ (λ m n. if bytes_eq f g && m == n then any_clash (each_beside last ts) (each_beside last us) else true) (count-each_substituted (λ v. variable (suc (last + v))) ts) (count-each_substituted (λ v. variable (suc (last + v))) us)
      ∙ ap (λ b. if bytes_eq f g && count_of ts == count_of us then b else true) (clashes_beside last ts us)

  clashes_beside : (last : ℕ) (ts us : Terms) → any_clash (each_beside last ts) (each_beside last us) ≡ any_clash ts us
  clashes_beside last none us = refl
  clashes_beside last (more t ts) none = refl
  clashes_beside last (more t ts) (more u us) = ap₂ (λ a b. a || b) (clash_beside last t u) (clashes_beside last ts us)

-- passive equality is what it was
pub passive_beside : (last : ℕ) (t u : Term) → passive (beside last t) (beside last u) ≡ passive t u
passive_beside last t u = ap₂ (λ (p q : Bool). if p then same else if q then differs else unknown) (same_beside last t u) (clash_beside last t u)

two_moved : (last v w : ℕ) (c : Bool) → (if c then [] else moved last v ∷ moved last w ∷ []) ≡ map (moved last) (if c then [] else v ∷ w ∷ [])
two_moved last v w true = refl
two_moved last v w false = refl

mutual
  pub awaited_beside : (last : ℕ) (t u : Term) → awaited (beside last t) (beside last u) ≡ map (moved last) (awaited t u)
  awaited_beside last (variable v) (variable w) = ap (λ c. if c then [] else moved last v ∷ moved last w ∷ []) (moved_eq last v w) ∙ two_moved last v w (v == w)
  awaited_beside last (variable v) (integer j) = refl
  awaited_beside last (variable v) (atom y) = refl
  awaited_beside last (variable v) (structure g us) = refl
  awaited_beside last (integer i) (variable w) = refl
  awaited_beside last (integer i) (integer j) = refl
  awaited_beside last (integer i) (atom y) = refl
  awaited_beside last (integer i) (structure g us) = refl
  awaited_beside last (atom x) (variable w) = refl
  awaited_beside last (atom x) (integer j) = refl
  awaited_beside last (atom x) (atom y) = refl
  awaited_beside last (atom x) (structure g us) = refl
  awaited_beside last (structure f ts) (variable w) = refl
  awaited_beside last (structure f ts) (integer j) = refl
  awaited_beside last (structure f ts) (atom y) = refl
  awaited_beside last (structure f ts) (structure g us) = all_awaited_beside last ts us

  all_awaited_beside : (last : ℕ) (ts us : Terms) → all_awaited (each_beside last ts) (each_beside last us) ≡ map (moved last) (all_awaited ts us)
  all_awaited_beside last none us = refl
  all_awaited_beside last (more t ts) none = refl
  all_awaited_beside last (more t ts) (more u us) =
      ap₂ (λ (vs ws : List ℕ). vs ++ ws) (awaited_beside last t u) (all_awaited_beside last ts us) ∙ sym (map-append (moved last) (awaited t u) (all_awaited ts us))

-- the goal's variables there are those that they were
pub own_moved : (last : ℕ) (vs : List ℕ) → own_variables last (map (moved last) vs) ≡ vs
own_moved last [] = refl
own_moved last (v ∷ vs) =
    let back : moved last v - suc last ≡ v = omega arith in
    cond-false (nat_le (moved last v) last) (own_variables last (map (moved last) vs)) ((moved last v - suc last) ∷ own_variables last (map (moved last) vs))
    (false_from_ne_true (nat_le (moved last v) last) (λ e. let less = leb-true (moved last v) last e in omega (arith, less)))
    ∙ ap₂ (λ (n : ℕ) (l : List ℕ). n ∷ l) back (own_moved last vs)

-- a scan there
abbrev pub scan_moved : ℕ → Found Scanned → Found Scanned
scan_moved last (found e) = found e
scan_moved last (awaits v) = awaits (moved last v)
scan_moved last wrong = wrong

right_moved : (last : ℕ) (o : Operator) (e : ArithmeticExpression) (y : Found Scanned) → with_right o e (scan_moved last y) ≡ scan_moved last (with_right o e y)
right_moved last o e (found b) = refl
right_moved last o e (awaits v) = refl
right_moved last o e wrong = refl

left_moved : (last : ℕ) (o : Operator) (x : Found Scanned) (right other : ℕ → Found Scanned) → ((m : ℕ) → other m ≡ scan_moved last (right m)) → with_left o (scan_moved last x) other ≡ scan_moved last (with_left o x right)
left_moved last o (found e) right other f = ap (with_right o e.expression) (f e.operators_left) ∙ right_moved last o e.expression (right e.operators_left)
left_moved last o (awaits v) right other f = refl
left_moved last o wrong right other f = refl

mutual
  pub scan_beside : (last n : ℕ) (t : Term) → scan n (beside last t) ≡ scan_moved last (scan n t)
  scan_beside last n (variable v) = refl
  scan_beside last n (integer i) = refl
  scan_beside last n (atom a) = refl
  scan_beside last n (structure f ts) = operation_beside last (operator_named f) n ts

  operation_beside : (last : ℕ) (o : Option Operator) (n : ℕ) (ts : Terms) → scan_operation o n (each_beside last ts) ≡ scan_moved last (scan_operation o n ts)
  operation_beside last None n ts = refl
  operation_beside last (Some o) zero ts = refl
  operation_beside last (Some o) (suc n) none = refl
  operation_beside last (Some o) (suc n) (more a none) = refl
  operation_beside last (Some o) (suc n) (more a (more b none)) =
      ap (λ x. with_left o x (λ m. scan m (beside last b))) (scan_beside last n a) ∙ left_moved last o (scan n a) (λ m. scan m b) (λ m. scan m (beside last b)) (λ m. scan_beside last m b)
  operation_beside last (Some o) (suc n) (more a (more b (more c ts))) = refl
