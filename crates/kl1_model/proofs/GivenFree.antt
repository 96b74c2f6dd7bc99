-- An answer's goal doesn't hold what it takes the place of, so that no term holds itself.
use Rattle.std.specs.Prelude.{◌≡◌, ℕ, suc, ◌+◌, ◌≤◌, ◌==◌, not, ◌||◌, Bool, true, false, if◌then◌else◌, List, [], ◌∷◌, Some}
use Rattle.std.proofs.Common.{refl, sym, ap₂, ◌∙◌, arith}
use Rattle.std.proofs.lemmas.Bool.{false≢true, and_parts, eq-eqb, ne_eqb}
use Rattle.kl1_model.specs.Term.{Term, variable, integer, atom, structure, Terms, none, more, occurs, occurs_in, substituted, each_substituted}
use Rattle.kl1_model.specs.Telling.{Asked, stands_in, place_among, given_variable}

place_some : (ms : List ℕ) (n : ℕ) → 1 ≤ place_among ms n
place_some [] n = omega arith
place_some (m ∷ ms) n = by_case (m == n)
  where
    by_case : (c : Bool) → 1 ≤ (if c then 1 else suc (place_among ms n))
    by_case true = omega arith
    by_case false = omega arith

given_free : (a : Asked) (new : List ℕ) (last n : ℕ) (c : Bool) → stands_in a n ≡ c → a.new ≤ last → occurs a.new (if c then variable n else variable (last + place_among new n)) ≡ false
given_free a new last n true h low = other (n == a.new) refl (and_parts (occurs n a.goal) (not (n == a.new)) h).1
  where
    other : (c : Bool) → (n == a.new) ≡ c → not c ≡ true → (a.new == n) ≡ false
    other false e f = ne_eqb a.new n (λ same. false≢true (sym e ∙ eq-eqb n a.new (sym same)))
    other true e f = absurd (false≢true f)
given_free a new last n false h low = let some = place_some new n in ne_eqb a.new (last + place_among new n) (λ e. omega arith)

-- what takes the place of a variable that was made before doesn't hold it
mutual
  pub given_goals_are_free : (a : Asked) (new : List ℕ) (last : ℕ) (t : Term) → a.new ≤ last → occurs a.new (substituted (given_variable (Some a) new last) t) ≡ false
  given_goals_are_free a new last (variable n) low = given_free a new last n (stands_in a n) refl low
  given_goals_are_free a new last (integer i) low = refl
  given_goals_are_free a new last (atom b) low = refl
  given_goals_are_free a new last (structure f ts) low = given_goals_are_free_each a new last ts low

  given_goals_are_free_each : (a : Asked) (new : List ℕ) (last : ℕ) (ts : Terms) → a.new ≤ last → occurs_in a.new (each_substituted (given_variable (Some a) new last) ts) ≡ false
  given_goals_are_free_each a new last none low = refl
  given_goals_are_free_each a new last (more t ts) low = ap₂ (λ (x : Bool) (y : Bool). x || y) (given_goals_are_free a new last t low) (given_goals_are_free_each a new last ts low)
