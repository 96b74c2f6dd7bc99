-- What holds of each variable of a term.
use Rattle.std.proofs.Common.{◌≡◌, ◌≤◌, ◌<◌, ℕ, suc, ◌==◌, ◌&&◌, true, if◌then◌else◌, List, [], ◌∷◌, ◌++◌, max, refl, ap, ap₂, subst, arith}
use Rattle.std.specs.Prelude.{nat_le}
use Rattle.std.specs.List.{AllByRecursion}
use Rattle.std.proofs.lemmas.Bool.{and_parts, leb-true, cond_both, ne_eqb}
use Rattle.std.proofs.Math.Nat.{le-max_left, le-max_right}
use Rattle.kl1_model.specs.Term.{Term, variable, integer, atom, structure, Terms, none, more, replace, replace_each, substituted, each_substituted}
use Rattle.kl1_model.specs.Meaning.{variables_of, variables_in, highest, highest_in, numbered_after}

-- ---- terms

-- a fact holds of each variable of a term
abbrev mutual
  pub Holds : (ℕ → Type 0) → Term → Type 0
  Holds P (variable v) = P v
  Holds P (integer i) = Unit {0}
  Holds P (atom a) = Unit {0}
  Holds P (structure f ts) = HoldsEach P ts

  pub HoldsEach : (ℕ → Type 0) → Terms → Type 0
  HoldsEach P none = Unit {0}
  HoldsEach P (more t ts) = Holds P t × HoldsEach P ts

mutual
  pub holds_replace : (P : ℕ → Type 0) (v : ℕ) (u t : Term) → Holds P u → Holds P t → Holds P (replace v u t)
  holds_replace P v u (variable n) k h = cond_both (n == v) u (variable n) (Holds P) (λ _. k) (λ _. h)
  holds_replace P v u (integer i) k h = tt
  holds_replace P v u (atom a) k h = tt
  holds_replace P v u (structure f ts) k h = holds_replace_each P v u ts k h

  pub holds_replace_each : (P : ℕ → Type 0) (v : ℕ) (u : Term) (ts : Terms) → Holds P u → HoldsEach P ts → HoldsEach P (replace_each v u ts)
  holds_replace_each P v u none k h = tt
  holds_replace_each P v u (more t ts) k h = (holds_replace P v u t k h.0, holds_replace_each P v u ts k h.1)

mutual
  -- a fact that follows
  pub holds_weaker : (P Q : ℕ → Type 0) → ((v : ℕ) → P v → Q v) → (t : Term) → Holds P t → Holds Q t
  holds_weaker P Q f (variable v) h = f v h
  holds_weaker P Q f (integer i) h = tt
  holds_weaker P Q f (atom a) h = tt
  holds_weaker P Q f (structure g ts) h = each_weaker P Q f ts h

  each_weaker : (P Q : ℕ → Type 0) → ((v : ℕ) → P v → Q v) → (ts : Terms) → HoldsEach P ts → HoldsEach Q ts
  each_weaker P Q f none h = tt
  each_weaker P Q f (more t ts) h = (holds_weaker P Q f t h.0, each_weaker P Q f ts h.1)

mutual
  -- a variable of which the fact doesn't hold isn't there to be replaced
  pub holds_unchanged : (P : ℕ → Type 0) (v : ℕ) (u : Term) → (P v → ⊥) → (t : Term) → Holds P t → replace v u t ≡ t
  holds_unchanged P v u f (variable n) h = ap (λ b. if b then u else variable n) (ne_eqb n v (λ same. f (subst P same h)))
  holds_unchanged P v u f (integer i) h = refl
  holds_unchanged P v u f (atom a) h = refl
  holds_unchanged P v u f (structure g ts) h = ap (structure g) (each_unchanged P v u f ts h)

  each_unchanged : (P : ℕ → Type 0) (v : ℕ) (u : Term) → (P v → ⊥) → (ts : Terms) → HoldsEach P ts → replace_each v u ts ≡ ts
  each_unchanged P v u f none h = refl
  each_unchanged P v u f (more t ts) h = ap₂ more (holds_unchanged P v u f t h.0) (each_unchanged P v u f ts h.1)

mutual
  pub holds_substituted : (R P : ℕ → Type 0) (f : ℕ → Term) → ((v : ℕ) → R v → Holds P (f v)) → (t : Term) → Holds R t → Holds P (substituted f t)
  holds_substituted R P f k (variable v) h = k v h
  holds_substituted R P f k (integer i) h = tt
  holds_substituted R P f k (atom a) h = tt
  holds_substituted R P f k (structure g ts) h = each_holds_substituted R P f k ts h

  each_holds_substituted : (R P : ℕ → Type 0) (f : ℕ → Term) → ((v : ℕ) → R v → Holds P (f v)) → (ts : Terms) → HoldsEach R ts → HoldsEach P (each_substituted f ts)
  each_holds_substituted R P f k none h = tt
  each_holds_substituted R P f k (more t ts) h = (holds_substituted R P f k t h.0, each_holds_substituted R P f k ts h.1)

mutual
  -- each variable is at most the highest
  pub holds_highest : (top : ℕ) (t : Term) → highest t ≤ top → Holds (λ v. v ≤ top) t
  holds_highest top (variable v) e = e
  holds_highest top (integer i) e = tt
  holds_highest top (atom a) e = tt
  holds_highest top (structure f ts) e = each_highest top ts e

  each_highest : (top : ℕ) (ts : Terms) → highest_in ts ≤ top → HoldsEach (λ v. v ≤ top) ts
  each_highest top none e = tt
  each_highest top (more t ts) e =
      let a = le-max_left (highest t) (highest_in ts) in let b = le-max_right (highest t) (highest_in ts) in
      (holds_highest top t (omega (arith, a, e)), each_highest top ts (omega (arith, b, e)))

mutual
  pub holds_both : (P Q : ℕ → Type 0) (t : Term) → Holds P t → Holds Q t → Holds (λ v. P v × Q v) t
  holds_both P Q (variable v) g h = (g, h)
  holds_both P Q (integer i) g h = tt
  holds_both P Q (atom a) g h = tt
  holds_both P Q (structure f ts) g h = each_both P Q ts g h

  each_both : (P Q : ℕ → Type 0) (ts : Terms) → HoldsEach P ts → HoldsEach Q ts → HoldsEach (λ v. P v × Q v) ts
  each_both P Q none g h = tt
  each_both P Q (more t ts) g h = (holds_both P Q t g.0 h.0, each_both P Q ts g.1 h.1)

split : (P : ℕ → Type 0) (vs ws : List ℕ) → AllByRecursion P (vs ++ ws) → AllByRecursion P vs × AllByRecursion P ws
split P [] ws a = (tt, a)
split P (v ∷ vs) ws a = let more = split P vs ws a.1 in ((a.0, more.0), more.1)

mutual
  -- a fact of each variable that is listed
  pub listed : (P : ℕ → Type 0) (t : Term) → AllByRecursion P (variables_of t) → Holds P t
  listed P (variable v) a = a.0
  listed P (integer i) a = tt
  listed P (atom a) b = tt
  listed P (structure f ts) a = each_listed P ts a

  each_listed : (P : ℕ → Type 0) (ts : Terms) → AllByRecursion P (variables_in ts) → HoldsEach P ts
  each_listed P none a = tt
  each_listed P (more t ts) a = let parts = split P (variables_of t) (variables_in ts) a in (listed P t parts.0, each_listed P ts parts.1)

positive : (seen : ℕ) (vs : List ℕ) → numbered_after seen vs ≡ true → AllByRecursion (λ v. 0 < v) vs
positive seen [] e = tt
positive seen (v ∷ vs) e =
    let parts = and_parts (nat_le 1 v && nat_le v (suc seen)) (numbered_after (max seen v) vs) e in
    let one = leb-true 1 v (and_parts (nat_le 1 v) (nat_le v (suc seen)) parts.0).0 in
    (omega (arith, one), positive (max seen v) vs parts.1)

-- variables that are numbered by first occurrence are numbered from 1
pub holds_positive : (t : Term) → numbered_after 0 (variables_of t) ≡ true → Holds (λ v. 0 < v) t
holds_positive t e = listed (λ v. 0 < v) t (positive 0 (variables_of t) e)
