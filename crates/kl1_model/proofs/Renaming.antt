-- Terms with other numbers for their variables in the same order: replacing, and unification.
use Rattle.std.proofs.Common.{◌≡◌, ℕ, suc, ◌+◌, ◌<◌, ◌==◌, ◌||◌, Bool, true, false, if◌then◌else◌, List, [], ◌∷◌, refl, sym, ap, ap₂, ◌∙◌, ◌⊎◌, inl, inr, arith, subst}
use Rattle.std.specs.Prelude.{Option, Some, None, option_map, map}
use Rattle.std.proofs.lemmas.Bool.{cases_eq, eq-eqb, ne_eqb}
use Rattle.kl1_model.specs.Term.{Term, variable, integer, atom, structure, Terms, none, more, count_of, occurs, occurs_in, replace, replace_each, substituted, each_substituted, Replacement}
use Rattle.kl1_model.specs.Unify.{Equation, argument_equations, replace_in_all, mgu}
use Rattle.kl1_model.specs.code.Unifying.{replaced}
use Rattle.kl1_model.specs.laws.UnifyLaws.{IsLower, equate, bind, Solves, all_done, same_sides, arguments, left_takes, right_takes, never_equal}
use Rattle.kl1_model.specs.laws.RelabelLaws.{renamed, each_renamed, equation_renamed, replacement_renamed, IsIncreasing, ShiftsFrom, MguRenamed}
use Rattle.kl1_model.proofs.Substitutions.{values_of, replaced_is}
use Rattle.kl1_model.proofs.UnifySolution.{none_where_none_unify}
use Rattle.kl1_model.proofs.UnifyFails.{failure_leaves_none}
use Rattle.kl1_model.proofs.UnifyDerivation.{derivations_agree, solved_by_derivation}

-- ---- numbers

order_of : (v w : ℕ) → (v ≡ w) ⊎ ((v < w) ⊎ (w < v))
order_of v w = grind arith

pub one_to_one : (g : ℕ → ℕ) (v w : ℕ) → IsIncreasing g → g v ≡ g w → v ≡ w
one_to_one g v w up e = by_order (order_of v w)
  where
    by_order : (v ≡ w) ⊎ ((v < w) ⊎ (w < v)) → v ≡ w
    by_order (inl same) = same
    by_order (inr (inl less)) = absurd (omega (arith, up v w less, e))
    by_order (inr (inr more_than)) = absurd (omega (arith, up w v more_than, e))

pub same_number : (g : ℕ → ℕ) (v w : ℕ) → IsIncreasing g → (g v == g w) ≡ (v == w)
same_number g v w up = by_case (cases_eq v w)
  where
    by_case : (v ≡ w) ⊎ (v ≡ w → ⊥) → (g v == g w) ≡ (v == w)
    by_case (inl e) = eq-eqb (g v) (g w) (ap g e) ∙ sym (eq-eqb v w e)
    by_case (inr ne) = ne_eqb (g v) (g w) (λ e. ne (one_to_one g v w up e)) ∙ sym (ne_eqb v w ne)

-- numbers after later ones are shifted too
pub shifts_later : (g : ℕ → ℕ) (last more_than : ℕ) → ShiftsFrom g last → ShiftsFrom g (last + more_than)
shifts_later g last k on n = ap g (group last k n) ∙ on (k + n) ∙ sym (group (g last) k n) ∙ ap (λ x. x + n) (sym (on k))
  where
    group : (a b c : ℕ) → a + b + c ≡ a + (b + c)
    group a b c = omega arith

pub next_number : (g : ℕ → ℕ) (last : ℕ) → ShiftsFrom g last → g (suc last) ≡ suc (g last)
next_number g last on =
    let one : suc last ≡ last + 1 = omega arith in
    let e = on 1 in
    ap g one ∙ e ∙ omega arith

pub shifts_next : (g : ℕ → ℕ) (last : ℕ) → ShiftsFrom g last → ShiftsFrom g (suc last)
shifts_next g last on = subst (λ n. ShiftsFrom g n) (omega arith) (shifts_later g last 1 on)

-- ---- terms

mutual
  pub occurs_renamed : (g : ℕ → ℕ) (v : ℕ) (t : Term) → IsIncreasing g → occurs (g v) (renamed g t) ≡ occurs v t
  occurs_renamed g v (variable n) up = same_number g v n up
  occurs_renamed g v (integer i) up = refl
  occurs_renamed g v (atom a) up = refl
  occurs_renamed g v (structure f ts) up = occurs_in_renamed g v ts up

  pub occurs_in_renamed : (g : ℕ → ℕ) (v : ℕ) (ts : Terms) → IsIncreasing g → occurs_in (g v) (each_renamed g ts) ≡ occurs_in v ts
  occurs_in_renamed g v none up = refl
  occurs_in_renamed g v (more t ts) up = ap₂ (λ a b. a || b) (occurs_renamed g v t up) (occurs_in_renamed g v ts up)

if_renamed : (g : ℕ → ℕ) (c : Bool) (t u : Term) → renamed g (if c then t else u) ≡ (if c then renamed g t else renamed g u)
if_renamed g true t u = refl
if_renamed g false t u = refl

mutual
  pub replace_renamed : (g : ℕ → ℕ) (v : ℕ) (u t : Term) → IsIncreasing g → renamed g (replace v u t) ≡ replace (g v) (renamed g u) (renamed g t)
  replace_renamed g v u (variable n) up = if_renamed g (n == v) u (variable n) ∙ ap (λ c. if c then renamed g u else variable (g n)) (sym (same_number g n v up))
  replace_renamed g v u (integer i) up = refl
  replace_renamed g v u (atom a) up = refl
  replace_renamed g v u (structure f ts) up = ap (structure f) (replace_each_renamed g v u ts up)

  pub replace_each_renamed : (g : ℕ → ℕ) (v : ℕ) (u : Term) (ts : Terms) → IsIncreasing g → each_renamed g (replace_each v u ts) ≡ replace_each (g v) (renamed g u) (each_renamed g ts)
  replace_each_renamed g v u none up = refl
  replace_each_renamed g v u (more t ts) up = ap₂ more (replace_renamed g v u t up) (replace_each_renamed g v u ts up)

pub count_renamed : (g : ℕ → ℕ) (ts : Terms) → count_of (each_renamed g ts) ≡ count_of ts
count_renamed g none = refl
count_renamed g (more t ts) = ap suc (count_renamed g ts)

lower_renamed : (g : ℕ → ℕ) (v : ℕ) (t : Term) → IsIncreasing g → IsLower v t → IsLower (g v) (renamed g t)
lower_renamed g v (variable w) up lower = up w v lower
lower_renamed g v (integer i) up lower = lower
lower_renamed g v (atom a) up lower = lower
lower_renamed g v (structure f ts) up lower = lower

-- ---- equations

replace_in_all_renamed : (g : ℕ → ℕ) (v : ℕ) (t : Term) (es : List Equation) → IsIncreasing g → map (equation_renamed g) (replace_in_all v t es) ≡ replace_in_all (g v) (renamed g t) (map (equation_renamed g) es)
replace_in_all_renamed g v t [] up = refl
replace_in_all_renamed g v t (e ∷ es) up =
    ap₂ (λ (a : Equation) (l : List Equation). a ∷ l)
    (ap₂ (λ (a : Term) (b : Term). equate a b) (replace_renamed g v t e.left up) (replace_renamed g v t e.right up))
    (replace_in_all_renamed g v t es up)

arguments_renamed : (g : ℕ → ℕ) (ts us : Terms) (es : List Equation) → map (equation_renamed g) (argument_equations ts us es) ≡ argument_equations (each_renamed g ts) (each_renamed g us) (map (equation_renamed g) es)
arguments_renamed g none none es = refl
arguments_renamed g none (more u us) es = refl
arguments_renamed g (more t ts) none es = refl
arguments_renamed g (more t ts) (more u us) es = ap (λ (l : List Equation). equate (renamed g t) (renamed g u) ∷ l) (arguments_renamed g ts us es)

mutual
  -- a substitution in a renamed term is one in the term
  pub then_renamed : (f : ℕ → Term) (g : ℕ → ℕ) (t : Term) → substituted f (renamed g t) ≡ substituted (λ v. f (g v)) t
  then_renamed f g (variable n) = refl
  then_renamed f g (integer i) = refl
  then_renamed f g (atom a) = refl
  then_renamed f g (structure h ts) = ap (structure h) (then_each_renamed f g ts)

  pub then_each_renamed : (f : ℕ → Term) (g : ℕ → ℕ) (ts : Terms) → each_substituted f (each_renamed g ts) ≡ each_substituted (λ v. f (g v)) ts
  then_each_renamed f g none = refl
  then_each_renamed f g (more t ts) = ap₂ more (then_renamed f g t) (then_each_renamed f g ts)

still_never : (g : ℕ → ℕ) (t u : Term) → ((rs : List Replacement) → replaced rs t ≡ replaced rs u → ⊥) → (rs : List Replacement) → replaced rs (renamed g t) ≡ replaced rs (renamed g u) → ⊥
still_never g t u never rs e =
    let f = values_of rs in
    let same : substituted (λ v. f (g v)) t ≡ substituted (λ v. f (g v)) u =
    sym (then_renamed f g t) ∙ sym (replaced_is rs (renamed g t)) ∙ e ∙ replaced_is rs (renamed g u) ∙ then_renamed f g u in
    failure_leaves_none (equate t u ∷ []) (none_where_none_unify (equate t u ∷ []) (λ qs made. never qs made.0)) (λ v. f (g v)) (same, tt)

-- ---- derivations

abbrev Renames : (ℕ → ℕ) → Option (List Replacement) → Option (List Replacement)
Renames g o = option_map (map (replacement_renamed g)) o

taken_renamed : (g : ℕ → ℕ) (v : ℕ) (t : Term) (o : Option (List Replacement)) →
    option_map (λ (rest : List Replacement). bind (g v) (renamed g t) ∷ rest) (Renames g o) ≡ Renames g (option_map (λ (rest : List Replacement). bind v t ∷ rest) o)
taken_renamed g v t None = refl
taken_renamed g v t (Some rs) = refl

solves_renamed : (g : ℕ → ℕ) → IsIncreasing g → (es : List Equation) (o : Option (List Replacement)) → Solves es o → Solves (map (equation_renamed g) es) (Renames g o)
solves_renamed g up es o all_done = all_done
solves_renamed g up es o (same_sides t {es = rest} h) = same_sides (renamed g t) (solves_renamed g up rest o h)
solves_renamed g up es o (arguments f ts us {es = rest} same h) =
    let P : List Equation → Type 0 = λ l. Solves l (Renames g o) in
    arguments f (each_renamed g ts) (each_renamed g us) (count_renamed g ts ∙ same ∙ sym (count_renamed g us))
    (subst P (arguments_renamed g ts us rest) (solves_renamed g up (argument_equations ts us rest) o h))
solves_renamed g up es o (left_takes v t {es = rest} {o = before} free lower h) =
    let P : List Equation → Type 0 = λ l. Solves l (Renames g before) in
    let Q : Option (List Replacement) → Type 0 = λ a. Solves (map (equation_renamed g) (equate (variable v) t ∷ rest)) a in
    subst Q (taken_renamed g v t before) (left_takes (g v) (renamed g t) (occurs_renamed g v t up ∙ free) (lower_renamed g v t up lower)
    (subst P (replace_in_all_renamed g v t rest up) (solves_renamed g up (replace_in_all v t rest) before h)))
solves_renamed g up es o (right_takes v t {es = rest} {o = before} free lower h) =
    let P : List Equation → Type 0 = λ l. Solves l (Renames g before) in
    let Q : Option (List Replacement) → Type 0 = λ a. Solves (map (equation_renamed g) (equate t (variable v) ∷ rest)) a in
    subst Q (taken_renamed g v t before) (right_takes (g v) (renamed g t) (occurs_renamed g v t up ∙ free) (lower_renamed g v t up lower)
    (subst P (replace_in_all_renamed g v t rest up) (solves_renamed g up (replace_in_all v t rest) before h)))
solves_renamed g up es o (never_equal t u {es = rest} never) = never_equal (renamed g t) (renamed g u) (still_never g t u never)

pub mgu_renamed : MguRenamed
mgu_renamed g es up = derivations_agree (map (equation_renamed g) es) (Renames g (mgu es)) (solves_renamed g up es (mgu es) (solved_by_derivation es))
