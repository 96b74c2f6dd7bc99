-- Steps put on a stack.
use Rattle.std.proofs.Common.{◌≡◌, ℕ, zero, suc, ◌<◌, List, [], ◌∷◌, ◌++◌, length, map, reverse, refl, ap, sym, ◌∙◌, subst, slice_index_or, ℤ, arith}
use Rattle.std.proofs.lemmas.List.{reverse-append}
use Rattle.kl1_model.specs.Term.{Term, more, structure, substituted, each_substituted}
use Rattle.kl1_model.specs.code.TermCode.{first_term, behind_first, front_of, behind, read_node}
use Rattle.kl1_store.specs.declared.cell.Cell.{Cell}
use Rattle.kl1_store.specs.declared.cell.Cell.TheVariants as cell
use Rattle.kl1_store.specs.Held.{Held, IsWithin, AreWithin, IsIn, AreIn}
use Rattle.kl1_store.specs.Meaning.{term_of}
use Rattle.kl1_store.specs.ComparesEach.{term_list}
use Rattle.kl1_store.proofs.Terms.{term_of-Integer, term_of-Atom}
use Rattle.kl1_match.specs.declared.step.Step.{Step}
use Rattle.kl1_match.specs.declared.step.Step.TheVariants.{Variable, Integer, Atom, Structure}
use Rattle.kl1_store.specs.Tops.{first_or}
use Rattle.kl1_store.proofs.Tops.{AreWithin-append}
use Rattle.kl1_match.specs.Rows.{front_with, Joins}
use Rattle.kl1_match.specs.Steps.{step_code, Agrees, PutsStep}

-- a cell of a list is of the store
pub within_at : {N : Type 0} (vs ss : ℕ) (xs : List (Cell N)) (i : ℕ) (d : Cell N) → AreWithin vs ss xs → i < length xs → IsWithin vs ss (slice_index_or xs i d)
within_at vs ss [] i d p h = absurd (omega (arith, h))
within_at vs ss (x ∷ xs) zero d p h = p.0
within_at vs ss (x ∷ xs) (suc i) d p h = within_at vs ss xs i d p.1 (omega (arith, h))

-- within a list no default counts
pub any_default : {A : Type 0} (xs : List A) (i : ℕ) (d e : A) → i < length xs → slice_index_or xs i d ≡ slice_index_or xs i e
any_default [] i d e h = absurd (omega (arith, h))
any_default (x ∷ xs) zero d e h = refl
any_default (x ∷ xs) (suc i) d e h = any_default xs i d e (omega (arith, h))

-- a cell more on a stack
pub one_more : {N : Type 0} (f : N → List ℕ) (h : Held N) (before : List (Cell N)) (x : Cell N) → term_list f h (reverse (before ++ x ∷ [])) ≡ term_of f h x ∷ term_list f h (reverse before)
one_more f h before x = ap (term_list f h) (reverse-append before (x ∷ []))

first_of : (e : ℕ → Term) (ts : List Term) → first_or (e 0) (map (substituted e) ts) ≡ substituted e (first_term ts)
first_of e [] = refl
first_of e (t ∷ ts) = refl

rest_of : (e : ℕ → Term) (ts : List Term) → behind_first (map (substituted e) ts) ≡ map (substituted e) (behind_first ts)
rest_of e [] = refl
rest_of e (t ∷ ts) = refl

front_is : (e : ℕ → Term) (n : ℕ) (ts : List Term) → front_with (e 0) n (map (substituted e) ts) ≡ each_substituted e (front_of n ts)
front_is e zero ts = refl
front_is e (suc n) ts =
    ap (λ t. more t (front_with (e 0) n (behind_first (map (substituted e) ts)))) (first_of e ts)
    ∙ (ap (λ us. more (substituted e (first_term ts)) (front_with (e 0) n us)) (rest_of e ts) ∙ ap (more (substituted e (first_term ts))) (front_is e n (behind_first ts)))

behind_is : (e : ℕ → Term) (n : ℕ) (ts : List Term) → behind n (map (substituted e) ts) ≡ map (substituted e) (behind n ts)
behind_is e zero ts = refl
behind_is e (suc n) ts = ap (behind n) (rest_of e ts) ∙ behind_is e n (behind_first ts)

-- a cell that was there or is a constant
pub puts_cell : {N : Type 0} (h : Held N) (variables : List (Cell N)) (step : Step N) (before after : List (Cell N)) (x : Cell N) →
    AreIn h before → IsIn h x → after ≡ before ++ x ∷ [] →
    ((f : N → List ℕ) (e : ℕ → Term) (ts : List Term) → Agrees f h variables e → term_of f h x ∷ map (substituted e) ts ≡ map (substituted e) (read_node (step_code f step) ts)) →
    PutsStep h h variables step before after
puts_cell {N = N} h variables step before after x inside there e means =
    let P : List (Cell N) → Type 0 = λ xs. AreIn h xs in
    record {
      count = refl;
      inside = subst P (sym e) (AreWithin-append h.variables (length h.structures) before (x ∷ []) inside (there, tt));
      put = λ f. record {
        terms = λ env ts agrees is. ap (λ xs. term_list f h (reverse xs)) e ∙ (one_more f h before x ∙ (ap (λ us. term_of f h x ∷ us) is ∙ means f env ts agrees));
        kept = λ y i. refl;
      };
    }

pub puts_variable : {N : Type 0} (h : Held N) (variables before after : List (Cell N)) (n : ℕ) (x : Cell N) →
    AreIn h variables → AreIn h before → n < length variables → x ≡ slice_index_or variables n (cell.Variable 0) → after ≡ before ++ x ∷ [] →
    PutsStep h h variables (Variable n) before after
puts_variable {N = N} h variables before after n x vs inside below is e =
    let P : Cell N → Type 0 = λ y. IsIn h y in
    puts_cell h variables (Variable n) before after x inside (subst P (sym is) (within_at h.variables (length h.structures) variables n (cell.Variable 0) vs below)) e
    (λ f env ts agrees. ap (λ t. t ∷ map (substituted env) ts) (ap (term_of f h) is ∙ agrees n below))

pub puts_integer : {N : Type 0} (h : Held N) (variables before after : List (Cell N)) (i : ℤ) →
    AreIn h before → after ≡ before ++ cell.Integer i ∷ [] → PutsStep h h variables (Integer i) before after
puts_integer h variables before after i inside e =
    puts_cell h variables (Integer i) before after (cell.Integer i) inside tt e (λ f env ts agrees. ap (λ t. t ∷ map (substituted env) ts) (term_of-Integer f h i))

pub puts_atom : {N : Type 0} (h : Held N) (variables before after : List (Cell N)) (a : N) →
    AreIn h before → after ≡ before ++ cell.Atom a ∷ [] → PutsStep h h variables (Atom a) before after
puts_atom h variables before after a inside e =
    puts_cell h variables (Atom a) before after (cell.Atom a) inside tt e (λ f env ts agrees. ap (λ t. t ∷ map (substituted env) ts) (term_of-Atom f h a))

pub puts_structure : {N : Type 0} (old new : Held N) (variables before after : List (Cell N)) (missing : Cell N) (name : N) (count : ℕ) →
    0 < length variables → missing ≡ slice_index_or variables 0 (cell.Variable 0) → Joins old new missing name count (reverse before) (reverse after) → AreIn new after →
    PutsStep old new variables (Structure name count) before after
puts_structure old new variables before after missing name count some is joins inside = record {
  count = joins.variables;
  inside = inside;
  put = λ f.
      let j = joins.joined f in
      record {
        terms = λ env ts agrees same.
            let zero_is : term_of f old missing ≡ env 0 = ap (term_of f old) is ∙ agrees 0 some in
            j.terms
            ∙ (ap (λ us. structure (f name) (front_with (term_of f old missing) count us) ∷ behind count us) same
            ∙ (ap (λ t. structure (f name) (front_with t count (map (substituted env) ts)) ∷ behind count (map (substituted env) ts)) zero_is
            ∙ (ap (λ us. structure (f name) us ∷ behind count (map (substituted env) ts)) (front_is env count ts)
            ∙ ap (λ us. structure (f name) (each_substituted env (front_of count ts)) ∷ us) (behind_is env count ts))));
        kept = j.kept;
      };
}
