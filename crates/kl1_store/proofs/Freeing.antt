-- A variable that is not in a term, seen at once.
use Rattle.std.proofs.Common.{◌≡◌, ℕ, ℤ, suc, ◌+◌, ◌<◌, ◌≤◌, Bool, true, false, ◌||◌, List, [], ◌∷◌, length, refl, sym, ap, ◌∙◌, ◌⊎◌, inl, inr, arith, subst}
use Rattle.std.specs.Prelude.{Some, slice_get}
use Rattle.std.proofs.lemmas.Bool.{cases_eq, ne_eqb}
use Rattle.std.proofs.lemmas.Option.{slice_get_within}
use Rattle.kl1_model.specs.Term.{occurs, occurs_in}
use Rattle.kl1_store.specs.declared.cell.Cell.{Cell}
use Rattle.kl1_store.specs.declared.cell.Cell.TheVariants.{Variable, Integer, Atom, Structure}
use Rattle.kl1_store.specs.declared.levels.Levels.{Levels}
use Rattle.kl1_store.specs.Held.{Held, IsWalked, arguments_of}
use Rattle.kl1_store.specs.Meaning.{term_of, terms_of}
use Rattle.kl1_store.specs.Sound.{IsFormed}
use Rattle.kl1_store.specs.Levels.{level_at, AreLevels, FindsAs}
use Rattle.kl1_store.specs.Apart.{IsPlain, IsFree, AreFree}
use Rattle.kl1_store.proofs.Terms.{term_of-Structure, term_of-unbound, term_of-Integer, term_of-Atom}
use Rattle.kl1_store.proofs.Meetings.{named}
use Rattle.kl1_store.proofs.Levelling.{free_above}

-- a variable is in no constant, and in no other unbound variable
pub plain_free : {N : Type 0} (h : Held N) (v : ℕ) (x : Cell N) → IsWalked h x → IsPlain v x → IsFree h v x
plain_free h v (Variable w) walked p f = ap (occurs v) (term_of-unbound f h w walked) ∙ ne_eqb v w (λ e. p (sym e))
plain_free h v (Integer i) walked p f = ap (occurs v) (term_of-Integer f h i)
plain_free h v (Atom a) walked p f = ap (occurs v) (term_of-Atom f h a)
plain_free h v (Structure s) walked p f = absurd p

-- one cell more
pub free_on : {N : Type 0} (h : Held N) (v : ℕ) (xs : List (Cell N)) (n : ℕ) (x y : Cell N) → AreFree h v xs n → slice_get xs n ≡ Some x → IsWalked h y → IsPlain v y → ((f : N → List ℕ) → term_of f h y ≡ term_of f h x) → AreFree h v xs (n + 1)
free_on {N = N} h v xs n x y free at walked plain means i z lt got = by (cases_eq i n)
  where
    by : (i ≡ n) ⊎ (i ≡ n → ⊥) → IsFree h v z
    by (inl e) f =
        let P : ℕ → Type 0 = λ k. slice_get xs k ≡ Some z in
        let there : slice_get xs n ≡ Some z = subst P e got in
        let q : x ≡ z = cc in
        ap (λ (c : Cell N). occurs v (term_of f h c)) (sym q) ∙ ap (occurs v) (sym (means f)) ∙ plain_free h v y walked plain f
    by (inr ne) f = free i z (omega arith) got f

or-both : (a b : Bool) → a ≡ false → b ≡ false → (a || b) ≡ false
or-both true b p q = p
or-both false b p q = q

free_all : {N : Type 0} (f : N → List ℕ) (h : Held N) (v : ℕ) (xs : List (Cell N)) → ((i : ℕ) (x : Cell N) → slice_get xs i ≡ Some x → occurs v (term_of f h x) ≡ false) → occurs_in v (terms_of f h xs) ≡ false
unfolding terms_of
free_all f h v [] each = refl
free_all f h v (x ∷ xs) each = or-both (occurs v (term_of f h x)) (occurs_in v (terms_of f h xs)) (each 0 x refl) (free_all f h v xs (λ i y e. each (suc i) y e))

-- a variable that is in no argument is not in the structure
pub structure_free : {N : Type 0} (h : Held N) (v s n : ℕ) → IsFormed h → s < length h.structures → AreFree h v (arguments_of h s) n → length (arguments_of h s) ≤ n → IsFree h v (Structure s)
structure_free h v s n p inside free le f =
    let r = named h s inside in
    ap (occurs v) (term_of-Structure f h s r.0 p r.1)
    ∙ free_all f h v (arguments_of h s) (λ i x got. let lt = slice_get_within (arguments_of h s) i x got in free i x (omega arith) got f)

-- a structure that lies above a variable
pub above_apart : {N : Type 0} (h : Held N) (ls : Levels) (v s : ℕ) → IsFormed h → AreLevels h ls → s < length h.structures → level_at ls.variables.items v < level_at ls.structures.items s → FindsAs h ls v (Structure s) false
above_apart h ls v s p a inside lt = (
  λ f. free_above f h (level_at ls.variables.items) (level_at ls.structures.items) v (suc (level_at ls.variables.items v)) (Structure s) p a.level (omega arith) inside lt,
  omega arith,
)

-- a cell that is plain and does not lie below a variable
pub plain_apart : {N : Type 0} (h : Held N) (ls : Levels) (v w : ℕ) → IsWalked h (Variable w) → (w ≡ v → ⊥) → level_at ls.variables.items v ≤ level_at ls.variables.items w → FindsAs h ls v (Variable w) false
plain_apart h ls v w walked ne le = (plain_free h v (Variable w) walked ne, le)

pub integer_apart : {N : Type 0} (h : Held N) (ls : Levels) (v : ℕ) (i : ℤ) → FindsAs h ls v (Integer i) false
integer_apart h ls v i = (plain_free h v (Integer i) tt tt, tt)

pub atom_apart : {N : Type 0} (h : Held N) (ls : Levels) (v : ℕ) (a : N) → FindsAs h ls v (Atom a) false
atom_apart h ls v a = (plain_free h v (Atom a) tt tt, tt)
