-- Comparisons that are remembered.
use Rattle.std.proofs.Common.{◌≡◌, ℕ, ◌-◌, ◌≤◌, Bool, true, false, List, [], ◌∷◌, ◌++◌, length, take, drop, get_or, refl, sym, ap, ◌∙◌, arith, subst}
use Rattle.std.specs.List.{All}
use Rattle.std.proofs.lemmas.List.{append-nil, take_all}
use Rattle.std.proofs.lemmas.List.Elements.{All-head, All-tail}
use Rattle.std.specs.Prelude.{Contains, ◌↔◌, Option, None}
use Rattle.kl1_model.specs.Term.{Term}
use Rattle.kl1_model.specs.code.Comparing.{clash, awaited}
use Rattle.kl1_model.specs.declared.built_in.BuiltIn.{BuiltIn}
use Rattle.kl1_store.specs.declared.cell.Cell.{Cell}
use Rattle.kl1_store.specs.declared.cell.Cell.TheVariants.{Structure}
use Rattle.kl1_store.specs.declared.same_scratch.Remembered.{Remembered}
use Rattle.kl1_store.specs.Held.{Held}
use Rattle.kl1_store.specs.Meaning.{term_of}
use Rattle.kl1_store.specs.Compares.{ComparedAs}
use Rattle.kl1_store.specs.Unbound.{AreUnbound}
use Rattle.kl1_store.specs.Sameness.{AlikeAs}
use Rattle.kl1_store.specs.Remembers.{IsRemembered, RecalledAs}
use Rattle.kl1_store.proofs.Answering.{alike_from}

-- what was found alone is put after other variables
pub alike_after : {N : Type 0} (built : BuiltIn → N) (h : Held N) (x y : Cell N) (found before after : List ℕ) (b : Bool) → AlikeAs built h x y [] found b → after ≡ before ++ found → AlikeAs built h x y before after b
alike_after built h x y found before after true a e = record { named = a.named; added = e ∙ ap (λ l. before ++ l) a.added; unbound = a.unbound; clash = a.clash; awaited = a.awaited }
alike_after built h x y found before after false a e = (e ∙ ap (λ l. before ++ l) a.0 ∙ append-nil before, a.1)

-- cells of the same meaning are alike as they are
pub alike_walked : {N : Type 0} (built : BuiltIn → N) (h : Held N) (x y l r : Cell N) (before after : List ℕ) (b : Bool) → ((f : N → List ℕ) → term_of f h x ≡ term_of f h l) → ((f : N → List ℕ) → term_of f h y ≡ term_of f h r) →
    AlikeAs built h x y before after b → AlikeAs built h l r before after b
alike_walked built h x y l r before after true p q a = record {
  named = a.named;
  added = a.added;
  unbound = a.unbound;
  clash = λ f reads. sym (ap (λ t. clash t (term_of f h y)) (p f) ∙ ap (λ u. clash (term_of f h l) u) (q f)) ∙ a.clash f reads;
  awaited = λ f reads v.
      let P : Term → Type 0 = λ t. Contains a.named v ↔ Contains (awaited t (term_of f h y)) v in
      let Q : Term → Type 0 = λ u. Contains a.named v ↔ Contains (awaited (term_of f h l) u) v in
      subst Q (q f) (subst P (p f) (a.awaited f reads v));
}
alike_walked built h x y l r before after false p q a =
    (a.0, λ f reads. sym (ap (λ t. clash t (term_of f h y)) (p f) ∙ ap (λ u. clash (term_of f h l) u) (q f)) ∙ a.1 f reads)

-- two cells that were compared to the end, beginning with no variables
pub alike_alone : {N : Type 0} (built : BuiltIn → N) (h : Held N) (x y : Cell N) (start found : List ℕ) → start ≡ [] → (AreUnbound h start → AreUnbound h found) → ComparedAs built h x y start found true → AlikeAs built h x y [] found true
alike_alone built h x y start found none_first unbound compared = alike_from built h x y start found [] found none_first refl unbound compared

-- of what is remembered, the first
pub first_remembered : {N : Type 0} (built : BuiltIn → N) (h : Held N) (r : Remembered) (rest : List Remembered) → 1 ≤ length rest → r ≡ get_or rest 0 r → All (IsRemembered built h) rest → IsRemembered built h r
first_remembered built h r [] le e a = absurd (omega arith)
first_remembered built h r (z ∷ zs) le e a = let P : Remembered → Type 0 = λ y. IsRemembered built h y in subst P (sym e) (All-head (IsRemembered built h) z zs a)

-- of what is remembered, all but the first
pub others_remembered : {N : Type 0} (built : BuiltIn → N) (h : Held N) (rest : List Remembered) → 1 ≤ length rest → All (IsRemembered built h) rest → All (IsRemembered built h) (take (length rest - 1) (drop 1 rest))
others_remembered built h [] le a = absurd (omega arith)
others_remembered built h (z ∷ zs) le a = let P : List Remembered → Type 0 = λ l. All (IsRemembered built h) l in subst P (sym (take_all (length (z ∷ zs) - 1) zs (omega arith))) (All-tail (IsRemembered built h) z zs a)

-- what is remembered of two structures, by their numbers, is what comparing them gives
pub recalled : {N : Type 0} (built : BuiltIn → N) (h : Held N) (r : Remembered) (left right : ℕ) (waits before after : List ℕ) → IsRemembered built h r → r.left ≡ left → r.right ≡ right → waits ≡ r.waits.items → after ≡ before ++ waits →
    AlikeAs built h (Structure left) (Structure right) before after r.alike
recalled {N = N} built h r left right waits before after is left_is right_is waits_is e =
    let P : ℕ → Type 0 = λ n. AlikeAs built h (Structure n) (Structure r.right) before after r.alike in
    let Q : ℕ → Type 0 = λ n. AlikeAs built h (Structure left) (Structure n) before after r.alike in
    subst Q right_is (subst P left_is (alike_after built h (Structure r.left) (Structure r.right) r.waits.items before after r.alike is.0 (e ∙ ap (λ l. before ++ l) waits_is)))

-- if nothing is recalled, nothing was added
pub not_recalled : {N : Type 0} (built : BuiltIn → N) (h : Held N) (left right : ℕ) (before after : List ℕ) (o : Option Bool) → o ≡ None → RecalledAs built h left right before after o → after ≡ before
not_recalled built h left right before after o e a = let P : Option Bool → Type 0 = λ p. RecalledAs built h left right before after p in subst P e a
