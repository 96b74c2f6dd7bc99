-- What a store that has grown means.
use Rattle.std.proofs.Common.{◌≡◌, ℕ, List, [], ◌∷◌, ◌++◌, length, drop, map, refl, sym, ap, ◌∙◌, arith, subst, append_assoc}
use Rattle.std.proofs.lemmas.List.{append-nil, take-append-drop}
use Rattle.kl1_model.specs.Term.{Term, Replacement}
use Rattle.kl1_model.specs.code.Unifying.{replaced}
use Rattle.kl1_store.specs.declared.cell.Cell.{Cell}
use Rattle.kl1_store.specs.declared.binding.Binding.{Binding}
use Rattle.kl1_store.specs.Held.{Shape, Held, IsWithin, IsIn}
use Rattle.kl1_store.specs.Meaning.{mean, shapes, shapes_from, replacements, replacements_from, term_of}
use Rattle.kl1_store.specs.Sound.{IsFormed, Grown}
use Rattle.kl1_store.specs.Later.{IsLater}
use Rattle.kl1_store.proofs.Replacing.{replaced-append}
use Rattle.kl1_store.proofs.Meanings.{term_at, replacement_of, shapes_from-front, length-shapes_from, mean-more, replacements_from-more}

shapes_from-append : {N : Type 0} (f : N → List ℕ) (ts : List Term) (ss rest : List (Shape N)) → shapes_from f ts (ss ++ rest) ≡ shapes_from f (shapes_from f ts ss) rest
unfolding shapes_from
shapes_from-append f ts [] rest = refl
shapes_from-append f ts (s ∷ ss) rest = shapes_from-append f (ts ++ term_at f ts s ∷ []) ss rest

replacements_from-append : {N : Type 0} (f : N → List ℕ) (ts : List Term) (rs : List Replacement) (bs rest : List (Binding N)) →
    replacements_from f ts rs (bs ++ rest) ≡ replacements_from f ts (replacements_from f ts rs bs) rest
unfolding replacements_from
replacements_from-append f ts rs [] rest = refl
replacements_from-append f ts rs (b ∷ bs) rest = replacements_from-append f ts (rs ++ replacement_of f ts rs b ∷ []) bs rest

-- replacements after others, of the variables of these bindings
record AreBehind {N : Type 0} (f : N → List ℕ) (ts : List Term) (rs : List Replacement) (bs : List (Binding N)) : Type 0 where
  later : List Replacement
  numbers : map (λ r. r.number) later ≡ map (λ b. b.variable) bs
  are : replacements_from f ts rs bs ≡ rs ++ later

are_behind : {N : Type 0} (f : N → List ℕ) (ts : List Term) (rs : List Replacement) (bs : List (Binding N)) → AreBehind f ts rs bs
unfolding replacements_from
are_behind f ts rs [] = record { later = []; numbers = refl; are = sym (append-nil rs) }
are_behind f ts rs (b ∷ bs) =
    let r = are_behind f ts (rs ++ replacement_of f ts rs b ∷ []) bs in
    record {
      later = replacement_of f ts rs b ∷ r.later;
      numbers = ap (λ (ns : List ℕ). b.variable ∷ ns) r.numbers;
      are = r.are ∙ append_assoc rs (replacement_of f ts rs b ∷ []) r.later;
    }

means_later : {N : Type 0} (f : N → List ℕ) (old new : Held N) (us : List Term) (qs : List Replacement) → shapes f new ≡ shapes f old ++ us → replacements f new ≡ replacements f old ++ qs →
    (x : Cell N) → IsIn old x → term_of f new x ≡ replaced qs (term_of f old x)
unfolding term_of
means_later f old new us qs e q x i =
    let W : ℕ → Type 0 = λ n. IsWithin old.variables n x in
    let many : length old.structures ≡ length (shapes f old) = sym (length-shapes_from f [] old.structures ∙ omega arith) in
    ap (λ (rs : List Replacement). replaced rs (mean f (shapes f new) x)) q
    ∙ ap (λ (ts : List Term). replaced (replacements f old ++ qs) (mean f ts x)) e
    ∙ ap (replaced (replacements f old ++ qs)) (mean-more f (shapes f old) us old.variables x (subst W many i))
    ∙ replaced-append (replacements f old) qs (mean f (shapes f old) x)

-- a store that has grown means what it meant, with the variables replaced that were bound since then
pub is_later : {N : Type 0} (f : N → List ℕ) (old new : Held N) → IsFormed old → Grown old new → IsLater f old new
is_later f old new formed grown =
    let rest = drop (length old.structures) new.structures in
    let bs = drop (length old.bindings) new.bindings in
    let all : new.structures ≡ old.structures ++ rest = sym (take-append-drop (length old.structures) new.structures) ∙ ap (λ (ss : List (Shape _)). ss ++ rest) grown.structures in
    let bound : new.bindings ≡ old.bindings ++ bs = sym (take-append-drop (length old.bindings) new.bindings) ∙ ap (λ (cs : List (Binding _)). cs ++ bs) grown.bindings in
    let front = shapes_from-front f (shapes f old) rest in
    let shapes_are : shapes f new ≡ shapes f old ++ front.0 = ap (shapes_from f []) all ∙ shapes_from-append f [] old.structures rest ∙ front.1 in
    let many : length (shapes f old) ≡ length old.structures = length-shapes_from f [] old.structures ∙ omega arith in
    let r = are_behind f (shapes f new) (replacements_from f (shapes f new) [] old.bindings) bs in
    let earlier : replacements_from f (shapes f new) [] old.bindings ≡ replacements f old =
    ap (λ (ts : List Term). replacements_from f ts [] old.bindings) shapes_are
    ∙ replacements_from-more f (shapes f old) front.0 old.variables old.structures [] [] old.bindings many formed.bound in
    let made : replacements f new ≡ replacements f old ++ r.later =
    ap (replacements_from f (shapes f new) []) bound
    ∙ replacements_from-append f (shapes f new) [] old.bindings bs
    ∙ r.are
    ∙ ap (λ (rs : List Replacement). rs ++ r.later) earlier in
    record { replacements = r.later; numbers = r.numbers; means = means_later f old new front.0 r.later shapes_are made }
