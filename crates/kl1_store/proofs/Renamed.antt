-- What is held under other names means what was held, each name read as the other one.
use Rattle.std.proofs.Common.{◌≡◌, ℕ, List, [], ◌∷◌, ◌++◌, map, refl, ap, ap₂, ◌∙◌}
use Rattle.kl1_model.specs.Term.{Term, structure, more, Replacement}
use Rattle.kl1_model.specs.code.Unifying.{replaced}
use Rattle.kl1_store.specs.declared.cell.Cell.{Cell}
use Rattle.kl1_store.specs.declared.cell.Cell.TheVariants.{Variable, Integer, Atom, Structure}
use Rattle.kl1_store.specs.declared.binding.Binding.{Binding}
use Rattle.kl1_store.specs.declared.mark.Mark.{Mark}
use Rattle.kl1_store.specs.Held.{Held, Shape}
use Rattle.kl1_store.specs.Meaning.{mean, means, shapes, shapes_from, replacements_from, term_of}
use Rattle.kl1_store.specs.Renames.{cell_renamed, shape_renamed, binding_renamed, held_renamed, mapped_from, renamed_since}

mean-renamed : {N M : Type 0} (f : M → List ℕ) (g : N → M) (ts : List Term) (x : Cell N) → mean f ts (cell_renamed g x) ≡ mean (λ n. f (g n)) ts x
mean-renamed f g ts (Variable v) = refl
mean-renamed f g ts (Integer i) = refl
mean-renamed f g ts (Atom a) = refl
mean-renamed f g ts (Structure s) = refl

means-renamed : {N M : Type 0} (f : M → List ℕ) (g : N → M) (ts : List Term) (xs : List (Cell N)) → means f ts (map (cell_renamed g) xs) ≡ means (λ n. f (g n)) ts xs
means-renamed f g ts [] = refl
means-renamed f g ts (x ∷ xs) = ap₂ more (mean-renamed f g ts x) (means-renamed f g ts xs)

shapes_from-renamed : {N M : Type 0} (f : M → List ℕ) (g : N → M) (ts : List Term) (ss : List (Shape N)) → shapes_from f ts (map (shape_renamed g) ss) ≡ shapes_from (λ n. f (g n)) ts ss
unfolding shapes_from
shapes_from-renamed f g ts [] = refl
shapes_from-renamed f g ts (s ∷ ss) =
    ap (λ us. shapes_from f (ts ++ structure (f (g s.name)) us ∷ []) (map (shape_renamed g) ss)) (means-renamed f g ts s.arguments)
    ∙ shapes_from-renamed f g (ts ++ structure (f (g s.name)) (means (λ n. f (g n)) ts s.arguments) ∷ []) ss

replacements_from-renamed : {N M : Type 0} (f : M → List ℕ) (g : N → M) (ts : List Term) (rs : List Replacement) (bs : List (Binding N)) →
    replacements_from f ts rs (map (binding_renamed g) bs) ≡ replacements_from (λ n. f (g n)) ts rs bs
unfolding replacements_from
replacements_from-renamed f g ts rs [] = refl
replacements_from-renamed f g ts rs (b ∷ bs) =
    let by : Term → Replacement = λ t. record { number = b.variable; by = replaced rs t } in
    ap (λ t. replacements_from f ts (rs ++ by t ∷ []) (map (binding_renamed g) bs)) (mean-renamed f g ts b.value)
    ∙ replacements_from-renamed f g ts (rs ++ by (mean (λ n. f (g n)) ts b.value) ∷ []) bs

-- a cell under other names
pub term_of-renamed : {N M : Type 0} (f : M → List ℕ) (g : N → M) (h : Held N) (x : Cell N) → term_of f (held_renamed g h) (cell_renamed g x) ≡ term_of (λ n. f (g n)) h x
unfolding term_of
term_of-renamed f g h x =
    let shapes_are = shapes_from-renamed f g [] h.structures in
    ap (λ ts. replaced (replacements_from f ts [] (map (binding_renamed g) h.bindings)) (mean f ts (cell_renamed g x))) shapes_are
    ∙ ap₂ replaced (replacements_from-renamed f g (shapes (λ n. f (g n)) h) [] h.bindings) (mean-renamed f g (shapes (λ n. f (g n)) h) x)

-- other names since the beginning are other names everywhere
pub renamed_everywhere : {N : Type 0} (g : N → N) (mark : Mark) (h : Held N) → mark.structures ≡ 0 → mark.bindings ≡ 0 → renamed_since g mark h ≡ held_renamed g h
renamed_everywhere {N = N} g mark h s b =
    let make : ℕ → ℕ → Held N = λ n m. record { variables = h.variables; structures = mapped_from (shape_renamed g) n h.structures; bindings = mapped_from (binding_renamed g) m h.bindings } in
    ap₂ make s b
