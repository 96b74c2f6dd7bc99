-- One pass over shoens in order of number, in which the parent's flag is there before its child's.
use Rattle.std.proofs.Common.{◌≡◌, ℕ, zero, suc, ◌+◌, ◌-◌, ◌<◌, ◌≤◌, Bool, List, [], ◌∷◌, ◌++◌, map, length, get_or, take, refl, sym, ap, ap₂, ◌∙◌, arith}
use Rattle.std.proofs.lemmas.List.{map_more}
use Rattle.kl1_shoen_paths.specs.declared.shoen.Shoen.{Shoen}
use Rattle.kl1_shoen_paths.specs.Paths.{AreNumbered, AreLower, path_in, parents_in}
use Rattle.kl1_shoen_paths.proofs.Numbered.{numbered_get}
use Rattle.kl1_shoen_paths.proofs.Paths.{go_on, parents_get, parent_few}

-- the path of the shoen at a place goes on with its parent's
pub path_at : {N : Type 0} (ss : List (Shoen N)) (i : ℕ) (x : Shoen N) → AreNumbered 0 ss → AreLower ss → i < length ss → x ≡ get_or ss i x → path_in ss x.number ≡ x.number ∷ path_in ss x.parent
path_at ss i x a lower lt is =
    let n : x.number ≡ suc i = numbered_get 0 i ss x a lt is ∙ omega arith in
    let p : get_or (parents_in ss) i 0 ≡ x.parent = sym (parents_get ss i x lt is) in
    ap (path_in ss) n ∙ go_on (parents_in ss) lower i ∙ ap₂ (λ (m q : ℕ). m ∷ path_in ss q) (sym n) p

flag_get : {N : Type 0} (g : ℕ → Bool) (last i p : ℕ) (ss : List (Shoen N)) (b : Bool) → AreNumbered last ss → p < i → i ≤ length ss → get_or (map (λ (h : Shoen N). g h.number) (take i ss)) p b ≡ g (suc (last + p))
flag_get g last i p [] b a lt few = absurd (omega (arith, lt, few))
flag_get g last zero p (s ∷ ss) b a lt few = absurd (omega (arith, lt))
flag_get g last (suc i) zero (s ∷ ss) b a lt few = ap g (a.0 ∙ omega arith)
flag_get g last (suc i) (suc p) (s ∷ ss) b a lt few = flag_get g (suc last) i p ss b a.1 (omega (arith, lt)) (omega (arith, few)) ∙ ap g (omega arith)

by_zero : (p : ℕ) (g : ℕ → Bool) (b : Bool) → (p ≡ 0 → b ≡ g p) → (0 < p → b ≡ g p) → b ≡ g p
by_zero zero g b e f = e refl
by_zero (suc p) g b e f = f (omega arith)

-- the flag that is looked up for a parent is that of its number
pub flag_is : {N : Type 0} (g : ℕ → Bool) (i p : ℕ) (ss : List (Shoen N)) (flags : List Bool) (b none : Bool) → AreNumbered 0 ss → flags ≡ map (λ (h : Shoen N). g h.number) (take i ss) → p ≤ i → i ≤ length ss →
    g 0 ≡ none → (p ≡ 0 → b ≡ none) → (0 < p → b ≡ get_or flags (p - 1) b) → b ≡ g p
flag_is {N = N} g i p ss flags b none a is few within zero_is e f =
    by_zero p g b (λ z. e z ∙ sym zero_is ∙ ap g (sym z)) (λ lt.
    f lt ∙ ap (λ (l : List Bool). get_or l (p - 1) b) is ∙ flag_get g 0 i (p - 1) ss b a (omega (arith, lt, few)) within ∙ ap g (omega (arith, lt)))

length_flags : {N : Type 0} (g : ℕ → Bool) (i : ℕ) (ss : List (Shoen N)) → i ≤ length ss → length (map (λ (h : Shoen N). g h.number) (take i ss)) ≡ i
length_flags g zero [] few = refl
length_flags g (suc i) [] few = absurd (omega (arith, few))
length_flags g zero (s ∷ ss) few = refl
length_flags g (suc i) (s ∷ ss) few = ap suc (length_flags g i ss (omega (arith, few)))

count_flags : {N : Type 0} (g : ℕ → Bool) (i : ℕ) (ss : List (Shoen N)) (flags : List Bool) → flags ≡ map (λ (h : Shoen N). g h.number) (take i ss) → i ≤ length ss → length flags ≡ i
count_flags g i ss flags is few = ap (λ (l : List Bool). length l) is ∙ length_flags g i ss few

-- flags of one shoen more
pub flag_more : {N : Type 0} (g : ℕ → Bool) (i : ℕ) (ss : List (Shoen N)) (flags : List Bool) (x : Shoen N) (b : Bool) → flags ≡ map (λ (h : Shoen N). g h.number) (take i ss) → i < length ss → x ≡ get_or ss i x → b ≡ g x.number →
    flags ++ b ∷ [] ≡ map (λ (h : Shoen N). g h.number) (take (i + 1) ss)
flag_more {N = N} g i ss flags x b is lt at e =
    ap₂ (λ (l : List Bool) c. l ++ c ∷ []) is (e ∙ ap (λ (h : Shoen N). g h.number) at) ∙ sym (map_more (λ (h : Shoen N). g h.number) ss i x lt)

-- the flag of a parent is there
pub flags_few : {N : Type 0} (g : ℕ → Bool) (i : ℕ) (ss ts : List (Shoen N)) (flags ds : List Bool) (x : Shoen N) → AreLower ss → ts ≡ ss → flags ≡ map (λ (h : Shoen N). g h.number) (take i ts) → ds ≡ flags → i < length ts → x ≡ get_or ts i x →
    x.parent ≤ length ds
flags_few {N = N} g i ss ts flags ds x lower same is e lt at =
    let len = ap (λ (l : List (Shoen N)). length l) same in
    let few = parent_few ss i x lower (omega (arith, lt, len)) (at ∙ ap (λ (l : List (Shoen N)). get_or l i x) same) in
    let count = count_flags g i ts flags is (omega (arith, lt)) in
    let d = ap (λ (l : List Bool). length l) e in
    omega (arith, few, count, d)
