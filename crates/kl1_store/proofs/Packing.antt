-- Cells as words and back.
use Rattle.std.proofs.Common.{◌≡◌, ℕ, suc, ◌+◌, ◌*◌, ◌/◌, ◌%◌, ◌^◌, ◌<◌, ◌≤◌, List, [], ◌∷◌, ◌++◌, length, length-append, get_or, take, map, All, ◌⊎◌, ℤ, pos, negsuc, ◌+ℤ◌, ◌-ℤ◌, ◌≤ℤ◌, ◌<ℤ◌, refl, sym, ◌∙◌, ap, arith, inl, inr}
use lib.IntN.{nat_abs}
use Rattle.std.proofs.lemmas.Int.{ints}
use Rattle.std.proofs.lemmas.List.{get_or-take, length-take, map-append, take_all, take-append-le, get_or_at}
use Rattle.std.proofs.lemmas.List.Elements.{All-head, All-tail, All-weaker}
use Rattle.std.proofs.lemmas.Bool.{cases_eq}
use Rattle.kl1_store.specs.declared.cell.Cell.{Cell}
use Rattle.kl1_store.specs.declared.cell.Cell.TheVariants.{Variable, Integer, Structure}
use Rattle.kl1_store.specs.Words.{unpacked, IsPacked, IsWordOf, Packs, next_place}

pub unpacked_variable : {N : Type 0} (wide : List (Cell N)) (w : ℕ) → w % 4 ≡ 0 → unpacked wide w ≡ Variable (w / 4)
unfolding unpacked
unpacked_variable wide w e = rw e refl

pub unpacked_structure : {N : Type 0} (wide : List (Cell N)) (w : ℕ) → w % 4 ≡ 1 → unpacked wide w ≡ Structure (w / 4)
unfolding unpacked
unpacked_structure wide w e = rw e refl

pub unpacked_small : {N : Type 0} (wide : List (Cell N)) (w : ℕ) → w % 4 ≡ 3 → unpacked wide w ≡ Integer (pos (w / 4) -ℤ pos (2 ^ 61))
unfolding unpacked
unpacked_small wide w e = rw e refl

pub unpacked_wide : {N : Type 0} (wide : List (Cell N)) (w : ℕ) → w % 4 ≡ 2 → unpacked wide w ≡ get_or wide (w / 4) (Variable 0)
unfolding unpacked
unpacked_wide wide w e = rw e refl

pub next_same : (p w : ℕ) → w % 4 ≡ 2 → next_place p w ≡ suc p
next_same p w e = rw e refl

pub next_other : (p w k : ℕ) → w % 4 ≡ k → (k ≡ 0) ⊎ (k ≡ 1) ⊎ (k ≡ 3) → next_place p w ≡ p
next_other p w k e (inl a) = rw (e, a) refl
next_other p w k e (inr (inl a)) = rw (e, a) refl
next_other p w k e (inr (inr a)) = rw (e, a) refl

-- a word that stands for a cell by itself
narrow : {N : Type 0} (wide : List (Cell N)) (x : Cell N) (w k : ℕ) → IsPacked (length wide) w → unpacked wide w ≡ x → w % 4 ≡ k → (k ≡ 0) ⊎ (k ≡ 1) ⊎ (k ≡ 3) → Packs wide wide x w
narrow wide x w k packed is e other = record {
  packed = packed;
  is = is;
  grown = take_all (length wide) wide (omega arith);
  place = λ two. absurd (by two other);
  next = sym (next_other (length wide) w k e other);
}
  where
    by : w % 4 ≡ 2 → (k ≡ 0) ⊎ (k ≡ 1) ⊎ (k ≡ 3) → ⊥
    by two (inl a) = omega (arith, e, two, a)
    by two (inr (inl a)) = omega (arith, e, two, a)
    by two (inr (inr a)) = omega (arith, e, two, a)

pub packs_variable : {N : Type 0} (wide : List (Cell N)) (v : ℕ) → v < 2 ^ 32 → Packs wide wide (Variable v) (4 * v)
packs_variable {N = N} wide v h =
    let m : (4 * v) % 4 ≡ 0 = omega arith in
    let d : (4 * v) / 4 ≡ v = omega arith in
    let f : ℕ → Cell N = λ x. Variable x in
    narrow wide (Variable v) (4 * v) 0
    (record { variable = λ _. omega (arith, h); structure = λ e. absurd (omega (arith, e)); wide = λ e. absurd (omega (arith, e)) })
    (unpacked_variable wide (4 * v) m ∙ ap f d) m (inl refl)

pub packs_structure : {N : Type 0} (wide : List (Cell N)) (s : ℕ) → s < 2 ^ 32 → Packs wide wide (Structure s) (4 * s + 1)
packs_structure {N = N} wide s h =
    let m : (4 * s + 1) % 4 ≡ 1 = omega arith in
    let d : (4 * s + 1) / 4 ≡ s = omega arith in
    let f : ℕ → Cell N = λ x. Structure x in
    narrow wide (Structure s) (4 * s + 1) 1
    (record { variable = λ e. absurd (omega (arith, e)); structure = λ _. omega (arith, h); wide = λ e. absurd (omega (arith, e)) })
    (unpacked_structure wide (4 * s + 1) m ∙ ap f d) m (inr (inl refl))

pub packs_small : {N : Type 0} (wide : List (Cell N)) (i : ℤ) (w : ℕ) → IsWordOf i w → Packs wide wide (Integer i) w
packs_small {N = N} wide i w h =
    let m = h.kind in
    let f : ℤ → Cell N = λ x. Integer x in
    narrow wide (Integer i) w 3
    (record { variable = λ e. absurd (omega (arith, e, m)); structure = λ e. absurd (omega (arith, e, m)); wide = λ e. absurd (omega (arith, e, m)) })
    (unpacked_small wide w m ∙ ap f h.is) m (inr (inr refl))

pub packs_beside : {N : Type 0} (old new : List (Cell N)) (x : Cell N) → new ≡ old ++ x ∷ [] → Packs old new x (4 * length old + 2)
packs_beside {N = N} old new x e =
    let n = length old in
    let m : (4 * n + 2) % 4 ≡ 2 = omega arith in
    let d : (4 * n + 2) / 4 ≡ n = omega arith in
    let long : length new ≡ suc n = ap length e ∙ (let l = length-append old (x ∷ []) in omega (arith, l)) in
    let f : ℕ → Cell N = λ p. get_or new p (Variable 0) in
    record {
      packed = record { variable = λ z. absurd (omega (arith, z)); structure = λ z. absurd (omega (arith, z)); wide = λ _. omega (arith, long) };
      is = unpacked_wide new (4 * n + 2) m ∙ (ap f d ∙ (ap (λ l. get_or l n (Variable 0)) e ∙ get_or_at old x [] (Variable 0) n refl));
      grown = ap (take n) e ∙ (take-append-le n old (x ∷ []) (omega arith) ∙ take_all n old (omega arith));
      place = λ _. d;
      next = long ∙ sym (next_same n (4 * n + 2) m);
    }

-- the number that an integer is above the least that a word can hold
pub word_of_small : (i z : ℤ) → z ≡ i +ℤ pos (2 ^ 61) → pos 0 ≤ℤ z → z <ℤ pos (2 ^ 62) → IsWordOf i (4 * nat_abs z + 3)
word_of_small i (negsuc n) e low high = absurd (omega (arith, ints))
word_of_small i (pos n) e low high =
    let m : (4 * n + 3) % 4 ≡ 3 = omega arith in
    let d : (4 * n + 3) / 4 ≡ n = omega arith in
    let back : pos n -ℤ pos (2 ^ 61) ≡ i = omega (arith, ints) in
    let f : ℕ → ℤ = λ x. pos x -ℤ pos (2 ^ 61) in
    record { kind = m; is = ap f d ∙ back }

-- ---- what was packed stays when cells come beside

packed_grown : (n m w : ℕ) → n ≤ m → IsPacked n w → IsPacked m w
packed_grown n m w h p = record { variable = p.variable; structure = p.structure; wide = λ e. omega (arith, h, p.wide e) }

grown_length : {X : Type 0} (old new : List X) → take (length old) new ≡ old → length old ≤ length new
grown_length old new e = omega (arith, ap length e, length-take (length old) new)

pub unpacked_grown : {N : Type 0} (old new : List (Cell N)) (w : ℕ) → take (length old) new ≡ old → IsPacked (length old) w → unpacked new w ≡ unpacked old w
unpacked_grown old new w e p = elim (cases_eq (w % 4) 0) [
  | inl a ↦ unpacked_variable new w a ∙ sym (unpacked_variable old w a)
  | inr a ↦ elim (cases_eq (w % 4) 1) [
    | inl b ↦ unpacked_structure new w b ∙ sym (unpacked_structure old w b)
    | inr b ↦ elim (cases_eq (w % 4) 3) [
      | inl c ↦ unpacked_small new w c ∙ sym (unpacked_small old w c)
      | inr c ↦
          let two : w % 4 ≡ 2 = omega arith in
          let same : get_or new (w / 4) (Variable 0) ≡ get_or old (w / 4) (Variable 0) = sym (get_or-take (length old) new (w / 4) (Variable 0) (p.wide two)) ∙ ap (λ l. get_or l (w / 4) (Variable 0)) e in
          unpacked_wide new w two ∙ (same ∙ sym (unpacked_wide old w two))
    ]
  ]
]

pub map_unpacked_grown : {N : Type 0} (old new : List (Cell N)) (ws : List ℕ) → take (length old) new ≡ old → All (IsPacked (length old)) ws → map (unpacked new) ws ≡ map (unpacked old) ws
map_unpacked_grown old new [] e p = refl
map_unpacked_grown old new (w ∷ ws) e p =
    let here = unpacked_grown old new w e (All-head (IsPacked (length old)) w ws p) in
    let rest = map_unpacked_grown old new ws e (All-tail (IsPacked (length old)) w ws p) in
    ap (λ x. x ∷ map (unpacked new) ws) here ∙ ap (λ l. unpacked old w ∷ l) rest

pub all_packed_grown : {X : Type 0} (old new : List X) (ws : List ℕ) → take (length old) new ≡ old → All (IsPacked (length old)) ws → All (IsPacked (length new)) ws
all_packed_grown old new ws e p = All-weaker (IsPacked (length old)) (IsPacked (length new)) (λ w. packed_grown (length old) (length new) w (grown_length old new e)) ws p

pub map_pushed : {N : Type 0} (old new : List (Cell N)) (ws : List ℕ) (w : ℕ) (x : Cell N) → All (IsPacked (length old)) ws → Packs old new x w → map (unpacked new) (ws ++ w ∷ []) ≡ map (unpacked old) ws ++ x ∷ []
map_pushed old new ws w x p q =
    map-append (unpacked new) ws (w ∷ [])
    ∙ (ap (λ l. l ++ unpacked new w ∷ []) (map_unpacked_grown old new ws q.grown p)
    ∙ ap (λ y. map (unpacked old) ws ++ y ∷ []) q.is)
