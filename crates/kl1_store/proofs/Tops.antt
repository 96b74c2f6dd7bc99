-- What is moved from the top of a stack.
use Rattle.std.proofs.Common.{◌≡◌, ℕ, zero, suc, ◌+◌, ◌-◌, ◌<◌, List, [], ◌∷◌, ◌++◌, length, length-drop, take, drop, get_or, reverse, refl, ap, sym, ◌∙◌, subst, arith, append-nil, append_assoc}
use Rattle.std.specs.Prelude.{Option, Some, None, IsSome, option_to_list, unwrap_or}
use Rattle.std.proofs.lemmas.Bool.{false≢true}
use Rattle.std.proofs.Math.Seq.{take-suc}
use Rattle.std.proofs.lemmas.List.{length-reverse, reverse-append, reverse-reverse, take-append-drop}
use Rattle.kl1_store.specs.declared.cell.Cell.{Cell}
use Rattle.kl1_store.specs.Held.{Held, IsWithin, AreWithin, IsIn, AreIn}
use Rattle.kl1_store.specs.Tops.{first_or, but_first, firsts, others}

-- what a stack gives and keeps
pub record Popped {A : Type 0} (m : A) (old new : List A) (x : A) : Type 0 where
  pub first : first_or m (reverse old) ≡ x
  pub rest : but_first (reverse old) ≡ reverse new

pub popped : {A : Type 0} (m : A) (old new : List A) (r : Option A) → old ≡ new ++ option_to_list r → (0 < length old → IsSome r) → Popped m old new (unwrap_or r m)
popped m old new (Some x) e h =
    let q : reverse old ≡ x ∷ reverse new = ap reverse e ∙ reverse-append new (x ∷ []) in
    record { first = ap (first_or m) q; rest = ap but_first q }
popped m [] new None e h = record { first = refl; rest = ap reverse (e ∙ append-nil new) }
popped m (x ∷ xs) new None e h = absurd (false≢true (h (omega arith)))

-- one more of the first elements of a list
pub moved_one : {A : Type 0} (before : List A) (m : A) (left : ℕ) (xs ys : List A) (x : A) → 0 < left → first_or m xs ≡ x → but_first xs ≡ ys → (before ++ x ∷ []) ++ firsts m (left - 1) ys ≡ before ++ firsts m left xs
moved_one before m zero xs ys x h p q = absurd (omega (arith, h))
moved_one before m (suc k) xs ys x h p q =
    let less : suc k - 1 ≡ k = omega arith in
    ap (λ n. (before ++ x ∷ []) ++ firsts m n ys) less
    ∙ (append_assoc before (x ∷ []) (firsts m k ys)
    ∙ (ap (λ z. before ++ z ∷ firsts m k ys) (sym p) ∙ ap (λ zs. before ++ first_or m xs ∷ firsts m k zs) (sym q)))

pub left_one : {A : Type 0} (left : ℕ) (xs ys : List A) → 0 < left → but_first xs ≡ ys → others (left - 1) ys ≡ others left xs
left_one zero xs ys h q = absurd (omega (arith, h))
left_one (suc k) xs ys h q = let less : suc k - 1 ≡ k = omega arith in ap (λ n. others n ys) less ∙ ap (others k) (sym q)

-- cells of a store, side by side
pub AreWithin-append : {N : Type 0} (vs ss : ℕ) (xs ys : List (Cell N)) → AreWithin vs ss xs → AreWithin vs ss ys → AreWithin vs ss (xs ++ ys)
AreWithin-append vs ss [] ys p q = q
AreWithin-append vs ss (x ∷ xs) ys p q = (p.0, AreWithin-append vs ss xs ys p.1 q)

pub AreWithin-left : {N : Type 0} (vs ss : ℕ) (xs ys : List (Cell N)) → AreWithin vs ss (xs ++ ys) → AreWithin vs ss xs
AreWithin-left vs ss [] ys p = tt
AreWithin-left vs ss (x ∷ xs) ys p = (p.0, AreWithin-left vs ss xs ys p.1)

pub AreWithin-reverse : {N : Type 0} (vs ss : ℕ) (xs : List (Cell N)) → AreWithin vs ss xs → AreWithin vs ss (reverse xs)
AreWithin-reverse vs ss [] p = tt
AreWithin-reverse {N = N} vs ss (x ∷ xs) p =
    let P : List (Cell N) → Type 0 = λ zs. AreWithin vs ss zs in
    subst P (sym (reverse-append (x ∷ []) xs)) (AreWithin-append vs ss (reverse xs) (x ∷ []) (AreWithin-reverse vs ss xs p.1) (p.0, tt))

pub AreWithin-back : {N : Type 0} (vs ss : ℕ) (xs : List (Cell N)) → AreWithin vs ss (reverse xs) → AreWithin vs ss xs
AreWithin-back {N = N} vs ss xs p =
    let P : List (Cell N) → Type 0 = λ zs. AreWithin vs ss zs in
    subst P (reverse-reverse xs) (AreWithin-reverse vs ss (reverse xs) p)

pub first_within : {N : Type 0} (vs ss : ℕ) (m : Cell N) (xs : List (Cell N)) → IsWithin vs ss m → AreWithin vs ss xs → IsWithin vs ss (first_or m xs)
first_within vs ss m [] h p = h
first_within vs ss m (x ∷ xs) h p = p.0

pub rest_within : {N : Type 0} (vs ss : ℕ) (xs : List (Cell N)) → AreWithin vs ss xs → AreWithin vs ss (but_first xs)
rest_within vs ss [] p = tt
rest_within vs ss (x ∷ xs) p = p.1

pub firsts_within : {N : Type 0} (vs ss : ℕ) (m : Cell N) (n : ℕ) (xs : List (Cell N)) → IsWithin vs ss m → AreWithin vs ss xs → AreWithin vs ss (firsts m n xs)
firsts_within vs ss m zero xs h p = tt
firsts_within vs ss m (suc n) xs h p = (first_within vs ss m xs h p, firsts_within vs ss m n (but_first xs) h (rest_within vs ss xs p))

pub others_within : {N : Type 0} (vs ss n : ℕ) (xs : List (Cell N)) → AreWithin vs ss xs → AreWithin vs ss (others n xs)
others_within vs ss zero xs p = p
others_within vs ss (suc n) xs p = others_within vs ss n (but_first xs) (rest_within vs ss xs p)

-- `firsts m n` gives `n` elements
pub length-firsts : {A : Type 0} (m : A) (n : ℕ) (xs : List A) → length (firsts m n xs) ≡ n
length-firsts m zero xs = refl
length-firsts m (suc n) xs = ap suc (length-firsts m n (but_first xs))

-- the first `n` cells of a stack are of its store
pub top_within : {N : Type 0} (h : Held N) (m : Cell N) (n : ℕ) (stack : List (Cell N)) → AreIn h stack → IsIn h m → AreIn h (firsts m n (reverse stack))
top_within h m n stack inside there = firsts_within h.variables (length h.structures) m n (reverse stack) there (AreWithin-reverse h.variables (length h.structures) stack inside)

firsts_all : {A : Type 0} (m : A) (n : ℕ) (xs ys : List A) → length xs ≡ n → firsts m n (xs ++ ys) ≡ xs
firsts_all m zero [] ys e = refl
firsts_all m zero (x ∷ xs) ys e = absurd (omega (arith, e))
firsts_all m (suc n) [] ys e = absurd (omega (arith, e))
firsts_all m (suc n) (x ∷ xs) ys e = ap (λ l. x ∷ l) (firsts_all m n xs ys (omega (arith, e)))

others_all : {A : Type 0} (n : ℕ) (xs ys : List A) → length xs ≡ n → others n (xs ++ ys) ≡ ys
others_all zero [] ys e = refl
others_all zero (x ∷ xs) ys e = absurd (omega (arith, e))
others_all (suc n) [] ys e = absurd (omega (arith, e))
others_all (suc n) (x ∷ xs) ys e = others_all n xs ys (omega (arith, e))

-- the top `n` elements of a stack, if `from` are below them
pub top_reversed : {A : Type 0} (m : A) (n from : ℕ) (stack : List A) → from + n ≡ length stack → (reverse (drop from stack) ≡ firsts m n (reverse stack)) × (reverse (take from stack) ≡ others n (reverse stack))
top_reversed m n from stack e =
    let whole : reverse stack ≡ reverse (drop from stack) ++ reverse (take from stack) = ap reverse (sym (take-append-drop from stack)) ∙ reverse-append (take from stack) (drop from stack) in
    let many : length (reverse (drop from stack)) ≡ n = omega (arith, e, length-reverse (drop from stack), length-drop from stack) in (
      sym (ap (firsts m n) whole ∙ firsts_all m n (reverse (drop from stack)) (reverse (take from stack)) many),
      sym (ap (others n) whole ∙ others_all n (reverse (drop from stack)) (reverse (take from stack)) many),
    )

-- one more from the end of a list
pub one_reversed : {A : Type 0} (before : List A) (xs : List A) (k : ℕ) (x : A) → k < length xs → x ≡ get_or xs k x → (before ++ x ∷ []) ++ reverse (take k xs) ≡ before ++ reverse (take (suc k) xs)
one_reversed before xs k x lt e =
    append_assoc before (x ∷ []) (reverse (take k xs))
    ∙ ap (λ l. before ++ l) (
    ap (λ y. y ∷ reverse (take k xs)) e
    ∙ sym (reverse-append (take k xs) (get_or xs k x ∷ []))
    ∙ ap reverse (sym (take-suc xs k x lt))
    )
