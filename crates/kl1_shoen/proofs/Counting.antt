-- Counts of living children.
use Rattle.std.proofs.Common.{◌≡◌, ℕ, zero, suc, ◌+◌, ◌<◌, ◌≤◌, Bool, true, false, ◌==◌, ◌&&◌, ◌||◌, if◌then◌else◌, List, [], ◌∷◌, ◌++◌, length, get_or, set, count_by, sum_by, refl, sym, ap, ◌∙◌, arith, subst}
use Rattle.std.specs.Prelude.{cond}
use Rattle.std.specs.List.{list_any}
use Rattle.std.proofs.lemmas.List.{set-get_or}
use Rattle.std.proofs.lemmas.List.Sums.{sum_by-cons, sum_by-set, count_by-le-length}
use Rattle.kl1_model.specs.declared.life.Life.TheVariants.{Aborted}
use Rattle.kl1_model.specs.laws.TreeLaws.{ParentsAreLower}
use Rattle.kl1_shoen_paths.specs.declared.shoen.Shoen.{Shoen}
use Rattle.kl1_shoen.specs.Shoens.{AreCounted, counted_under, is_living_child_of}
use Rattle.kl1_shoen_paths.proofs.Paths.{parent_few}
use Rattle.kl1_shoen_paths.proofs.Charges.{length_set}
use Rattle.kl1_shoen.proofs.Charges.{length_more, zero_more, lower_open, get_beyond}
use Rattle.kl1_shoen.proofs.Changing.{parents_put}

-- nobody is counted if there are no shoens
pub counted_none : {N : Type 0} (ss : List (Shoen N)) (cs : List ℕ) → ss ≡ [] → cs ≡ [] → AreCounted ss cs
counted_none {N = N} ss cs e f =
    let none : List (Shoen N) = [] in
    let start : AreCounted none [] = record { lower = λ k. omega arith; count = refl; counted = λ n. refl } in
    subst (λ (xs : List (Shoen N)). AreCounted xs cs) (sym e) (subst (λ ys. AreCounted none ys) (sym f) start)

count_after : {A : Type 0} (p : A → Bool) (xs : List A) (x : A) → count_by p (xs ++ x ∷ []) ≡ count_by p xs + cond (p x) 1 0
count_after p [] x = sum_by-cons (λ y. cond (p y) 1 0) x [] ∙ omega arith
count_after p (y ∷ xs) x =
    let e = sum_by-cons (λ z. cond (p z) 1 0) y (xs ++ x ∷ []) in
    let f = sum_by-cons (λ z. cond (p z) 1 0) y xs in
    let g = count_after p xs x in
    omega (arith, e, f, g)

dead_uncounted : (b : Bool) → ◌≡◌ {A = ℕ} (if b && false then 1 else 0) 0
dead_uncounted true = refl
dead_uncounted false = refl

-- a shoen that is opened counts for its parent, if it lives
pub counted_open : {N : Type 0} (ss : List (Shoen N)) (cs ds : List ℕ) (s : Shoen N) → AreCounted ss cs → s.parent ≤ length ss → length ds ≡ length (cs ++ 0 ∷ []) →
    ((n : ℕ) → get_or ds n 0 + counted_under n s.parent Aborted ≡ get_or (cs ++ 0 ∷ []) n 0 + counted_under n s.parent s.life) → AreCounted (ss ++ s ∷ []) ds
counted_open ss cs ds s a few len e = record {
  lower = lower_open ss s a.lower few;
  count = len ∙ length_more cs 0 ∙ ap suc a.count ∙ sym (length_more ss s);
  counted = λ n.
      let c = e n in
      let d = dead_uncounted (s.parent == n) in
      let z = zero_more cs n in
      let o = a.counted n in
      let m = count_after (is_living_child_of n) ss s in
      omega (arith, c, d, z, o, m);
}

-- a shoen in place of another of the same parent counts for it as its life is
pub counted_put : {N : Type 0} (ss : List (Shoen N)) (cs ds : List ℕ) (i : ℕ) (x s : Shoen N) → AreCounted ss cs → i < length ss → x ≡ get_or ss i x → s.parent ≡ x.parent → length ds ≡ length cs →
    ((n : ℕ) → get_or ds n 0 + counted_under n x.parent x.life ≡ get_or cs n 0 + counted_under n x.parent s.life) → AreCounted (set ss i s) ds
counted_put {N = N} ss cs ds i x s a lt is p len e = record {
  lower = subst ParentsAreLower (sym (parents_put i ss x s lt is p)) a.lower;
  count = len ∙ a.count ∙ sym (length_set ss i s);
  counted = λ n.
      let c = e n in
      let o = a.counted n in
      let m = sum_by-set (λ (h : Shoen N). cond (is_living_child_of n h) 1 0) ss i s x lt in
      let q = ap (λ (h : Shoen N). counted_under n h.parent h.life) is in
      let r = ap (λ (k : ℕ). counted_under n k s.life) p in
      omega (arith, c, o, m, q, r);
}

sum_at : {A : Type 0} (f : A → ℕ) (xs : List A) (i : ℕ) (x : A) → i < length xs → x ≡ get_or xs i x → f x ≤ sum_by f xs
sum_at f [] i x lt e = absurd (omega (arith, lt))
sum_at f (y ∷ xs) zero x lt e = let s = sum_by-cons f y xs in let g = ap f e in omega (arith, s, g)
sum_at f (y ∷ xs) (suc i) x lt e = let s = sum_by-cons f y xs in let g = sum_at f xs i x (omega (arith, lt)) e in omega (arith, s, g)

-- a count is at most that of the shoens
pub counted_few : {N : Type 0} (ss : List (Shoen N)) (cs : List ℕ) (n : ℕ) → AreCounted ss cs → get_or cs n 0 ≤ length cs
counted_few ss cs n a =
    let o = a.counted n in
    let l = count_by-le-length (is_living_child_of n) ss in
    omega (arith, o, l, a.count)

-- and one that lives is counted
pub counted_some : {N : Type 0} (ss : List (Shoen N)) (cs : List ℕ) (i : ℕ) (x : Shoen N) → AreCounted ss cs → i < length ss → x ≡ get_or ss i x → counted_under x.parent x.parent x.life ≤ get_or cs x.parent 0
counted_some {N = N} ss cs i x a lt is =
    let o = a.counted x.parent in
    let m = sum_at (λ (h : Shoen N). cond (is_living_child_of x.parent h) 1 0) ss i x lt is in
    omega (arith, o, m)

pub count_none : {A : Type 0} (p : A → Bool) (xs : List A) → count_by p xs ≡ 0 → list_any p xs ≡ false
count_none p [] e = refl
count_none p (x ∷ xs) e = by_case (p x) (count_by p xs) (list_any p xs) (sym (sum_by-cons (λ z. cond (p z) 1 0) x xs) ∙ e) (count_none p xs)
  where
    by_case : (b : Bool) (n : ℕ) (c : Bool) → cond b 1 0 + n ≡ 0 → (n ≡ 0 → c ≡ false) → (b || c) ≡ false
    by_case true n c e f = absurd (omega (arith, e))
    by_case false n c e f = f (omega (arith, e))

pub count_some : {A : Type 0} (p : A → Bool) (xs : List A) → 0 < count_by p xs → list_any p xs ≡ true
count_some p [] lt = absurd (omega (arith, lt))
count_some p (x ∷ xs) lt = by_case (p x) (count_by p xs) (list_any p xs) (let s = sum_by-cons (λ z. cond (p z) 1 0) x xs in omega (arith, s, lt)) (count_some p xs)
  where
    by_case : (b : Bool) (n : ℕ) (c : Bool) → 0 < cond b 1 0 + n → (0 < n → c ≡ true) → (b || c) ≡ true
    by_case true n c l f = refl
    by_case false n c l f = f (omega (arith, l))

-- if none is counted, no child lives
pub any_none : {N : Type 0} (ss : List (Shoen N)) (cs : List ℕ) (n : ℕ) → AreCounted ss cs → get_or cs n 0 ≡ 0 → false ≡ list_any (is_living_child_of n) ss
any_none ss cs n a e = sym (count_none (is_living_child_of n) ss (sym (a.counted n) ∙ e))

-- nor has a number a child that no shoen has as its parent's
pub any_beyond : {N : Type 0} (ss : List (Shoen N)) (cs : List ℕ) (n : ℕ) → AreCounted ss cs → length cs ≤ n → false ≡ list_any (is_living_child_of n) ss
any_beyond ss cs n a le = any_none ss cs n a (get_beyond cs n le)

-- if one is counted, a child lives
pub any_some : {N : Type 0} (ss : List (Shoen N)) (cs : List ℕ) (n : ℕ) → AreCounted ss cs → 0 < get_or cs n 0 → true ≡ list_any (is_living_child_of n) ss
any_some ss cs n a lt = sym (count_some (is_living_child_of n) ss (let e = a.counted n in omega (arith, e, lt)))

get_any : {A : Type 0} (xs : List A) (i : ℕ) (a b : A) → i < length xs → get_or xs i a ≡ get_or xs i b
get_any [] i a b lt = absurd (omega (arith, lt))
get_any (x ∷ xs) zero a b lt = refl
get_any (x ∷ xs) (suc i) a b lt = get_any xs i a b (omega (arith, lt))

-- what stands at a place, whatever stands for nothing
pub got_any : {A : Type 0} (xs : List A) (i : ℕ) (x y : A) → i < length xs → x ≡ get_or xs i x → get_or xs i y ≡ x
got_any xs i x y lt is = get_any xs i y x lt ∙ sym is

-- what is put where it stands changes nothing
pub put_itself : {A : Type 0} (xs : List A) (i : ℕ) (x : A) → x ≡ get_or xs i x → xs ≡ set xs i x
put_itself xs i x is = sym (ap (set xs i) is ∙ set-get_or xs i x)

-- the parent of a shoen at a place has a count
pub parent_counted : {N : Type 0} (ss : List (Shoen N)) (cs : List ℕ) (i : ℕ) (x : Shoen N) → AreCounted ss cs → i < length ss → x ≡ get_or ss i x → x.parent < length cs
parent_counted ss cs i x a lt is =
    let l = parent_few ss i x a.lower lt is in
    omega (arith, l, lt, a.count)
