-- The shared table at its start, and seats cut off.
use Rattle.std.proofs.Common.{◌≡◌, ◌≢◌, ℕ, zero, suc, ◌+◌, ◌-◌, ◌*◌, ◌<◌, ◌≤◌, ◌⊎◌, List, [], ◌∷◌, ◌++◌, length, take, drop, replicate, slice_index, slice_set, refl, sym, ap, ◌∙◌, subst, inl, inr, arith}
use mathlib.Core.Option.{some, some-injective, some-ne-none}
use lib.ListN.{get_elem?}
use Rattle.std.proofs.lemmas.Bool.{cases_order}
use Rattle.atomic_table.specs.Table.{opening, Splits}
use Rattle.atomic_table.proofs.Lists.{at_set}
use Rattle.kl1_atoms.specs.Rule.{words_each, Overlap}
use Rattle.kl1_atoms.specs.declared.face.Face.{Face}
use Rattle.kl1_atoms.specs.declared.face.Size.{Size}
use Rattle.kl1_atoms.specs.declared.face.View.{View}
use Rattle.kl1_atoms.specs.Rule.{Fits, Mine, Kept}
use Rattle.kl1_atoms.specs.Seats.{new_face, faces_from, all_faces, own_part, other_part}

one_more : (a r k : ℕ) → a + r + k * r ≡ a + suc k * r
one_more a r k = omega arith

-- the face at a place of the first view
face_at : (n r a count k : ℕ) (f : Face) → get_elem? (faces_from n r a count) k ≡ some f → (f ≡ new_face n r (a + k * r)) × (k < count)
face_at n r a zero k f e = absurd (some-ne-none f (sym e))
face_at n r a (suc count) zero f e = (sym (some-injective (new_face n r a) f e) ∙ ap (new_face n r) (let z : a ≡ a + zero * r = omega arith in z), omega arith)
face_at n r a (suc count) (suc k) f e =
    let q = face_at n r (a + r) count k f e in
    (q.0 ∙ ap (new_face n r) (one_more a r k), (let h = q.1 in omega arith))

-- the only view is the first
only_view : (v w : View) (id : ℕ) → get_elem? (v ∷ []) id ≡ some w → (id ≡ 0) × (v ≡ w)
only_view v w zero e = (refl, some-injective v w e)
only_view v w (suc id) e = absurd (some-ne-none w (sym e))

-- an account's entries end where those of a later one begin, or before
ends_before : (r k l : ℕ) → k < l → k * r + r ≤ l * r
ends_before r k l lt =
    let e : l ≡ suc k + (l - suc k) = omega (arith, lt) in
    subst (λ m. k * r + r ≤ m * r) (sym e) (omega arith)

-- so two accounts that have an entry in common are one
one_account : (n r k l p q : ℕ) → p ≡ k * r → q ≡ l * r → Overlap (new_face n r (0 + p)) (new_face n r (0 + q)) → k ≡ l
one_account n r k l p q is its o = elim (cases_order k l) [
  | inl same ↦ same
  | inr other ↦ elim other [
    | inl before ↦ let e : p + r ≤ q = rw (is, its) (ends_before r k l before) in absurd (let b = o.1 in omega arith)
    | inr after ↦ let e : q + r ≤ p = rw (is, its) (ends_before r l k after) in absurd (let a = o.0 in omega arith)
  ]
]

-- words of zeros keep the rule, with one seat that speaks for all accounts
pub kept_first : (s : Size) (ws : List ℕ) → s.entries ≡ s.accounts * s.room → length ws ≡ words_each * s.entries → ((i : ℕ) → slice_index ws i ≡ 0) → Kept s.entries (opening ws [] (all_faces s))
kept_first s ws count size zeros = record {
  sound = record {
    size = size;
    stands = λ i e h points. let z = zeros i in absurd (omega arith);
    once = λ i j e h l points point. let z = zeros i in absurd (omega arith);
  };
  fits = λ id k f mine.
      let n = s.entries in
      let o = only_view (all_faces s) mine.0 id mine.1 in
      let q = face_at n s.room 0 s.accounts k f (subst (λ (v : View). get_elem? v.faces k ≡ some f) (sym o.1) mine.2) in
      subst (λ (g : Face). Fits n ws g) (sym q.0) (new_fits n s.room (k * s.room) ws (rw count (ends_before s.room k s.accounts q.1)) zeros);
  apart = λ id other k l f g mine its e.
      let n = s.entries in
      let o = only_view (all_faces s) mine.0 id mine.1 in
      let p = only_view (all_faces s) its.0 other its.1 in
      let a = face_at n s.room 0 s.accounts k f (subst (λ (v : View). get_elem? v.faces k ≡ some f) (sym o.1) mine.2) in
      let b = face_at n s.room 0 s.accounts l g (subst (λ (v : View). get_elem? v.faces l ≡ some g) (sym p.1) its.2) in
      let O : Face → Type 0 = λ x. Overlap x (new_face n s.room (0 + l * s.room)) in
      let P : Face → Type 0 = λ x. Overlap f x in
      (o.0 ∙ sym p.0, one_account n s.room k l (k * s.room) (l * s.room) refl refl (subst O a.0 (subst P b.0 e)));
}
  where
    new_fits : (n r p : ℕ) (ws : List ℕ) → p + r ≤ n → ((i : ℕ) → slice_index ws i ≡ 0) → Fits n ws (new_face n r (0 + p))
    new_fits n r p ws le zeros = record {
      entries = refl;
      range = omega (arith, le);
      used_up = omega arith;
      free = λ j low high i h points. let z = zeros i in absurd (omega arith);
      known = record { by_text = λ t m e. cc; by_number = λ t m e. cc };
      heard = tt;
      drafted = λ l h. absurd (omega arith);
    }

-- an element of a list with one more after it
at_end : {A : Type 0} (l : List A) (a b : A) (j : ℕ) → get_elem? (l ++ a ∷ []) j ≡ some b → (get_elem? l j ≡ some b) ⊎ ((j ≡ length l) × (a ≡ b))
at_end [] a b zero e = inr (refl, some-injective a b e)
at_end [] a b (suc j) e = absurd (some-ne-none b (sym e))
at_end (x ∷ xs) a b zero e = inl e
at_end (x ∷ xs) a b (suc j) e = elim (at_end xs a b j e) [ inl was ↦ inl was | inr is ↦ inr (ap suc is.0, is.1) ]

-- the first of some faces, and one of the others
first_part : (fs : List Face) (k : ℕ) (f : Face) → get_elem? (take 1 fs) k ≡ some f → (k ≡ 0) × (get_elem? fs 0 ≡ some f)
first_part [] k f e = absurd (some-ne-none f (sym e))
first_part (x ∷ fs) zero f e = (refl, e)
first_part (x ∷ fs) (suc k) f e = absurd (some-ne-none f (sym e))

later_part : (fs : List Face) (k : ℕ) (f : Face) → get_elem? (drop 1 fs) k ≡ some f → get_elem? fs (suc k) ≡ some f
later_part [] k f e = absurd (some-ne-none f (sym e))
later_part (x ∷ fs) k f e = e

-- where a face stood before a seat was cut off
data Was (views : List View) (id last j k : ℕ) (f : Face) : Type 0 where
  stays : (j ≡ id) → (k ≡ 0) → Mine views id 0 f → Was views id last j k f
  moves : (j ≡ last) → Mine views id (suc k) f → Was views id last j k f
  apart_from : (j ≢ id) → Mine views j k f → Was views id last j k f

was_mine : (views : List View) (id j k : ℕ) (v : View) (f : Face) → get_elem? views id ≡ some v → Mine (slice_set views id (own_part v) ++ other_part v ∷ []) j k f → Was views id (length (slice_set views id (own_part v))) j k f
was_mine views id j k v f at mine = elim (at_end (slice_set views id (own_part v)) (other_part v) mine.0 j mine.1) [
  | inl before ↦ elim (at_set views id j (own_part v) mine.0 before) [
    | inl here ↦
        let p = first_part v.faces k f (subst (λ (w : View). get_elem? w.faces k ≡ some f) (sym here.1) mine.2) in
        stays here.0 p.0 (v, at, p.1)
    | inr there ↦ apart_from there.0 (mine.0, there.1, mine.2)
  ]
  | inr new ↦ moves new.0 (v, at, later_part v.faces k f (subst (λ (w : View). get_elem? w.faces k ≡ some f) (sym new.1) mine.2))
]

-- a seat that is cut in two keeps the rule
pub splits : (n id : ℕ) (v : View) → Splits {S = Unit {0}} {V = View} (Kept n) id v (own_part v) (other_part v)
splits n id v s kept at = record {
  sound = kept.sound;
  fits = λ j k f mine. elim (was_mine s.views id j k v f at mine) [
    | stays same z old ↦ kept.fits id 0 f old
    | moves last old ↦ kept.fits id (suc k) f old
    | apart_from other old ↦ kept.fits j k f old
  ];
  apart = λ i j k l f g mine its e. elim (was_mine s.views id i k v f at mine) [
    | stays same z old ↦ elim (was_mine s.views id j l v g at its) [
      | stays same2 z2 old2 ↦ (same ∙ sym same2, z ∙ sym z2)
      | moves last old2 ↦ let p = kept.apart id id 0 (suc l) f g old old2 e in absurd (let q = p.1 in omega arith)
      | apart_from other old2 ↦ let p = kept.apart id j 0 l f g old old2 e in absurd (other (sym p.0))
    ]
    | moves last old ↦ elim (was_mine s.views id j l v g at its) [
      | stays same z old2 ↦ let p = kept.apart id id (suc k) 0 f g old old2 e in absurd (let q = p.1 in omega arith)
      | moves last2 old2 ↦ let p = kept.apart id id (suc k) (suc l) f g old old2 e in (last ∙ sym last2, (let q = p.1 in omega arith))
      | apart_from other old2 ↦ let p = kept.apart id j (suc k) l f g old old2 e in absurd (other (sym p.0))
    ]
    | apart_from other old ↦ elim (was_mine s.views id j l v g at its) [
      | stays same z old2 ↦ let p = kept.apart i id k 0 f g old old2 e in absurd (other p.0)
      | moves last old2 ↦ let p = kept.apart i id k (suc l) f g old old2 e in absurd (other p.0)
      | apart_from other2 old2 ↦ kept.apart i j k l f g old old2 e
    ]
  ];
}

-- a seat cut off from the faces that are left
pub part_from : (n r first c a : ℕ) → a < c → (own_part record { faces = faces_from n r first (c - a) } ≡ record { faces = new_face n r first ∷ [] }) × (other_part record { faces = faces_from n r first (c - a) } ≡ record { faces = faces_from n r (first + r) (c - (a + 1)) })
part_from n r first c a h = let e : c - a ≡ suc (c - (a + 1)) = omega arith in rw e (refl, refl)

-- the entries of those that are left are the table's
pub range_step : (n r first c a : ℕ) → a < c → first + (c - a) * r ≤ n → (first + r ≤ n) × (first + r + (c - (a + 1)) * r ≤ n)
range_step n r first c a h le =
    let e : c - a ≡ suc (c - (a + 1)) = omega arith in
    let k : first + suc (c - (a + 1)) * r ≤ n = rw e at le in
    both first r ((c - (a + 1)) * r) n (omega (arith, k))
  where
    both : (first r p n : ℕ) → first + (r + p) ≤ n → (first + r ≤ n) × (first + r + p ≤ n)
    both first r p n le = (omega (arith, le), omega (arith, le))

-- words of zeros
pub zeros-length : (n : ℕ) → length {A = ℕ} (replicate n 0) ≡ n
zeros-length zero = refl
zeros-length (suc n) = ap suc (zeros-length n)

pub zeros-index : (n i : ℕ) → slice_index (replicate n 0) i ≡ 0
zeros-index zero i = refl
zeros-index (suc n) zero = refl
zeros-index (suc n) (suc i) = zeros-index n i
