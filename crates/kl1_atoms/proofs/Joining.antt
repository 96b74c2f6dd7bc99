-- Two seats made one.
use Rattle.std.proofs.Common.{◌≡◌, ◌≢◌, ℕ, zero, suc, ◌+◌, ◌<◌, ◌⊎◌, List, [], ◌∷◌, ◌++◌, length, slice_set, sym, ap, ◌∙◌, subst, inl, inr, arith}
use mathlib.Core.Option.{some, some-ne-none}
use lib.ListN.{get_elem?}
use Rattle.atomic_table.specs.Table.{Joins}
use Rattle.atomic_table.proofs.Lists.{at_set}
use Rattle.kl1_atoms.specs.declared.face.Face.{Face}
use Rattle.kl1_atoms.specs.declared.face.View.{View}
use Rattle.kl1_atoms.specs.Rule.{Mine, Kept}
use Rattle.kl1_atoms.specs.Seats.{joint_view, spent_view}

-- an element of two lists, one after the other
in_either : (fs gs : List Face) (k : ℕ) (f : Face) → get_elem? (fs ++ gs) k ≡ some f → ((k < length fs) × (get_elem? fs k ≡ some f)) ⊎ ((l : ℕ) × (k ≡ length fs + l) × (get_elem? gs l ≡ some f))
in_either [] gs k f e = inr (k, (let z : k ≡ 0 + k = omega arith in z), e)
in_either (x ∷ fs) gs zero f e = inl (omega arith, e)
in_either (x ∷ fs) gs (suc k) f e = elim (in_either fs gs k f e) [
  | inl front ↦ inl ((let h = front.0 in omega arith), front.1)
  | inr back ↦ inr (back.0, (let h = back.1 in omega arith), back.2)
]

-- where a face stood before two seats were made one
data Was (views : List View) (id other size j k : ℕ) (f : Face) : Type 0 where
  stays : (j ≡ id) → (k < size) → Mine views id k f → Was views id other size j k f
  moves : (l : ℕ) → (j ≡ id) → (k ≡ size + l) → Mine views other l f → Was views id other size j k f
  apart_from : (j ≢ id) → (j ≢ other) → Mine views j k f → Was views id other size j k f

was_mine : (views : List View) (id other j k : ℕ) (v w : View) (f : Face) → get_elem? views id ≡ some v → get_elem? views other ≡ some w
    → Mine (slice_set (slice_set views id (joint_view v w)) other spent_view) j k f → Was views id other (length v.faces) j k f
was_mine views id other j k v w f at there mine = elim (at_set (slice_set views id (joint_view v w)) other j spent_view mine.0 mine.1) [
  | inl spent ↦ absurd (some-ne-none f (sym (subst (λ (u : View). get_elem? u.faces k ≡ some f) (sym spent.1) mine.2)))
  | inr lives ↦ elim (at_set views id j (joint_view v w) mine.0 lives.1) [
    | inl joint ↦ elim (in_either v.faces w.faces k f (subst (λ (u : View). get_elem? u.faces k ≡ some f) (sym joint.1) mine.2)) [
      | inl front ↦ stays joint.0 front.0 (v, at, front.1)
      | inr back ↦ moves back.0 joint.0 back.1 (w, there, back.2)
    ]
    | inr else ↦ apart_from else.0 lives.0 (mine.0, else.1, mine.2)
  ]
]

-- the other seat's view, before the join
other_view : (views : List View) (id other : ℕ) (both w : View) → ¬ (other ≡ id) → get_elem? (slice_set views id both) other ≡ some w → get_elem? views other ≡ some w
other_view views id other both w differ e = elim (at_set views id other both w e) [ inl same ↦ absurd (differ same.0) | inr there ↦ there.1 ]

-- two seats that are made one keep the rule
pub joins : (n id other : ℕ) (v w : View) → Joins {S = Unit {0}} {V = View} (Kept n) id v other w (joint_view v w) spent_view
joins n id other v w s kept at differ e =
    let there = other_view s.views id other (joint_view v w) w differ e in
    record {
      sound = kept.sound;
      fits = λ j k f mine. elim (was_mine s.views id other j k v w f at there mine) [
        | stays same less old ↦ kept.fits id k f old
        | moves l same far old ↦ kept.fits other l f old
        | apart_from one two old ↦ kept.fits j k f old
      ];
      apart = λ i j k l f g mine its same. elim (was_mine s.views id other i k v w f at there mine) [
        | stays here less old ↦ elim (was_mine s.views id other j l v w g at there its) [
          | stays here2 less2 old2 ↦ (here ∙ sym here2, (kept.apart id id k l f g old old2 same).1)
          | moves m here2 far2 old2 ↦ absurd (differ (sym (kept.apart id other k m f g old old2 same).0))
          | apart_from one2 two2 old2 ↦ absurd (one2 (sym (kept.apart id j k l f g old old2 same).0))
        ]
        | moves m here far old ↦ elim (was_mine s.views id other j l v w g at there its) [
          | stays here2 less2 old2 ↦ absurd (differ (kept.apart other id m l f g old old2 same).0)
          | moves m2 here2 far2 old2 ↦ let p = kept.apart other other m m2 f g old old2 same in (here ∙ sym here2, far ∙ ap (λ x. length v.faces + x) p.1 ∙ sym far2)
          | apart_from one2 two2 old2 ↦ absurd (two2 (sym (kept.apart other j m l f g old old2 same).0))
        ]
        | apart_from one two old ↦ elim (was_mine s.views id other j l v w g at there its) [
          | stays here2 less2 old2 ↦ absurd (one (kept.apart i id k l f g old old2 same).0)
          | moves m here2 far2 old2 ↦ absurd (two (kept.apart i other k m f g old old2 same).0)
          | apart_from one2 two2 old2 ↦ kept.apart i j k l f g old old2 same
        ]
      ];
    }
