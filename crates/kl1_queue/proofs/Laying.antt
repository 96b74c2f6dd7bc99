-- A set of places over ranks.
use Rattle.std.proofs.Common.{◌≡◌, ◌≢◌, ℕ, zero, suc, ◌+◌, ◌-◌, ◌*◌, ◌%◌, ◌<◌, ◌≤◌, if◌then◌else◌, List, [], ◌∷◌, ◌++◌, length, get_or, set, take, length-append, refl, sym, ◌∙◌, ap, arith, inl, inr}
use Rattle.std.proofs.lemmas.List.{set-get_or, get_or-set_same, get_or-set_other, get_or_past, get_or_append_left, get_or-take, length-set, length-take-le}
use Rattle.std.proofs.lemmas.Bool.{cases_lt, cases_eq, eq-eqb, ne_eqb}
use Rattle.kl1_queue.specs.Bits.{bit_of, IsSetAt, IsClearedAt, IsLeast, IsEmpty}
use Rattle.kl1_queue.proofs.Words.{bit_zero}
use Rattle.kl1_queue.specs.Ranks.{Queued, IsFirst}
use Rattle.kl1_queue.specs.Over.{overlay, IsOver, IsWide}

-- lists with the same elements
pub same_list : (xs ys : List ℕ) → length xs ≡ length ys → ((j : ℕ) → get_or xs j 0 ≡ get_or ys j 0) → xs ≡ ys
same_list [] [] n e = refl
same_list [] (y ∷ ys) n e = absurd (omega (arith, n))
same_list (x ∷ xs) [] n e = absurd (omega (arith, n))
same_list (x ∷ xs) (y ∷ ys) n e = let here : x ≡ y = e 0 in let rest = same_list xs ys (omega (arith, n)) (λ j. e (suc j)) in cc

pub length_over : (rank : ℕ) (ws : List ℕ) (k : ℕ) (rs : List ℕ) → length (overlay rank ws k rs) ≡ length rs
length_over rank ws k [] = refl
length_over rank ws k (r ∷ rs) = ap suc (length_over rank ws (suc k) rs)

set_from : (rank : ℕ) (ws : List ℕ) (k : ℕ) (rs : List ℕ) (j : ℕ) → j < length rs → bit_of ws (k + j) ≡ 1 → get_or (overlay rank ws k rs) j 0 ≡ rank
set_from rank ws k [] j w e = absurd (omega (arith, w))
set_from rank ws k (r ∷ rs) zero w e = let z : k + 0 ≡ k = omega arith in let f : bit_of ws k ≡ 1 = rw z at e in ap (λ b. if b then rank else r) (eq-eqb (bit_of ws k) 1 f)
set_from rank ws k (r ∷ rs) (suc j) w e = let f : suc k + j ≡ k + suc j = omega arith in set_from rank ws (suc k) rs j (omega (arith, w)) (rw f e)

clear_from : (rank : ℕ) (ws : List ℕ) (k : ℕ) (rs : List ℕ) (j : ℕ) → (bit_of ws (k + j) ≡ 1 → ⊥) → get_or (overlay rank ws k rs) j 0 ≡ get_or rs j 0
clear_from rank ws k [] j e = refl
clear_from rank ws k (r ∷ rs) zero e = let z : k + 0 ≡ k = omega arith in let f : (bit_of ws k ≡ 1 → ⊥) = rw z at e in ap (λ b. if b then rank else r) (ne_eqb (bit_of ws k) 1 f)
clear_from rank ws k (r ∷ rs) (suc j) e = let f : suc k + j ≡ k + suc j = omega arith in clear_from rank ws (suc k) rs j (rw f e)

pub over_set : (rank : ℕ) (ws rs : List ℕ) (j : ℕ) → IsOver rank ws rs → bit_of ws j ≡ 1 → get_or (overlay rank ws 0 rs) j 0 ≡ rank
over_set rank ws rs j o e = let f : 0 + j ≡ j = omega arith in set_from rank ws 0 rs j (o.within j e) (rw f e)

pub over_clear : (rank : ℕ) (ws rs : List ℕ) (j : ℕ) → (bit_of ws j ≡ 1 → ⊥) → get_or (overlay rank ws 0 rs) j 0 ≡ get_or rs j 0
over_clear rank ws rs j e = let f : 0 + j ≡ j = omega arith in clear_from rank ws 0 rs j (rw f e)

-- two sets over ranks that come to the same ranks
pub over_same : (rank rank' : ℕ) (ws ws' rs rs' : List ℕ) → length rs ≡ length rs' → IsOver rank ws rs → IsOver rank' ws' rs' → ((j : ℕ) → get_or (overlay rank ws 0 rs) j 0 ≡ get_or (overlay rank' ws' 0 rs') j 0) → overlay rank ws 0 rs ≡ overlay rank' ws' 0 rs'
over_same rank rank' ws ws' rs rs' n o p e = same_list (overlay rank ws 0 rs) (overlay rank' ws' 0 rs') (length_over rank ws 0 rs ∙ n ∙ sym (length_over rank' ws' 0 rs')) e

-- a place is put into the set
pub inserted_over : (rank : ℕ) (ws ws' rs : List ℕ) (k : ℕ) → IsOver rank ws rs → k < length rs → 0 < rank → IsSetAt ws ws' k → IsOver rank ws' (set rs k 0)
inserted_over rank ws ws' rs k o w p s = record {
  beside = λ j e. elim (cases_eq j k) [
    | inl f ↦ rw f (get_or-set_same rs k 0 0 w)
    | inr f ↦ get_or-set_other rs k j 0 0 f ∙ o.beside j (sym (s.others j f) ∙ e)
  ];
  within = λ j e. elim (cases_eq j k) [
    | inl f ↦ omega (arith, f, w, length-set rs k 0)
    | inr f ↦ omega (arith, o.within j (sym (s.others j f) ∙ e), length-set rs k 0)
  ];
  some = λ j e. p;
}

pub inserted_ranks : (rank : ℕ) (ws ws' rs : List ℕ) (k : ℕ) → IsOver rank ws rs → k < length rs → 0 < rank → IsSetAt ws ws' k → overlay rank ws' 0 (set rs k 0) ≡ set (overlay rank ws 0 rs) k rank
inserted_ranks rank ws ws' rs k o w p s =
    let q = inserted_over rank ws ws' rs k o w p s in
    let size : length (overlay rank ws' 0 (set rs k 0)) ≡ length (set (overlay rank ws 0 rs) k rank) = omega (arith, length_over rank ws' 0 (set rs k 0), length-set rs k 0, length-set (overlay rank ws 0 rs) k rank, length_over rank ws 0 rs) in
    same_list (overlay rank ws' 0 (set rs k 0)) (set (overlay rank ws 0 rs) k rank) size (λ j. elim (cases_eq j k) [
      | inl f ↦ rw f (over_set rank ws' (set rs k 0) k q s.here ∙ sym (get_or-set_same (overlay rank ws 0 rs) k rank 0 (omega (arith, w, length_over rank ws 0 rs))))
      | inr f ↦ elim (cases_eq (bit_of ws j) 1) [
        | inl b ↦ over_set rank ws' (set rs k 0) j q (s.others j f ∙ b) ∙ (sym (over_set rank ws rs j o b) ∙ sym (get_or-set_other (overlay rank ws 0 rs) k j rank 0 f))
        | inr b ↦ over_clear rank ws' (set rs k 0) j (λ e. b (sym (s.others j f) ∙ e)) ∙ (get_or-set_other rs k j 0 0 f ∙ (sym (over_clear rank ws rs j b) ∙ sym (get_or-set_other (overlay rank ws 0 rs) k j rank 0 f)))
      ]
    ])

-- a place is taken out of the set, and has another rank or none
pub removed_over : (rank : ℕ) (ws ws' rs : List ℕ) (k v : ℕ) → IsOver rank ws rs → IsClearedAt ws ws' k → IsOver rank ws' (set rs k v)
removed_over rank ws ws' rs k v o s =
    let old : (j : ℕ) → bit_of ws' j ≡ 1 → (j ≡ k → ⊥) × (bit_of ws j ≡ 1) = λ j e. elim (cases_eq j k) [
      | inl f ↦ absurd (omega (arith, s.here, rw f at e))
      | inr f ↦ (f, sym (s.others j f) ∙ e)
    ] in
    record {
      beside = λ j e. let p = old j e in get_or-set_other rs k j v 0 p.0 ∙ o.beside j p.1;
      within = λ j e. let p = old j e in omega (arith, o.within j p.1, length-set rs k v);
      some = λ j e. let p = old j e in o.some j p.1;
    }

pub removed_ranks : (rank : ℕ) (ws ws' rs : List ℕ) (k v : ℕ) → IsOver rank ws rs → k < length rs → IsClearedAt ws ws' k → overlay rank ws' 0 (set rs k v) ≡ set (overlay rank ws 0 rs) k v
removed_ranks rank ws ws' rs k v o w s =
    let q = removed_over rank ws ws' rs k v o s in
    let size : length (overlay rank ws' 0 (set rs k v)) ≡ length (set (overlay rank ws 0 rs) k v) = omega (arith, length_over rank ws' 0 (set rs k v), length-set rs k v, length-set (overlay rank ws 0 rs) k v, length_over rank ws 0 rs) in
    same_list (overlay rank ws' 0 (set rs k v)) (set (overlay rank ws 0 rs) k v) size (λ j. elim (cases_eq j k) [
      | inl f ↦ rw f (over_clear rank ws' (set rs k v) k (λ e. omega (arith, s.here, e)) ∙ (get_or-set_same rs k v 0 w ∙ sym (get_or-set_same (overlay rank ws 0 rs) k v 0 (omega (arith, w, length_over rank ws 0 rs)))))
      | inr f ↦ elim (cases_eq (bit_of ws j) 1) [
        | inl b ↦ over_set rank ws' (set rs k v) j q (s.others j f ∙ b) ∙ (sym (over_set rank ws rs j o b) ∙ sym (get_or-set_other (overlay rank ws 0 rs) k j v 0 f))
        | inr b ↦ over_clear rank ws' (set rs k v) j (λ e. b (sym (s.others j f) ∙ e)) ∙ (get_or-set_other rs k j v 0 f ∙ (sym (over_clear rank ws rs j b) ∙ sym (get_or-set_other (overlay rank ws 0 rs) k j v 0 f)))
      ]
    ])

-- an empty set, whatever its rank
pub empty_over : (rank : ℕ) (ws rs : List ℕ) → IsEmpty ws → IsOver rank ws rs
empty_over rank ws rs e = record { beside = λ k f. absurd (omega (arith, f, e k)); within = λ k f. absurd (omega (arith, f, e k)); some = λ k f. absurd (omega (arith, f, e k)) }

pub empty_ranks : (rank : ℕ) (ws rs : List ℕ) → IsEmpty ws → overlay rank ws 0 rs ≡ rs
empty_ranks rank ws rs e = same_list (overlay rank ws 0 rs) rs (length_over rank ws 0 rs) (λ j. over_clear rank ws rs j (λ f. omega (arith, f, e j)))

-- one place more
pub extended_over : (rank : ℕ) (ws rs : List ℕ) → IsOver rank ws rs → IsOver rank ws (rs ++ 0 ∷ [])
extended_over rank ws rs o = record {
  beside = λ k e. get_or_append_left rs (0 ∷ []) 0 k (o.within k e) ∙ o.beside k e;
  within = λ k e. omega (arith, o.within k e, length-append rs (0 ∷ []));
  some = o.some;
}

extended_at : (rs : List ℕ) (j : ℕ) → get_or (rs ++ 0 ∷ []) j 0 ≡ get_or rs j 0
extended_at [] zero = refl
extended_at [] (suc j) = refl
extended_at (r ∷ rs) zero = refl
extended_at (r ∷ rs) (suc j) = extended_at rs j

pub extended_ranks : (rank : ℕ) (ws rs : List ℕ) → IsOver rank ws rs → overlay rank ws 0 (rs ++ 0 ∷ []) ≡ overlay rank ws 0 rs ++ 0 ∷ []
extended_ranks rank ws rs o =
    let q = extended_over rank ws rs o in
    let size : length (overlay rank ws 0 (rs ++ 0 ∷ [])) ≡ length (overlay rank ws 0 rs ++ 0 ∷ []) = omega (arith, length_over rank ws 0 (rs ++ 0 ∷ []), length-append rs (0 ∷ []), length-append (overlay rank ws 0 rs) (0 ∷ []), length_over rank ws 0 rs) in
    same_list (overlay rank ws 0 (rs ++ 0 ∷ [])) (overlay rank ws 0 rs ++ 0 ∷ []) size (λ j. elim (cases_eq (bit_of ws j) 1) [
      | inl b ↦ over_set rank ws (rs ++ 0 ∷ []) j q b ∙ (sym (over_set rank ws rs j o b) ∙ sym (extended_at (overlay rank ws 0 rs) j))
      | inr b ↦ over_clear rank ws (rs ++ 0 ∷ []) j b ∙ (extended_at rs j ∙ (sym (over_clear rank ws rs j b) ∙ sym (extended_at (overlay rank ws 0 rs) j)))
    ])

-- the last place gone
pub dropped_over : (rank : ℕ) (ws ws' rs : List ℕ) (n : ℕ) → IsOver rank ws rs → n + 1 ≡ length rs → IsClearedAt ws ws' n → IsOver rank ws' (take n rs)
dropped_over rank ws ws' rs n o e s =
    let many : length (take n rs) ≡ n = length-take-le n rs (omega (arith, e)) in
    let old : (j : ℕ) → bit_of ws' j ≡ 1 → (j < n) × (bit_of ws j ≡ 1) = λ j b. elim (cases_eq j n) [
      | inl f ↦ absurd (omega (arith, s.here, rw f at b))
      | inr f ↦ let c : bit_of ws j ≡ 1 = sym (s.others j f) ∙ b in (omega (arith, o.within j c, f, e), c)
    ] in
    record {
      beside = λ j b. let p = old j b in get_or-take n rs j 0 p.0 ∙ o.beside j p.1;
      within = λ j b. let p = old j b in omega (arith, p.0, many);
      some = λ j b. let p = old j b in o.some j p.1;
    }

pub dropped_ranks : (rank : ℕ) (ws ws' rs : List ℕ) (n : ℕ) → IsOver rank ws rs → n + 1 ≡ length rs → IsClearedAt ws ws' n → overlay rank ws' 0 (take n rs) ≡ take n (overlay rank ws 0 rs)
dropped_ranks rank ws ws' rs n o e s =
    let q = dropped_over rank ws ws' rs n o e s in
    let many : length (take n rs) ≡ n = length-take-le n rs (omega (arith, e)) in
    let all : length (take n (overlay rank ws 0 rs)) ≡ n = length-take-le n (overlay rank ws 0 rs) (omega (arith, e, length_over rank ws 0 rs)) in
    same_list (overlay rank ws' 0 (take n rs)) (take n (overlay rank ws 0 rs)) (omega (arith, length_over rank ws' 0 (take n rs), many, all)) (λ j. elim (cases_lt j n) [
      | inl a ↦ let f : j ≢ n = omega arith in elim (cases_eq (bit_of ws j) 1) [
        | inl b ↦ over_set rank ws' (take n rs) j q (s.others j f ∙ b) ∙ (sym (over_set rank ws rs j o b) ∙ sym (get_or-take n (overlay rank ws 0 rs) j 0 a))
        | inr b ↦ over_clear rank ws' (take n rs) j (λ c. b (sym (s.others j f) ∙ c)) ∙ (get_or-take n rs j 0 a ∙ (sym (over_clear rank ws rs j b) ∙ sym (get_or-take n (overlay rank ws 0 rs) j 0 a)))
      ]
      | inr a ↦ get_or_past (overlay rank ws' 0 (take n rs)) j 0 (omega (arith, a, many, length_over rank ws' 0 (take n rs))) ∙ sym (get_or_past (take n (overlay rank ws 0 rs)) j 0 (omega (arith, a, all)))
    ])

-- the set with more words
pub grown_over : (rank : ℕ) (ws ws' rs : List ℕ) → IsOver rank ws rs → ((k : ℕ) → bit_of ws' k ≡ bit_of ws k) → IsOver rank ws' rs
grown_over rank ws ws' rs o e = record { beside = λ k b. o.beside k (sym (e k) ∙ b); within = λ k b. o.within k (sym (e k) ∙ b); some = λ k b. o.some k (sym (e k) ∙ b) }

pub grown_ranks : (rank : ℕ) (ws ws' rs : List ℕ) → IsOver rank ws rs → ((k : ℕ) → bit_of ws' k ≡ bit_of ws k) → overlay rank ws' 0 rs ≡ overlay rank ws 0 rs
grown_ranks rank ws ws' rs o e =
    let q = grown_over rank ws ws' rs o e in
    over_same rank rank ws' ws rs rs refl q o (λ j. elim (cases_eq (bit_of ws j) 1) [
      | inl b ↦ over_set rank ws' rs j q (e j ∙ b) ∙ sym (over_set rank ws rs j o b)
      | inr b ↦ over_clear rank ws' rs j (λ c. b (sym (e j) ∙ c)) ∙ sym (over_clear rank ws rs j b)
    ])

-- the least of the set goes first where no rank beside it is as great, or only at later places
pub set_first : (rank : ℕ) (ws rs : List ℕ) (k : ℕ) → IsOver rank ws rs → IsLeast ws k → ((j : ℕ) → get_or rs j 0 ≤ rank) → ((j : ℕ) → j < k → get_or rs j 0 < rank) → IsFirst (overlay rank ws 0 rs) k
set_first rank ws rs k o l most less = record {
  within = omega (arith, o.within k l.here, length_over rank ws 0 rs);
  ready = omega (arith, over_set rank ws rs k o l.here, o.some k l.here);
  greatest = λ j. elim (cases_eq (bit_of ws j) 1) [
    | inl b ↦ omega (arith, over_set rank ws rs j o b, over_set rank ws rs k o l.here)
    | inr b ↦ omega (arith, over_clear rank ws rs j b, over_set rank ws rs k o l.here, most j)
  ];
  least = λ j h. let z = l.less j h in omega (arith, over_clear rank ws rs j (λ b. omega (arith, b, z)), over_set rank ws rs k o l.here, less j h);
}

-- the first of the others goes first where its rank is greater, or as great and its place is less
pub other_first : (rank : ℕ) (ws rs : List ℕ) (k t : ℕ) → IsOver rank ws rs → IsLeast ws k → IsFirst rs t → rank ≤ get_or rs t 0 → (rank ≡ get_or rs t 0 → t < k) → IsFirst (overlay rank ws 0 rs) t
other_first rank ws rs k t o l f ge tie =
    let free : (bit_of ws t ≡ 1 → ⊥) = λ b. omega (arith, o.beside t b, f.ready) in
    let here = over_clear rank ws rs t free in
    record {
      within = omega (arith, f.within, length_over rank ws 0 rs);
      ready = omega (arith, here, f.ready);
      greatest = λ j. elim (cases_eq (bit_of ws j) 1) [
        | inl b ↦ omega (arith, over_set rank ws rs j o b, here, ge)
        | inr b ↦ omega (arith, over_clear rank ws rs j b, here, f.greatest j)
      ];
      least = λ j h. elim (cases_eq (bit_of ws j) 1) [
        | inl b ↦ elim (cases_eq rank (get_or rs t 0)) [
          | inl e ↦ absurd (let a = tie e in let z = l.less j (omega (arith, a, h)) in omega (arith, b, z))
          | inr e ↦ omega (arith, over_set rank ws rs j o b, here, ge, e)
        ]
        | inr b ↦ omega (arith, over_clear rank ws rs j b, here, f.least j h)
      ];
    }

-- a queue, as contracts see it
abbrev pub laid : ℕ → List ℕ → Queued → Queued
laid rank ws t = record { ranks = overlay rank ws 0 t.ranks; room = t.room }

pub place_in : (rank : ℕ) (ws : List ℕ) (t : Queued) (place : ℕ) → place < length (overlay rank ws 0 t.ranks) → place < length t.ranks
place_in rank ws t place w = omega (arith, w, length_over rank ws 0 t.ranks)

pub bit_in : (rank : ℕ) (ws : List ℕ) (t : Queued) (place : ℕ) → IsWide rank ws t.ranks t.room → place < length (overlay rank ws 0 t.ranks) → place < 64 * length ws
bit_in rank ws t place v w = omega (arith, w, length_over rank ws 0 t.ranks, v.wide)

pub wide_inserted : (rank : ℕ) (ws ws' : List ℕ) (t u : Queued) (k : ℕ) → IsWide rank ws t.ranks t.room → k < length (overlay rank ws 0 t.ranks) → 0 < rank → IsSetAt ws ws' k → u ≡ record t { ranks = set t.ranks k 0 } → IsWide rank ws' u.ranks u.room
wide_inserted rank ws ws' t u k v w p s e = rw e (record {
  over = inserted_over rank ws ws' t.ranks k v.over (place_in rank ws t k w) p s;
  wide = omega (arith, v.wide, length-set t.ranks k 0, s.size);
})

pub laid_inserted : (rank : ℕ) (ws ws' : List ℕ) (t u : Queued) (k : ℕ) → IsWide rank ws t.ranks t.room → k < length (overlay rank ws 0 t.ranks) → 0 < rank → IsSetAt ws ws' k → u ≡ record t { ranks = set t.ranks k 0 } →
    laid rank ws' u ≡ record { ranks = set (overlay rank ws 0 t.ranks) k rank; room = t.room }
laid_inserted rank ws ws' t u k v w p s e = rw e (ap (λ (l : List ℕ). let q : Queued = record { ranks = l; room = t.room } in q) (inserted_ranks rank ws ws' t.ranks k v.over (place_in rank ws t k w) p s))

pub wide_removed : (rank : ℕ) (ws ws' : List ℕ) (t u : Queued) (k r : ℕ) → IsWide rank ws t.ranks t.room → IsClearedAt ws ws' k → u ≡ record t { ranks = set t.ranks k r } → IsWide rank ws' u.ranks u.room
wide_removed rank ws ws' t u k r v s e = rw e (record {
  over = removed_over rank ws ws' t.ranks k r v.over s;
  wide = omega (arith, v.wide, length-set t.ranks k r, s.size);
})

pub laid_removed : (rank : ℕ) (ws ws' : List ℕ) (t u : Queued) (k r : ℕ) → IsWide rank ws t.ranks t.room → k < length (overlay rank ws 0 t.ranks) → IsClearedAt ws ws' k → u ≡ record t { ranks = set t.ranks k r } →
    laid rank ws' u ≡ record { ranks = set (overlay rank ws 0 t.ranks) k r; room = t.room }
laid_removed rank ws ws' t u k r v w s e = rw e (ap (λ (l : List ℕ). let q : Queued = record { ranks = l; room = t.room } in q) (removed_ranks rank ws ws' t.ranks k r v.over (place_in rank ws t k w) s))

-- a place of the set isn't ready beside it
pub unready : (rank : ℕ) (ws : List ℕ) (t : Queued) (k : ℕ) → IsWide rank ws t.ranks t.room → bit_of ws k ≡ 1 → t ≡ record t { ranks = set t.ranks k 0 }
unready rank ws t k v b =
    let same : set t.ranks k 0 ≡ t.ranks = ap (λ r. set t.ranks k r) (sym (v.over.beside k b)) ∙ set-get_or t.ranks k 0 in
    ap (λ (l : List ℕ). let q : Queued = record { ranks = l; room = t.room } in q) (sym same)

-- another rank for the set, which is empty
pub wide_ranked : (rank rank' : ℕ) (ws : List ℕ) (t : Queued) → IsWide rank ws t.ranks t.room → IsEmpty ws → IsWide rank' ws t.ranks t.room
wide_ranked rank rank' ws t v e = record { over = empty_over rank' ws t.ranks e; wide = v.wide }

pub laid_ranked : (rank rank' : ℕ) (ws : List ℕ) (t : Queued) → IsEmpty ws → overlay rank' ws 0 t.ranks ≡ overlay rank ws 0 t.ranks
laid_ranked rank rank' ws t e = empty_ranks rank' ws t.ranks e ∙ sym (empty_ranks rank ws t.ranks e)

pub laid_put_first : (rank rank' : ℕ) (ws ws' : List ℕ) (t u : Queued) (k : ℕ) → IsWide rank ws t.ranks t.room → IsEmpty ws → k < length (overlay rank ws 0 t.ranks) → 0 < rank' → IsSetAt ws ws' k → u ≡ record t { ranks = set t.ranks k 0 } →
    laid rank' ws' u ≡ record { ranks = set (overlay rank ws 0 t.ranks) k rank'; room = t.room }
laid_put_first rank rank' ws ws' t u k v e w p s f =
    let same = laid_ranked rank rank' ws t e in
    let one = laid_inserted rank' ws ws' t u k (wide_ranked rank rank' ws t v e) (rw same w) p s f in
    one ∙ ap (λ (l : List ℕ). let q : Queued = record { ranks = set l k rank'; room = t.room } in q) same

pub wide_put_first : (rank rank' : ℕ) (ws ws' : List ℕ) (t u : Queued) (k : ℕ) → IsWide rank ws t.ranks t.room → IsEmpty ws → k < length (overlay rank ws 0 t.ranks) → 0 < rank' → IsSetAt ws ws' k → u ≡ record t { ranks = set t.ranks k 0 } → IsWide rank' ws' u.ranks u.room
wide_put_first rank rank' ws ws' t u k v e w p s f = wide_inserted rank' ws ws' t u k (wide_ranked rank rank' ws t v e) (rw (laid_ranked rank rank' ws t e) w) p s f

pub new_wide : (rank : ℕ) (ws : List ℕ) (t : Queued) → t.ranks ≡ [] → t.room ≡ 0 → ws ≡ [] → IsWide rank ws t.ranks t.room
new_wide rank ws t e f g = rw (e, f, g) (record { over = empty_over rank [] [] (λ k. bit_zero (k % 64)); wide = omega arith })

pub set_last : (xs : List ℕ) (v n : ℕ) → n ≡ length xs → set (xs ++ 0 ∷ []) n v ≡ xs ++ v ∷ []
set_last [] v n e = rw e refl
set_last (x ∷ xs) v n e = rw e (ap (λ (l : List ℕ). x ∷ l) (set_last xs v (length xs) refl))

pub laid_dropped : (rank : ℕ) (ws ws' rs us : List ℕ) (n : ℕ) → IsOver rank ws rs → n + 1 ≡ length rs → IsClearedAt ws ws' n → us ≡ take n rs → overlay rank ws' 0 us ≡ take (length (overlay rank ws 0 rs) - 1) (overlay rank ws 0 rs)
laid_dropped rank ws ws' rs us n o e s is =
    let size : length (overlay rank ws 0 rs) - 1 ≡ n = omega (arith, length_over rank ws 0 rs, e) in
    rw (is, size) (dropped_ranks rank ws ws' rs n o e s)

pub wide_dropped : (rank : ℕ) (ws ws' rs us : List ℕ) (room now n : ℕ) → IsWide rank ws rs room → n + 1 ≡ length rs → IsClearedAt ws ws' n → us ≡ take n rs → now ≡ room + 1 → IsWide rank ws' us now
wide_dropped rank ws ws' rs us room now n v e s is one = rw (is, one) (record {
  over = dropped_over rank ws ws' rs n v.over e s;
  wide = omega (arith, v.wide, e, s.size, length-take-le n rs (omega (arith, e)));
})

pub laid_put_last : (rank : ℕ) (ws rs us : List ℕ) (v n : ℕ) → IsOver rank ws rs → us ≡ rs ++ 0 ∷ [] → n ≡ length rs → set (overlay rank ws 0 us) n v ≡ overlay rank ws 0 rs ++ v ∷ []
laid_put_last rank ws rs us v n o e f = rw (e, extended_ranks rank ws rs o) (set_last (overlay rank ws 0 rs) v n (f ∙ sym (length_over rank ws 0 rs)))
