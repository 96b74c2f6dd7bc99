-- A tree whose leaf is changed, from the leaf up.
use Rattle.std.proofs.Common.{◌≡◌, ℕ, ◌+◌, ◌*◌, ◌<◌, ◌≤◌, ◌⊎◌, max, List, length, get_or, set, drop, refl, sym, ◌∙◌, ap, subst, arith, inl, inr}
use Rattle.std.proofs.lemmas.List.{get_or-set_same, get_or-set_other, get_or-drop, set-get_or, length-set}
use Rattle.std.proofs.lemmas.Bool.{cases_eq}
use Rattle.kl1_queue.specs.Trees.{Tops, IsTree, IsTreeBut, IsUnder, IsRaised}

-- a change elsewhere
tops_other : (bs : List ℕ) (i j v : ℕ) → (i ≡ j → ⊥) → (2 * i ≡ j → ⊥) → (2 * i + 1 ≡ j → ⊥) → Tops bs i → Tops (set bs j v) i
tops_other bs i j v p q r t =
    rw (get_or-set_other bs j i v 0 p, get_or-set_other bs j (2 * i) v 0 q, get_or-set_other bs j (2 * i + 1) v 0 r) t

pub but_leaf : (half place rank : ℕ) (bs : List ℕ) → place < half → IsTree half bs → IsTreeBut half (half + place) (set bs (half + place) rank)
but_leaf half place rank bs w t = record {
  size = length-set bs (half + place) rank ∙ t.size;
  nodes = λ i a b p q. tops_other bs i (half + place) rank (λ e. omega (arith, e)) p q (t.nodes i a b);
}

-- one node is the other's parent
abbrev pub IsParent : ℕ → ℕ → Type 0
IsParent parent node = (node ≡ 2 * parent) ⊎ (node ≡ 2 * parent + 1)

apart : (parent node i : ℕ) → IsParent parent node → (i ≡ parent → ⊥) → (2 * i ≡ node → ⊥) × (2 * i + 1 ≡ node → ⊥)
apart parent node i (inl e) p = (λ f. p (omega arith), λ f. absurd (omega arith))
apart parent node i (inr e) p = (λ f. absurd (omega arith), λ f. p (omega arith))

pub but_parent : (half parent node : ℕ) (bs : List ℕ) → 0 < parent → parent < half → IsParent parent node → IsTreeBut half node bs →
    IsTreeBut half parent (set bs parent (max (get_or bs (2 * parent) 0) (get_or bs (2 * parent + 1) 0)))
but_parent half parent node bs a b r t =
    let v = max (get_or bs (2 * parent) 0) (get_or bs (2 * parent + 1) 0) in
    let here : Tops (set bs parent v) parent =
    rw (get_or-set_same bs parent v 0 (omega (arith, t.size)), get_or-set_other bs parent (2 * parent) v 0 (λ e. omega (arith, e)), get_or-set_other bs parent (2 * parent + 1) v 0 (λ e. omega (arith, e))) refl
    in
    let P : ℕ → Type 0 = λ i. Tops (set bs parent v) i in
    record {
      size = length-set bs parent v ∙ t.size;
      nodes = λ i c d p q. elim (cases_eq i parent) [
        | inl e ↦ subst P (sym e) here
        | inr n ↦ let s = apart parent node i r n in tops_other bs i parent v n p q (t.nodes i c d s.0 s.1)
      ];
    }

pub whole_at : (half parent node : ℕ) (bs : List ℕ) → IsParent parent node → Tops bs parent → IsTreeBut half node bs → IsTree half bs
whole_at half parent node bs r here t =
    let P : ℕ → Type 0 = λ i. Tops bs i in
    record {
      size = t.size;
      nodes = λ i c d. elim (cases_eq i parent) [
        | inl e ↦ subst P (sym e) here
        | inr n ↦ let s = apart parent node i r n in t.nodes i c d s.0 s.1
      ];
    }

pub whole_top : (half node : ℕ) (bs : List ℕ) → node ≤ 1 → IsTreeBut half node bs → IsTree half bs
whole_top half node bs p t = record { size = t.size; nodes = λ i c d. t.nodes i c d (λ e. omega (arith, e)) (λ e. omega (arith, e)) }

-- a leaf that has the rank already
pub leaf_same : (half place rank : ℕ) (bs : List ℕ) → get_or bs (half + place) 0 ≡ rank → drop half bs ≡ set (drop half bs) place rank
leaf_same half place rank bs e = sym (ap (λ v. set (drop half bs) place v) (sym (get_or-drop half bs place 0 ∙ e)) ∙ set-get_or (drop half bs) place 0)

-- a child is raised
under_left : (bs : List ℕ) (i rank : ℕ) → 0 < i → 2 * i < length bs → Tops bs i → get_or bs (2 * i) 0 < rank → IsUnder (set bs (2 * i) rank) rank i
under_left bs i rank a w t s =
    let here = get_or-set_same bs (2 * i) rank 0 w in
    let top = get_or-set_other bs (2 * i) i rank 0 (λ e. omega (arith, e)) in
    let beside = get_or-set_other bs (2 * i) (2 * i + 1) rank 0 (λ e. omega (arith, e)) in
    record { right = λ g. omega (arith, here, top, beside, t, s, g); less = λ g. omega (arith, here, top, beside, t, s, g) }

under_right : (bs : List ℕ) (i rank : ℕ) → 0 < i → 2 * i + 1 < length bs → Tops bs i → get_or bs (2 * i + 1) 0 < rank → IsUnder (set bs (2 * i + 1) rank) rank i
under_right bs i rank a w t s =
    let here = get_or-set_same bs (2 * i + 1) rank 0 w in
    let top = get_or-set_other bs (2 * i + 1) i rank 0 (λ e. omega (arith, e)) in
    let beside = get_or-set_other bs (2 * i + 1) (2 * i) rank 0 (λ e. omega (arith, e)) in
    record { right = λ g. omega (arith, here, top, beside, t, s, g); less = λ g. omega (arith, here, top, beside, t, s, g) }

-- a node of a tree but for the parent of one node, itself or a lesser one, is raised
raised_at : (half node rank : ℕ) (bs : List ℕ) → 0 < node → node < 2 * half → IsTreeBut half node (set bs node rank) → length bs ≡ 2 * half → get_or bs node 0 < rank →
    ((i : ℕ) → 0 < i → IsParent i node → Tops bs i) → IsRaised half node rank (set bs node rank)
raised_at half node rank bs a w t n s tops = record {
  but = t;
  left = λ i b e. rw e (under_left bs i rank b (omega (arith, e, n)) (tops i b (inl e)) (rw (← e) s));
  right = λ i b e. rw e (under_right bs i rank b (omega (arith, e, n)) (tops i b (inr e)) (rw (← e) s));
}

pub raised_leaf : (half place rank : ℕ) (bs : List ℕ) → place < half → IsTree half bs → get_or bs (half + place) 0 < rank → IsRaised half (half + place) rank (set bs (half + place) rank)
raised_leaf half place rank bs w t s = raised_at half (half + place) rank bs (omega arith) (omega arith) (but_leaf half place rank bs w t) t.size s (λ i a r. elim r [
  | inl e ↦ t.nodes i a (omega arith)
  | inr e ↦ t.nodes i a (omega arith)
])

under_parent : (half parent node rank : ℕ) (bs : List ℕ) → 0 < parent → IsParent parent node → IsRaised half node rank bs → IsUnder bs rank parent
under_parent half parent node rank bs a (inl e) t = t.left parent a e
under_parent half parent node rank bs a (inr e) t = t.right parent a e

pub raised_parent : (half parent node rank : ℕ) (bs : List ℕ) → 0 < parent → parent < half → IsParent parent node → IsRaised half node rank bs → get_or bs parent 0 < rank → IsRaised half parent rank (set bs parent rank)
raised_parent half parent node rank bs a b r t s =
    let under = under_parent half parent node rank bs a r t in
    let Q : ℕ → Type 0 = λ v. IsTreeBut half parent (set bs parent v) in
    let but : IsTreeBut half parent (set bs parent rank) = subst Q (under.less s) (but_parent half parent node bs a b r t.but) in
    raised_at half parent rank bs a (omega arith) but t.but.size s (λ i c q. let p : (i ≡ parent → ⊥) = λ f. elim q [ inl e ↦ absurd (omega arith) | inr e ↦ absurd (omega arith) ] in
    let d = apart parent node i r p in
    t.but.nodes i c (elim q [ inl e ↦ omega arith | inr e ↦ omega arith ]) d.0 d.1)

pub whole_raised : (half parent node rank : ℕ) (bs : List ℕ) → 0 < parent → IsParent parent node → IsRaised half node rank bs → rank ≤ get_or bs parent 0 → IsTree half bs
whole_raised half parent node rank bs a r t s = whole_at half parent node bs r ((under_parent half parent node rank bs a r t).right s) t.but
