-- Which goals may be let step, or held back, otherwise than when an event began.
use Rattle.std.proofs.Common.{◌≡◌, ℕ, zero, suc, ◌-◌, ◌<◌, ◌≤◌, ◌⊎◌, inl, inr, Bool, true, false, not, nat_le, ◌==◌, ◌||◌, List, [], ◌∷◌, ◌++◌, length, get_or, take, refl, sym, ap, ap₂, ◌∙◌, arith, subst}
use Rattle.std.specs.Prelude.{Option, Some, None, find, slice_get, option_copied, option_map, unwrap_or, All, Contains}
use mathlib.Core.Bool.{beq}
use Rattle.std.specs.Borrow.{Bor}
use Rattle.std.specs.List.{list_any}
use Rattle.std.proofs.lemmas.Bool.{false≢true, or_left, or_right, eq-eqb}
use Rattle.std.proofs.lemmas.Option.{none-some, same_Some}
use Rattle.std.proofs.lemmas.List.{get_or-take, map_push}
use Rattle.std.proofs.lemmas.List.Elements.{All-contains, All-push, All-weaker, Contains-append_left}
use Rattle.kl1_model.specs.Module.{is_among}
use Rattle.kl1_model.specs.State.{is_living}
use Rattle.kl1_shoen_paths.specs.declared.shoen.Shoen.{Shoen}
use Rattle.kl1_shoen_paths.specs.declared.tracked.Was.{Was}
use Rattle.kl1_shoen_paths.specs.Tracked.{IsTrail}
use Rattle.kl1_shoen_paths.proofs.Numbered.{found_at}
use Rattle.kl1_shoen_paths.proofs.Paths.{path_zero, path_parent, parent_below, parent_at}
use Rattle.kl1_shoen.specs.declared.shift.Shift.{Shift}
use Rattle.kl1_shoen.specs.Shoens.{Tree, AreCharged, has_number, AreNumbered, parents_in, path_in, is_on_path_in, charged_in, is_blocking_in, is_blocking_at, is_enabled_at, is_exhausted_in}
use Rattle.kl1_shoen.specs.Shifts.{Adds, AreShifts, Covers, CoversChange, CoversCharge, HoldAlike, parent_in, shoens_of}
use Rattle.kl1_shoen.proofs.Numbered.{number_is}
use Rattle.kl1_shoen.proofs.Changing.{got_found}

-- what is known of a tree, of its charges and its trails
pub record Told {N : Type 0} (t : Tree N) (charges kept_charges : List ℕ) (trail : List (Was (Shoen N))) (charge_trail : List (Was ℕ)) : Type 0 where
  pub now : AreCharged t.shoens charges t.work
  pub kept : AreCharged t.kept kept_charges t.kept_work
  pub grown : parents_in t.kept ≡ take (length t.kept) (parents_in t.shoens)
  pub changes : IsTrail t.shoens t.kept trail
  pub charged : IsTrail charges kept_charges charge_trail

-- and of those that it is told of
record ToldOf {N : Type 0} (t : Tree N) (charges kept_charges : List ℕ) (trail : List (Was (Shoen N))) (charge_trail : List (Was ℕ)) (shifts : List Shift) : Type 0 where
  now : AreCharged t.shoens charges t.work
  kept : AreCharged t.kept kept_charges t.kept_work
  grown : parents_in t.kept ≡ take (length t.kept) (parents_in t.shoens)
  changes : IsTrail t.shoens t.kept trail
  charged : IsTrail charges kept_charges charge_trail
  covers : All (CoversChange t shifts) trail
  covers_charges : All (CoversCharge t shifts) charge_trail

some_at : {A : Type 0} (xs : List A) (i : ℕ) → i < length xs → (x : A) × (slice_get xs i ≡ Some x)
some_at [] i lt = absurd (omega (arith, lt))
some_at (x ∷ xs) zero lt = (x, refl)
some_at (x ∷ xs) (suc i) lt = some_at xs i (omega (arith, lt))

-- a shoen that is found holds back goals, by its charge
blocks_by : {N : Type 0} (ss : List (Shoen N)) (charges work : List ℕ) (n : ℕ) (h : Shoen N) → AreCharged ss charges work → 0 < n → slice_get ss (n - 1) ≡ Some h →
    is_blocking_at ss work n ≡ (h.is_stopped || not (is_living h.life) || nat_le h.allowance (get_or charges (n - 1) 0))
blocks_by {N = N} ss charges work n h a lt e =
    let found : find (has_number n) ss ≡ Some h = found_at n ss a.numbered lt ∙ e in
    let number : h.number ≡ n = number_is n h ss a.numbered lt found in
    let is : suc (n - 1) ≡ n = omega (arith, lt) in
    ap (λ (o : Option (Shoen N)). unwrap_or (option_map (is_blocking_in ss work) o) false) found
    ∙ ap (λ (m : ℕ). h.is_stopped || not (is_living h.life) || nat_le h.allowance m) (ap (charged_in ss work) (number ∙ sym is) ∙ sym (a.charged (n - 1)))

alike_itself : {N : Type 0} (a b : Shoen N) → a ≡ b → HoldAlike a b
alike_itself a b e = record { stopped = ap (λ (h : Shoen _). h.is_stopped) e; living = ap (λ (h : Shoen _). is_living h.life) e; allowance = ap (λ (h : Shoen _). h.allowance) e }

-- a shoen on the path of one that isn't told of, whose parent's goals are enabled, holds back goals as it did
blocks_same : {N : Type 0} (t : Tree N) (charges kept_charges : List ℕ) (trail : List (Was (Shoen N))) (charge_trail : List (Was ℕ)) (shifts : List Shift) (n a : ℕ) →
    ToldOf t charges kept_charges trail charge_trail shifts → 0 < n → n ≤ length t.kept → (Contains (shoens_of shifts) n → ⊥) → 0 < a → a ≤ length t.kept → is_on_path_in t.shoens a n ≡ true →
    is_enabled_at t.shoens t.work (parent_in t.shoens a) ≡ true → is_blocking_at t.shoens t.work a ≡ is_blocking_at t.kept t.kept_work a
blocks_same {N = N} t charges kept_charges trail charge_trail shifts n a k some few away lt within on up = by_change (by_trail (k.changes.was (a - 1) s (omega (arith, lt, within))))
  where
    longer : length t.kept ≤ length t.shoens
    longer = k.changes.few

    found : (h : Shoen N) × (slice_get t.shoens (a - 1) ≡ Some h)
    found = some_at t.shoens (a - 1) (omega (arith, lt, within, longer))

    before : (h : Shoen N) × (slice_get t.kept (a - 1) ≡ Some h)
    before = some_at t.kept (a - 1) (omega (arith, lt, within))

    s : Shoen N
    s = found.0

    was : Shoen N
    was = before.0

    got : get_or t.shoens (a - 1) s ≡ s
    got = got_found t.shoens (a - 1) s s found.1

    got_was : get_or t.kept (a - 1) s ≡ was
    got_was = got_found t.kept (a - 1) was s before.1

    number : s.number ≡ a
    number = number_is a s t.shoens k.now.numbered lt (found_at a t.shoens k.now.numbered lt ∙ found.1)

    uncovered : Covers t s.number shifts → ⊥
    uncovered c = away (subst (λ (m : ℕ). Covers t m shifts) number c up n some (omega (arith, few, longer)) on)

    by_trail : (get_or t.kept (a - 1) s ≡ get_or t.shoens (a - 1) s) ⊎ Contains trail (record { place = a - 1; value = get_or t.kept (a - 1) s }) → HoldAlike was s ⊎ Covers t s.number shifts
    by_trail (inl e) = inl (alike_itself was s (sym got_was ∙ e ∙ got))
    by_trail (inr c) =
        subst (λ (h : Shoen N). HoldAlike h s ⊎ Covers t s.number shifts) got_was
        (All-contains (CoversChange t shifts) trail (record { place = a - 1; value = get_or t.kept (a - 1) s }) k.covers c s found.1)

    by_charge : HoldAlike was s → (nat_le s.allowance (get_or kept_charges (a - 1) 0) ≡ nat_le s.allowance (get_or charges (a - 1) 0)) ⊎ Covers t s.number shifts → is_blocking_at t.shoens t.work a ≡ is_blocking_at t.kept t.kept_work a
    by_charge alike (inr c) = absurd (uncovered c)
    by_charge alike (inl e) =
        blocks_by t.shoens charges t.work a s k.now lt found.1
        ∙ ap (λ (b : Bool). s.is_stopped || not (is_living s.life) || b) (sym e)
        ∙ ap (λ (m : ℕ). s.is_stopped || not (is_living s.life) || nat_le m (get_or kept_charges (a - 1) 0)) (sym alike.allowance)
        ∙ ap₂ (λ (b c : Bool). b || not c || nat_le was.allowance (get_or kept_charges (a - 1) 0)) (sym alike.stopped) (sym alike.living)
        ∙ sym (blocks_by t.kept kept_charges t.kept_work a was k.kept lt before.1)

    place : s.number ≡ suc (a - 1)
    place = omega (arith, number, lt)

    exhausted : is_exhausted_in t.shoens t.work s ≡ nat_le s.allowance (get_or charges (a - 1) 0)
    exhausted = ap (λ (m : ℕ). nat_le s.allowance m) (ap (charged_in t.shoens t.work) place ∙ sym (k.now.charged (a - 1)))

    charge_case : (get_or kept_charges (a - 1) 0 ≡ get_or charges (a - 1) 0) ⊎ Contains charge_trail (record { place = a - 1; value = get_or kept_charges (a - 1) 0 }) →
        (nat_le s.allowance (get_or kept_charges (a - 1) 0) ≡ nat_le s.allowance (get_or charges (a - 1) 0)) ⊎ Covers t s.number shifts
    charge_case (inl e) = inl (ap (nat_le s.allowance) e)
    charge_case (inr c) =
        subst (λ (b : Bool). (nat_le s.allowance (get_or kept_charges (a - 1) 0) ≡ b) ⊎ Covers t s.number shifts) exhausted
        (All-contains (CoversCharge t shifts) charge_trail (record { place = a - 1; value = get_or kept_charges (a - 1) 0 }) k.covers_charges c s found.1)

    by_change : HoldAlike was s ⊎ Covers t s.number shifts → is_blocking_at t.shoens t.work a ≡ is_blocking_at t.kept t.kept_work a
    by_change (inr c) = absurd (uncovered c)
    by_change (inl alike) = by_charge alike (charge_case (k.charged.was (a - 1) 0 (let c = k.kept.count in omega (arith, lt, within, c))))

-- the parent of a shoen was the same when the event began
parent_stays : {N : Type 0} (now kept : List (Shoen N)) (n : ℕ) → AreNumbered 0 now → AreNumbered 0 kept → parents_in kept ≡ take (length kept) (parents_in now) → 0 < n → n ≤ length kept → parent_in kept n ≡ parent_in now n
parent_stays now kept n a b grown lt few =
    parent_at n (parent_in kept n) kept b refl lt
    ∙ ap (λ (ps : List ℕ). get_or ps (n - 1) 0) grown
    ∙ get_or-take (length kept) (parents_in now) (n - 1) 0 (omega (arith, lt, few))
    ∙ sym (parent_at n (parent_in now n) now a refl lt)

held : (b : Bool) → not (b || true) ≡ false
held true = refl
held false = refl

one_step : (b c d e : Bool) → not d ≡ not e → (not d ≡ true → b ≡ c) → not (b || d) ≡ not (c || e)
one_step b c true true f g = held b ∙ sym (held c)
one_step b c true false f g = absurd (false≢true f)
one_step b c false true f g = absurd (false≢true (sym f))
one_step b c false false f g = ap (λ (x : Bool). not (x || false)) (g refl)

-- goals are enabled as they were, if each shoen on the path holds back as it did where the goals of its parent are enabled
enabled_same : {N : Type 0} (t : Tree N) (charges kept_charges : List ℕ) → AreCharged t.shoens charges t.work → AreCharged t.kept kept_charges t.kept_work → parents_in t.kept ≡ take (length t.kept) (parents_in t.shoens) →
    (most n : ℕ) → n ≤ most → n ≤ length t.kept →
    ((a : ℕ) → 0 < a → a ≤ length t.kept → is_on_path_in t.shoens a n ≡ true → is_enabled_at t.shoens t.work (parent_in t.shoens a) ≡ true → is_blocking_at t.shoens t.work a ≡ is_blocking_at t.kept t.kept_work a) →
    is_enabled_at t.shoens t.work n ≡ is_enabled_at t.kept t.kept_work n
enabled_same t charges kept_charges now kept grown most zero few within same =
    ap (λ (ns : List ℕ). not (list_any (is_blocking_at t.shoens t.work) ns)) (path_zero 0 t.shoens refl)
    ∙ sym (ap (λ (ns : List ℕ). not (list_any (is_blocking_at t.kept t.kept_work) ns)) (path_zero 0 t.kept refl))
enabled_same t charges kept_charges now kept grown zero (suc n) few within same = absurd (omega (arith, few))
enabled_same t charges kept_charges now kept grown (suc most) (suc n) few within same =
    let up : ℕ = parent_in t.shoens (suc n) in
    let below = parent_below (suc n) up t.shoens now.numbered now.lower refl (omega arith) in
    let path : path_in t.shoens (suc n) ≡ suc n ∷ path_in t.shoens up = path_parent (suc n) up t.shoens now.numbered now.lower refl (omega arith) in
    let kept_path : path_in t.kept (suc n) ≡ suc n ∷ path_in t.kept up =
    path_parent (suc n) up t.kept kept.numbered kept.lower (sym (parent_stays t.shoens t.kept (suc n) now.numbered kept.numbered grown (omega arith) within)) (omega arith) in
    let above : is_enabled_at t.shoens t.work up ≡ is_enabled_at t.kept t.kept_work up =
    enabled_same t charges kept_charges now kept grown most up (omega (arith, below, few)) (omega (arith, below, within))
    (λ a lt le on. same a lt le (ap (is_among a) path ∙ or_right (a == suc n) (is_among a (path_in t.shoens up)) on)) in
    let here = same (suc n) (omega arith) within (ap (is_among (suc n)) path ∙ or_left (suc n == suc n) (is_among (suc n) (path_in t.shoens up)) (eq-eqb (suc n) (suc n) refl)) in
    ap (λ (ns : List ℕ). not (list_any (is_blocking_at t.shoens t.work) ns)) path
    ∙ one_step (is_blocking_at t.shoens t.work (suc n)) (is_blocking_at t.kept t.kept_work (suc n)) (list_any (is_blocking_at t.shoens t.work) (path_in t.shoens up)) (list_any (is_blocking_at t.kept t.kept_work) (path_in t.kept up)) above here
    ∙ sym (ap (λ (ns : List ℕ). not (list_any (is_blocking_at t.kept t.kept_work) ns)) kept_path)

-- goals of a shoen that isn't told of are enabled as they were
untold_same : {N : Type 0} (t : Tree N) (charges kept_charges : List ℕ) (trail : List (Was (Shoen N))) (charge_trail : List (Was ℕ)) (shifts : List Shift) → ToldOf t charges kept_charges trail charge_trail shifts →
    (n : ℕ) → 0 < n → n ≤ length t.kept → (Contains (shoens_of shifts) n → ⊥) → is_enabled_at t.shoens t.work n ≡ is_enabled_at t.kept t.kept_work n
untold_same t charges kept_charges trail charge_trail shifts k n lt few away =
    enabled_same t charges kept_charges k.now k.kept k.grown n n (omega arith) few (λ a some within on up. blocks_same t charges kept_charges trail charge_trail shifts n a k lt few away some within on up)

covers_more : {N : Type 0} (t : Tree N) (number : ℕ) (before after : List Shift) → Adds t before after → Covers t number before → Covers t number after
covers_more t number before after a c up n lt few on = a.keeps n (c up n lt few on)

-- what is told stays told
pub change_more : {N : Type 0} (t : Tree N) (before after : List Shift) → Adds t before after → (w : Was (Shoen N)) → CoversChange t before w → CoversChange t after w
change_more t before after a w c h e = by_case (c h e)
  where
    by_case : HoldAlike w.value h ⊎ Covers t h.number before → HoldAlike w.value h ⊎ Covers t h.number after
    by_case (inl x) = inl x
    by_case (inr x) = inr (covers_more t h.number before after a x)

pub charge_more : {N : Type 0} (t : Tree N) (before after : List Shift) → Adds t before after → (w : Was ℕ) → CoversCharge t before w → CoversCharge t after w
charge_more t before after a w c h e = by_case (c h e)
  where
    by_case : (nat_le h.allowance w.value ≡ is_exhausted_in t.shoens t.work h) ⊎ Covers t h.number before → (nat_le h.allowance w.value ≡ is_exhausted_in t.shoens t.work h) ⊎ Covers t h.number after
    by_case (inl x) = inl x
    by_case (inr x) = inr (covers_more t h.number before after a x)

pub adds_none : {N : Type 0} (t : Tree N) (shifts : List Shift) → Adds t shifts shifts
adds_none t shifts = record { right = λ r. r; keeps = λ n c. c }

pub adds_more : {N : Type 0} (t : Tree N) (before mid after : List Shift) → Adds t before mid → Adds t mid after → Adds t before after
adds_more t before mid after a b = record { right = λ r. b.right (a.right r); keeps = λ n c. b.keeps n (a.keeps n c) }

-- one more that tells rightly
pub adds_one : {N : Type 0} (t : Tree N) (before : List Shift) (s : Shift) → s.is_enabled ≡ is_enabled_at t.shoens t.work s.shoen → Adds t before (before ++ s ∷ [])
adds_one t before s e = record {
  right = λ r. All-push (λ (x : Shift). x.is_enabled ≡ is_enabled_at t.shoens t.work x.shoen) before s r e;
  keeps = λ n c. subst (λ (ns : List ℕ). Contains ns n) (sym (map_push (λ (x : Shift). x.shoen) before s)) (Contains-append_left (shoens_of before) (s.shoen ∷ []) n c);
}

-- a shoen that is lent from a place stands there
pub lent_none : {N : Type 0} (ss : List (Shoen N)) (i : ℕ) (o : Option (Bor (Shoen N))) → option_copied o ≡ slice_get ss i → o ≡ None → (h : Shoen N) → slice_get ss i ≡ Some h → ⊥
lent_none {N = N} ss i o e z h f = none-some h (sym (ap (λ (b : Option (Bor (Shoen N))). option_copied b) z) ∙ e ∙ f)

pub lent_some : {N : Type 0} (ss : List (Shoen N)) (i : ℕ) (o : Option (Bor (Shoen N))) (b : Bor (Shoen N)) → option_copied o ≡ slice_get ss i → o ≡ Some b → (h : Shoen N) → slice_get ss i ≡ Some h → b.now ≡ h
lent_some {N = N} ss i o b e z h f = same_Some b.now h (sym (ap (λ (c : Option (Bor (Shoen N))). option_copied c) z) ∙ e ∙ f)

-- what is told, from nothing on, is whole
pub told_whole : {N : Type 0} (t : Tree N) (charges kept_charges : List ℕ) (trail : List (Was (Shoen N))) (charge_trail : List (Was ℕ)) (start mid after : List Shift) → Told t charges kept_charges trail charge_trail → start ≡ [] →
    Adds t start mid → Adds t mid after → All (CoversChange t mid) trail → All (CoversCharge t after) charge_trail → AreShifts t after
told_whole t charges kept_charges trail charge_trail start mid after k none first second covers covers_charges = record {
  right = second.right (first.right (subst (λ (l : List Shift). All (λ (s : Shift). s.is_enabled ≡ is_enabled_at t.shoens t.work s.shoen) l) (sym none) (λ i d lt. absurd (omega (arith, lt)))));
  whole = untold_same t charges kept_charges trail charge_trail after (record {
    now = k.now;
    kept = k.kept;
    grown = k.grown;
    changes = k.changes;
    charged = k.charged;
    covers = All-weaker (CoversChange t mid) (CoversChange t after) (change_more t mid after second) trail covers;
    covers_charges = covers_charges;
  });
}

same_bool : (b c : Bool) → beq b c ≡ true → b ≡ c
same_bool true true e = refl
same_bool true false e = absurd (false≢true e)
same_bool false true e = absurd (false≢true e)
same_bool false false e = refl

-- a shoen is exhausted as it was, by the charge that is looked up
pub exhausted_alike : {N : Type 0} (t : Tree N) (was : ℕ) (x h : Shoen N) → x ≡ h → (charged : ℕ) → charged ≡ charged_in t.shoens t.work x.number → beq (nat_le x.allowance was) (nat_le x.allowance charged) ≡ true → nat_le h.allowance was ≡ is_exhausted_in t.shoens t.work h
exhausted_alike {N = N} t was x h e charged is same =
    subst (λ (y : Shoen N). nat_le y.allowance was ≡ is_exhausted_in t.shoens t.work y) e (same_bool (nat_le x.allowance was) (nat_le x.allowance charged) same ∙ ap (nat_le x.allowance) is)
