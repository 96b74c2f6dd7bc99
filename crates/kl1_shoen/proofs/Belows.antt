-- A change of a shoen and of all below it, by their numbers.
use Rattle.std.proofs.Common.{◌≡◌, ℕ, suc, ◌+◌, ◌<◌, ◌≤◌, Bool, true, false, ◌==◌, ◌&&◌, ◌||◌, not, if◌then◌else◌, List, [], ◌∷◌, ◌++◌, map, length, refl, sym, ap, ap₂, ◌∙◌, arith}
use Rattle.std.specs.Prelude.{Option}
use Rattle.std.proofs.lemmas.List.Folds.{list_any-append}
use Rattle.kl1_model.specs.declared.life.Life.{Life}
use Rattle.kl1_model.specs.declared.life.Life.TheVariants.{Living, Terminated, Aborted, Forgotten}
use Rattle.kl1_model.specs.Module.{is_among}
use Rattle.kl1_model.specs.State.{is_living}
use Rattle.kl1_store.specs.declared.cell.Cell.{Cell}
use Rattle.kl1_shoen_paths.specs.declared.shoen.Shoen.{Shoen}
use Rattle.kl1_shoen_paths.proofs.Below.{among_contains, contains_among}
use Rattle.kl1_shoen.specs.declared.change.Change.{Change}
use Rattle.kl1_shoen.specs.declared.change.Change.TheVariants.{Aborts, Empties}
use Rattle.kl1_shoen.specs.Changes.{changed_by, changed_below, IsOnce}
use Rattle.kl1_shoen.specs.Shoens.{has_number, changed, AreBelow, AreNumbered, is_on_path_in, ended_with, empty_with, aborted_below_in, emptied_below}
use Rattle.kl1_shoen.proofs.Changing.{number_kept}

-- ---- of numbers one after another

-- a shoen, changed if this is so
abbrev pub changed_if : {N : Type 0} → Change N → Bool → Shoen N → Shoen N
changed_if c b h = if b then changed_by c h else h

-- a shoen, changed if its number is among these
abbrev pub changed_among : {N : Type 0} → Change N → List ℕ → Shoen N → Shoen N
changed_among c ns h = changed_if c (is_among h.number ns) h

one_more : {N : Type 0} (c : Change N) (h : Shoen N) (r b : Bool) → IsOnce c → changed_if c r (changed_if c b h) ≡ changed_if c (r || b) h
one_more c h true true once = once h
one_more c h true false once = refl
one_more c h false true once = refl
one_more c h false false once = refl

number_if : {N : Type 0} (c : Change N) (h : Shoen N) (b : Bool) → (changed_if c b h).number ≡ h.number
number_if c h true = number_kept c h
number_if c h false = refl

or_no : (b : Bool) → (b || false) ≡ b
or_no true = refl
or_no false = refl

changed_one : {N : Type 0} (c : Change N) (ns : List ℕ) (n : ℕ) (h : Shoen N) → IsOnce c → changed_among c ns (if has_number n h then changed_by c h else h) ≡ changed_among c (ns ++ n ∷ []) h
changed_one {N = N} c ns n h once =
    let g : Shoen N = changed_if c (has_number n h) h in
    ap (λ (m : ℕ). changed_if c (is_among m ns) g) (number_if c h (has_number n h))
    ∙ one_more c h (is_among h.number ns) (has_number n h) once
    ∙ ap (λ (b : Bool). changed_if c b h) (sym (list_any-append (λ m. h.number == m) ns (n ∷ []) ∙ ap (λ (b : Bool). is_among h.number ns || b) (or_no (h.number == n))))

-- what is left of such a change, after the last of the numbers that are left
pub changed_last : {N : Type 0} (c : Change N) (ns : List ℕ) (n : ℕ) (hs : List (Shoen N)) → IsOnce c → map (changed_among c ns) (changed n (changed_by c) hs) ≡ map (changed_among c (ns ++ n ∷ [])) hs
changed_last c ns n [] once = refl
changed_last c ns n (h ∷ hs) once = ap₂ (λ (x : Shoen _) (xs : List (Shoen _)). x ∷ xs) (changed_one c ns n h once) (changed_last c ns n hs once)

-- and if none is left
pub changed_none_left : {N : Type 0} (c : Change N) (hs : List (Shoen N)) → map (changed_among c []) hs ≡ hs
changed_none_left c [] = refl
changed_none_left c (h ∷ hs) = ap (λ (xs : List (Shoen _)). h ∷ xs) (changed_none_left c hs)

same_by : (b c : Bool) → (b ≡ true → c ≡ true) → (c ≡ true → b ≡ true) → b ≡ c
same_by true c f g = sym (f refl)
same_by false true f g = g refl
same_by false false f g = refl

map_numbered : {N : Type 0} (f g : Shoen N → Shoen N) (last : ℕ) (hs : List (Shoen N)) → AreNumbered last hs → ((h : Shoen N) → 0 < h.number → h.number ≤ last + length hs → f h ≡ g h) → map f hs ≡ map g hs
map_numbered f g last [] a e = refl
map_numbered f g last (h ∷ hs) a e =
    let m = a.0 in
    ap₂ (λ (x : Shoen _) (xs : List (Shoen _)). x ∷ xs) (e h (omega (arith, m)) (omega (arith, m))) (map_numbered f g (suc last) hs a.1 (λ k lt few. e k lt (omega (arith, few))))

-- the change is made to those that are below, by number
pub changed_whole : {N : Type 0} (c : Change N) (hs : List (Shoen N)) (n : ℕ) (ns : List ℕ) → AreNumbered 0 hs → AreBelow hs n ns → map (changed_among c ns) hs ≡ map (changed_below c hs n) hs
changed_whole c hs n ns a b = map_numbered (changed_among c ns) (changed_below c hs n) 0 hs a (λ h lt few. ap (λ (d : Bool). changed_if c d h)
    (same_by (is_among h.number ns) (is_on_path_in hs n h.number)
    (λ e. ((b.among h.number).0 (contains_among h.number ns e)).2)
    (λ e. among_contains h.number ns ((b.among h.number).1 (lt, omega (arith, few), e)))))

-- ---- aborts, and shoens that are let go

-- a shoen of this life
abbrev of_life : {N : Type 0} → Shoen N → Life → Shoen N
of_life h life = record h { life = life }

aborts_twice : {N : Type 0} (left : Option (Cell N)) (h : Shoen N) (life : Life) → changed_by (Aborts left) (changed_by (Aborts left) (of_life h life)) ≡ changed_by (Aborts left) (of_life h life)
aborts_twice left h Living = refl
aborts_twice left h Terminated = refl
aborts_twice left h Aborted = refl
aborts_twice left h Forgotten = refl

pub aborts_once : {N : Type 0} (left : Option (Cell N)) → IsOnce (Aborts left)
aborts_once left h = aborts_twice left h h.life

empties_twice : {N : Type 0} (none : Cell N) (h : Shoen N) (life : Life) → changed_by (Empties none) (changed_by (Empties none) (of_life h life)) ≡ changed_by (Empties none) (of_life h life)
empties_twice none h Living = refl
empties_twice none h Terminated = refl
empties_twice none h Aborted = refl
empties_twice none h Forgotten = refl

pub empties_once : {N : Type 0} (none : Cell N) → IsOnce (Empties none)
empties_once none h = empties_twice none h h.life

map_same : {N : Type 0} (f g : Shoen N → Shoen N) (hs : List (Shoen N)) → ((h : Shoen N) → f h ≡ g h) → map f hs ≡ map g hs
map_same f g [] e = refl
map_same f g (h ∷ hs) e = ap₂ (λ (x : Shoen _) (xs : List (Shoen _)). x ∷ xs) (e h) (map_same f g hs e)

aborted_by : {N : Type 0} (left : Option (Cell N)) (h : Shoen N) (b lives : Bool) → (if b then (if lives then ended_with left Aborted h else h) else h) ≡ (if lives && b then ended_with left Aborted h else h)
aborted_by left h true true = refl
aborted_by left h true false = refl
aborted_by left h false true = refl
aborted_by left h false false = refl

pub aborted_all : {N : Type 0} (left : Option (Cell N)) (all hs : List (Shoen N)) (n : ℕ) → map (changed_below (Aborts left) all n) hs ≡ map (aborted_below_in left all n) hs
aborted_all left all hs n = map_same (changed_below (Aborts left) all n) (aborted_below_in left all n) hs (λ h. aborted_by left h (is_on_path_in all n h.number) (is_living h.life))

emptied_by : {N : Type 0} (none : Cell N) (h : Shoen N) (b lives : Bool) → (if b then (if lives then h else empty_with none h) else h) ≡ (if not lives && b then empty_with none h else h)
emptied_by none h true true = refl
emptied_by none h true false = refl
emptied_by none h false true = refl
emptied_by none h false false = refl

pub emptied_all : {N : Type 0} (none : Cell N) (all hs : List (Shoen N)) (n : ℕ) → map (changed_below (Empties none) all n) hs ≡ map (emptied_below none all n) hs
emptied_all none all hs n = map_same (changed_below (Empties none) all n) (emptied_below none all n) hs (λ h. emptied_by none h (is_on_path_in all n h.number) (is_living h.life))
