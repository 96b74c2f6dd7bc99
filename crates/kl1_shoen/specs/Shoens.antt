-- Shoens in order of number, as a tree: charges, and which are enabled.
use Rattle.std.specs.Prelude.{◌≡◌, ◌≤◌, ℕ, suc, ◌==◌, nat_le, not, ◌&&◌, ◌||◌, Bool, false, true, if◌then◌else◌, Option, Some, None, List, map, length, find, get_or, take, count_by, option_map, unwrap_or}
use Rattle.std.specs.List.{AllByRecursion, list_any}
use Rattle.kl1_model.specs.declared.life.Life.{Life}
use Rattle.kl1_model.specs.declared.life.Life.TheVariants.{Aborted, Forgotten}
use Rattle.kl1_model.specs.State.{is_living}
use Rattle.kl1_store.specs.declared.cell.Cell.{Cell}
use Rattle.kl1_shoen_paths.specs.declared.shoen.Origin.{Origin}
use Rattle.kl1_shoen_paths.specs.declared.shoen.Shoen.{Shoen}
use Rattle.kl1_shoen_paths.specs.Tracked.{Tracked}
use Rattle.kl1_shoen_paths.specs.Below.{Links, AreLinked}
pub use Rattle.kl1_shoen_paths.specs.Paths.{has_number, AreNumbered, parents_in, AreLower, path_in, is_on_path_in}
pub use Rattle.kl1_shoen_paths.specs.Below.{AreBelow}

-- the shoens of an account in order of number, from 1; for each charged reduction the number of its shoen, the newest first; both as
-- they were when the event began; and how many more shoens can be opened without asking for memory
pub record Tree (N : Type 0) : Type 0 where
  pub shoens : List (Shoen N)
  pub work : List ℕ
  pub kept : List (Shoen N)
  pub kept_work : List ℕ
  pub room : ℕ

-- shoen `n`
abbrev pub shoen_in : {N : Type 0} → ℕ → List (Shoen N) → Option (Shoen N)
shoen_in n shoens = find (has_number n) shoens

-- what a shoen is charged: one for each reduction that was done in it or below it
abbrev pub charged_in : {N : Type 0} → List (Shoen N) → List ℕ → ℕ → ℕ
charged_in shoens work a = count_by (λ w. is_on_path_in shoens a w) work

-- whether a shoen was charged as much as it may be
abbrev pub is_exhausted_in : {N : Type 0} → List (Shoen N) → List ℕ → Shoen N → Bool
is_exhausted_in shoens work h = nat_le h.allowance (charged_in shoens work h.number)

-- whether a shoen holds back the goals in it and below it
abbrev pub is_blocking_in : {N : Type 0} → List (Shoen N) → List ℕ → Shoen N → Bool
is_blocking_in shoens work h = h.is_stopped || not (is_living h.life) || is_exhausted_in shoens work h

-- whether shoen `n` holds back the goals in it and below it
abbrev pub is_blocking_at : {N : Type 0} → List (Shoen N) → List ℕ → ℕ → Bool
is_blocking_at shoens work n = unwrap_or (option_map (is_blocking_in shoens work) (shoen_in n shoens)) false

-- whether goals of a shoen are enabled: no shoen on its path holds them back
abbrev pub is_enabled_at : {N : Type 0} → List (Shoen N) → List ℕ → ℕ → Bool
is_enabled_at shoens work n = not (list_any (is_blocking_at shoens work) (path_in shoens n))

-- whether shoen `n` was charged just what it may be
abbrev pub has_reached_in : {N : Type 0} → List (Shoen N) → List ℕ → ℕ → Bool
has_reached_in shoens work n = unwrap_or (option_map (λ h. h.allowance == charged_in shoens work n) (shoen_in n shoens)) false

-- whether shoen `n` lives
abbrev pub lives_in : {N : Type 0} → List (Shoen N) → ℕ → Bool
lives_in shoens n = unwrap_or (option_map (λ h. is_living h.life) (shoen_in n shoens)) false

-- whether a shoen lives and is a child of another
abbrev pub is_living_child_of : {N : Type 0} → ℕ → Shoen N → Bool
is_living_child_of n h = h.parent == n && is_living h.life

-- shoens, shoen `n` changed
abbrev pub changed : {N : Type 0} → ℕ → (Shoen N → Shoen N) → List (Shoen N) → List (Shoen N)
changed n f shoens = map (λ h. if has_number n h then f h else h) shoens

-- what is left of the control stream of a shoen that ends: this, if it is told, unless the console keeps the stream
abbrev pub control_left : {N : Type 0} → Option (Cell N) → Option (Origin N) → Cell N → Cell N
control_left None origin control = control
control_left (Some left) None control = left
control_left (Some left) (Some o) control = control

-- a shoen that ended in this way, of whose control stream this is left
abbrev pub ended_with : {N : Type 0} → Option (Cell N) → Life → Shoen N → Shoen N
ended_with left life h = record h { life = life; control = control_left left h.origin h.control }

-- a shoen after an abort of one on whose path it may be: it is ended, if it lives
abbrev pub aborted_below_in : {N : Type 0} → Option (Cell N) → List (Shoen N) → ℕ → Shoen N → Shoen N
aborted_below_in left shoens n h = if is_living h.life && is_on_path_in shoens n h.number then ended_with left Aborted h else h

-- the place of a shoen that was let go, with this in place of its streams
abbrev pub empty_with : {N : Type 0} → Cell N → Shoen N → Shoen N
empty_with none h = record h { life = Forgotten; is_stopped = false; low = 0; high = 0; control = none; tail = none; is_broken = true; origin = None }

-- a shoen after one was let go on whose path it may be: its place, if it has ended
abbrev pub emptied_below : {N : Type 0} → Cell N → List (Shoen N) → ℕ → Shoen N → Shoen N
emptied_below none shoens n h = if not (is_living h.life) && is_on_path_in shoens n h.number then empty_with none h else h

-- shoens in order of number are a tree, and each was charged what the reductions come to
pub record AreCharged {N : Type 0} (shoens : List (Shoen N)) (charges work : List ℕ) : Type 0 where
  pub numbered : AreNumbered 0 shoens
  pub lower : AreLower shoens
  pub worked : AllByRecursion (λ w. w ≤ length shoens) work
  pub count : length charges ≡ length shoens
  pub charged : (k : ℕ) → get_or charges k 0 ≡ charged_in shoens work (suc k)

-- of a shoen of this parent and life, 1 if it is a living child of shoen `n`
abbrev pub counted_under : ℕ → ℕ → Life → ℕ
counted_under n parent life = if parent == n && is_living life then 1 else 0

-- of each number, from 0, how many shoens live whose parent has it
pub record AreCounted {N : Type 0} (shoens : List (Shoen N)) (children : List ℕ) : Type 0 where
  pub lower : AreLower shoens
  pub count : length children ≡ length shoens
  pub counted : (n : ℕ) → get_or children n 0 ≡ count_by (is_living_child_of n) shoens

-- shoens with their counts, now and as they were, and room in each list for what is promised
pub record IsCounted {N : Type 0} (shoens : Tracked (Shoen N)) (children : Tracked ℕ) (room : ℕ) : Type 0 where
  pub now : AreCounted shoens.now children.now
  pub kept : AreCounted shoens.kept children.kept
  pub shoens_room : room ≤ shoens.room
  pub children_room : room ≤ children.room
  pub changes : room ≤ children.changes

-- the children of each are linked, now and as they were when the event began, and since then shoens were only opened
pub record AreLinkedSince {N : Type 0} (shoens before : List (Shoen N)) (l : Links) : Type 0 where
  pub now : AreLinked (parents_in shoens) l.first l.next
  pub kept : AreLinked (parents_in before) l.kept_first l.kept_next
  pub grown : parents_in before ≡ take (length before) (parents_in shoens)
