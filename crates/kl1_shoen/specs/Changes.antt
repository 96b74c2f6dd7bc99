-- What becomes of one shoen.
use Rattle.std.specs.Prelude.{◌≡◌, ℕ, true, if◌then◌else◌, List, Some, option_map, unwrap_or}
use Rattle.kl1_model.specs.declared.life.Life.TheVariants.{Aborted}
use Rattle.kl1_model.specs.State.{is_living}
use Rattle.kl1_model.specs.Reduction.{grown}
use Rattle.kl1_store.specs.declared.cell.Cell.{Cell}
use Rattle.kl1_shoen_paths.specs.declared.shoen.Shoen.{Shoen}
use Rattle.kl1_shoen_paths.specs.declared.shoen.Origin.{Origin}
use Rattle.kl1_shoen.specs.Shoens.{is_on_path_in, control_left, ended_with, empty_with}
use Rattle.kl1_shoen.specs.declared.change.Change.{Change}
use Rattle.kl1_shoen.specs.declared.change.Change.TheVariants.{Tail, Control, OriginControl, Breaks, Stopped, Allows, Ends, Leaves, Aborts, Forgets, Empties}

-- what the console keeps, with this tail of the control stream
abbrev pub with_control : {N : Type 0} → Cell N → Origin N → Origin N
with_control control o = record o { control = control }

-- what the console keeps, without its first `count` reports, of which this is left
abbrev pub reports_left : {N : Type 0} → ℕ → Cell N → Origin N → Origin N
reports_left count left o = record o { forgotten = count; reports = left }

-- a shoen after a change
abbrev pub changed_by : {N : Type 0} → Change N → Shoen N → Shoen N
changed_by (Tail tail) h = record h { tail = tail }
changed_by (Control control) h = record h { control = control }
changed_by (OriginControl control) h = record h { origin = option_map (with_control control) h.origin }
changed_by (Breaks left) h = record h { is_broken = true; tail = unwrap_or left h.tail }
changed_by (Stopped is_stopped) h = record h { is_stopped = is_stopped }
changed_by (Allows extra) h = record h { allowance = grown h.allowance extra }
changed_by (Ends life) h = record h { life = life }
changed_by (Leaves left) h = record h { control = control_left (Some left) h.origin h.control }
changed_by (Aborts left) h = if is_living h.life then ended_with left Aborted h else h
changed_by (Forgets count left) h = record h { origin = option_map (reports_left count left) h.origin }
changed_by (Empties none) h = if is_living h.life then h else empty_with none h

-- a shoen after a change of one on whose path it may be
abbrev pub changed_below : {N : Type 0} → Change N → List (Shoen N) → ℕ → Shoen N → Shoen N
changed_below c shoens n h = if is_on_path_in shoens n h.number then changed_by c h else h

-- a change that comes to nothing more if it is made again
abbrev pub IsOnce : {N : Type 0} → Change N → Type 0
IsOnce {N = N} c = (h : Shoen N) → changed_by c (changed_by c h) ≡ changed_by c h
