-- What contracts see of the parts of a pool that no type names yet, and of new seats.
use Rattle.std.specs.Prelude.{◌≡◌, ◌≤◌, ℕ, List, [], All, map, slice_get, Some}
use Rattle.atomic_table.specs.Seated.{TableId}
use Rattle.boxcar.specs.Table.{Shelves}
use Rattle.kl1_model.specs.declared.rules.Rules.{Rules}
use Rattle.kl1_model.specs.Rules.{limits_of}
use Rattle.kl1_atoms.specs.Seats.{face_in, IsSharedSeat}
use Rattle.kl1_atoms.specs.declared.atom_seat.AtomSeat.{AtomSeat}
use Rattle.kl1_tally.specs.Seats.{Book}
use Rattle.kl1_journal_stamps.specs.Stamps.{HistoryId, ShownValue, AreNew, histories_of}

-- which table of names they have, and for how many accounts that was made; which table of codes; which rules the accounts keep to, and
-- what the first of them are called; how many bytes each may take; which
-- tally and which queue; and for how many accounts and shares these are
pub record PoolPartsValue : Type 0 where
  pub table : TableId
  pub seats : ℕ
  pub codes : Shelves
  pub rules : Rules
  pub names : List (List ℕ)
  pub most_bytes : ℕ
  pub tally : TableId
  pub queue : TableId
  pub accounts : ℕ
  pub shares : ℕ
  pub histories : List HistoryId  -- of the journals of each account that are shown

-- a seat has room for as many names as these rules allow
abbrev pub HasRoomFor : Rules → AtomSeat → Type 0
HasRoomFor rules seat = (limits_of rules).names ≤ (face_in seat.badge.views).room

-- a seat of a table of names that was made for this number of accounts, with room for the names of an account of these rules
abbrev pub IsSeatOf : TableId → ℕ → Rules → AtomSeat → Type 0
IsSeatOf table accounts rules seat = IsSharedSeat table seat.badge.table_id accounts (face_in seat.badge.views) seat.account × HasRoomFor rules seat

-- such a seat, which knows the built-in names alone
abbrev pub IsFreshSeat : TableId → ℕ → Rules → AtomSeat → Type 0
IsFreshSeat table accounts rules seat = IsSeatOf table accounts rules seat × ((face_in seat.badge.views).knows ≡ [])

-- each of these is such a seat
abbrev pub AreFreshSeats : TableId → ℕ → Rules → List AtomSeat → Type 0
AreFreshSeats table accounts rules seats = All (IsFreshSeat table accounts rules) seats

-- these stand at the numbers of the accounts that these books are of
abbrev pub AreAt : {X : Type 0} → List X → List Book → List X → Type 0
AreAt {X} all books xs = map (λ (b : Book). slice_get all b.account) books ≡ map (λ (x : X). Some x) xs

-- so do these histories, in which no journal was shown yet
abbrev pub AreUnshown : List HistoryId → List Book → List ShownValue → Type 0
AreUnshown all books shown = AreAt all books (histories_of shown) × AreNew shown
