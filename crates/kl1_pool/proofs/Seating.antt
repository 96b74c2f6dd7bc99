-- Seats of accounts in which nothing has happened.
use Rattle.std.proofs.Common.{◌≡◌, ◌≤◌, ℕ, List, [], ◌∷◌, ◌++◌, get_or, slice_get, Some, subst, sym}
use Rattle.std.specs.Prelude.{All, IfSome, Option}
use Rattle.std.proofs.lemmas.List.Elements.{All-pop}
use Rattle.std.proofs.lemmas.Option.{slice_get-get_or}
use Rattle.atomic_table.specs.Seated.{TableId}
use Rattle.kl1_atoms.specs.Seats.{face_in, IsNewSharedSeat}
use Rattle.kl1_atoms.specs.declared.atom_seat.AtomSeat.{AtomSeat}
use Rattle.kl1_model.specs.declared.rules.Rules.{Rules}
use Rattle.kl1_model.specs.Rules.{limits_of}
use Rattle.kl1_pool.specs.Parts.{HasRoomFor, AreFreshSeats}

-- seats of a table with this room have room for the names of rules that allow no more
pub has_room : (rules : Rules) (room : ℕ) (seats : List AtomSeat) → (limits_of rules).names ≤ room →
    ((k : ℕ) (seat : AtomSeat) → slice_get seats k ≡ Some seat → (face_in seat.badge.views).room ≡ room) → (k : ℕ) (seat : AtomSeat) → slice_get seats k ≡ Some seat → HasRoomFor rules seat
has_room rules room seats enough each k seat at = subst (λ n. (limits_of rules).names ≤ n) (sym (each k seat at)) enough

-- seats as they are made know the built-in names alone
pub fresh_seats : (table : TableId) (accounts : ℕ) (rules : Rules) (seats : List AtomSeat) →
    ((k : ℕ) (seat : AtomSeat) → slice_get seats k ≡ Some seat → IsNewSharedSeat table seat.badge.table_id accounts (face_in seat.badge.views) seat.account k) →
    ((k : ℕ) (seat : AtomSeat) → slice_get seats k ≡ Some seat → HasRoomFor rules seat) → AreFreshSeats table accounts rules seats
fresh_seats table accounts rules seats new room k d lt =
    let at = slice_get-get_or seats k d lt in
    let is = new k (get_or seats k d) at in
    ((is.of, room k (get_or seats k d) at), is.nothing)

-- what holds of each of a list holds of each but the last
pub but_last : {X : Type 0} (P : X → Type 0) (xs ys : List X) (x : X) → xs ≡ ys ++ x ∷ [] → All P xs → All P ys
but_last P xs ys x e h = (All-pop P xs ys (Some x) e h).0

-- what holds of what is there, if it is this
pub some_is : {X : Type 0} (P : X → Type 0) (o : Option X) (x : X) → o ≡ Some x → IfSome o P → P x
some_is P o x is h = subst (λ q. IfSome q P) is h
