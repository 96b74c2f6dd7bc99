-- The seats of the shared table: how they are made, and what one shows.
use Rattle.std.specs.Prelude.{◌≡◌, ℕ, zero, suc, ◌+◌, ◌*◌, ◌<◌, List, [], ◌∷◌, ◌++◌, take, drop}
use Rattle.atomic_table.specs.Seated.{TableId}
use Rattle.kl1_atoms.specs.declared.face.Face.{Face}
use Rattle.kl1_atoms.specs.declared.face.Size.{Size}
use Rattle.kl1_atoms.specs.declared.face.View.{View}
use Rattle.kl1_atoms.specs.Rule.{words_each}
use Rattle.kl1_atoms.specs.Plays.{own}

-- the face of an account that knows the built-in names alone: of a table with n entries it has `room` from `first` on
abbrev pub new_face : ℕ → ℕ → ℕ → Face
new_face n room first = record { entries = n; first = first; room = room; used = 0; knows = []; heard = []; draft = [] }

-- the faces of `count` accounts, whose entries follow each other from `first` on
abbrev pub faces_from : ℕ → ℕ → ℕ → ℕ → List Face
faces_from n room first zero = []
faces_from n room first (suc count) = new_face n room first ∷ faces_from n room (first + room) count

-- the view of the first seat: all accounts' faces
abbrev pub all_faces : Size → View
all_faces size = record { faces = faces_from size.entries size.room 0 size.accounts }

-- the first part of a view that is cut in two: its own face
abbrev pub own_part : View → View
own_part v = record { faces = take 1 v.faces }

-- the second part: the other faces
abbrev pub other_part : View → View
other_part v = record { faces = drop 1 v.faces }

-- two views made one: all faces of both
abbrev pub joint_view : View → View → View
joint_view v w = record { faces = v.faces ++ w.faces }

-- the view that is left of a seat that was joined to another
abbrev pub spent_view : View
spent_view = record { faces = [] }

-- the view of a seat at rest
abbrev pub view_in : List View → View
view_in [] = record { faces = [] }
view_in (v ∷ vs) = v

-- the face of a seat at rest
abbrev pub face_in : List View → Face
face_in vs = own (view_in vs)

-- a seat at rest speaks for one account
abbrev pub resting : Face → List View
resting f = record { faces = f ∷ [] } ∷ []

-- a seat is of a table: it is that table's, its face counts the table's entries, and its account is one of the table's
pub record IsSharedSeat (table seat : TableId) (accounts : ℕ) (face : Face) (account : ℕ) : Type 0 where
  pub table_is : seat ≡ table
  pub entries_are : table.words ≡ words_each * face.entries
  pub within : account < accounts

-- a seat as it is made: of the table, of its account, and with the built-in names alone
pub record IsNewSharedSeat (table seat : TableId) (accounts : ℕ) (face : Face) (account place : ℕ) : Type 0 where
  pub of : IsSharedSeat table seat accounts face account
  pub account_is : account ≡ place
  pub nothing : face.knows ≡ []
