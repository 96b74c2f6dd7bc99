-- What seats of the tally know, and how it is cut in two and put together.
use Rattle.std.specs.Prelude.{◌≡◌, ℕ, ◌+◌, ◌-◌, ◌<◌, List, [], ◌++◌, take, drop}
use Rattle.kl1_tally.specs.declared.view.Mark.{Mark}
use Rattle.kl1_tally.specs.declared.view.View.{View}
use Rattle.kl1_tally.specs.Numbers.{up_from, times}
use Rattle.kl1_tally.specs.Marks.{events_at}

-- a view by its parts, its accounts, what stands in their books, and what it has counted
abbrev pub view_of : ℕ → List ℕ → List Mark → List Mark → View
view_of parts names book amount = record { parts = parts; names = names; book = book; amount = amount }

-- the view of the first seat: a part for each book and each share, and all accounts, whose books are empty
abbrev pub whole : ℕ → ℕ → View
whole accounts shares = view_of (accounts + shares) (up_from 0 accounts) [] []

-- the first part of a view that is cut in two: its first account, and the book
abbrev pub own_part : View → View
own_part v = view_of 1 (take 1 v.names) v.book []

-- the second part: the other accounts, and what was counted
abbrev pub other_part : View → View
other_part v = view_of (v.parts - 1) (drop 1 v.names) [] v.amount

-- two views made one
abbrev pub joint_view : View → View → View
joint_view v w = view_of (v.parts + w.parts) (v.names ++ w.names) (v.book ++ w.book) (v.amount ++ w.amount)

-- a view with nothing
abbrev pub spent_view : View
spent_view = view_of 0 [] [] []

-- a view may be cut in two: what stands in its book is of its first account, and if nothing is left but that book, nothing was counted
pub record CanPart (v : View) : Type 0 where
  pub some : 0 < v.parts
  pub own : (k : ℕ) → times k (take 1 v.names) ≡ 0 → events_at k v.book ≡ 0
  pub last : v.parts ≡ 1 → (drop 1 v.names ≡ []) × (v.amount ≡ [])
