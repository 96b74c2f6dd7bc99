-- What a step that counts tells the seat that takes it.
use Rattle.std.specs.Prelude.{◌≡◌, ℕ, ◌<◌, ◌≤◌, Bool, [], ◌∷◌, ◌++◌, slice_index}
use Rattle.atomic_table.specs.Table.{Step, Me}
use Rattle.kl1_tally.specs.declared.view.Mark.{Mark}
use Rattle.kl1_tally.specs.declared.view.View.{View}
use Rattle.kl1_tally.specs.Numbers.{times}
use Rattle.kl1_tally.specs.Marks.{events_at}
use Rattle.kl1_tally.specs.Views.{view_of}

-- the first account of a view
abbrev pub account_of : View → ℕ
account_of v = slice_index v.names 0

-- a mark of the first account of a view
abbrev pub mark_of : View → Bool → Mark
mark_of v step = record { account = account_of v; step = step }

-- a view with one mark more in its book and in what it has counted
abbrev pub raised : View → Bool → View
raised v step = view_of v.parts v.names (v.book ++ mark_of v step ∷ []) (v.amount ++ mark_of v step ∷ [])

-- a view may count: it has a part and an account
pub record CanRaise (v : View) : Type 0 where
  pub some : 0 < v.parts
  pub one : times (account_of v) v.names ≡ 1

-- a view has counted no more of its first account than stands in its book
abbrev pub IsBounded : View → Type 0
IsBounded v = events_at (account_of v) v.amount ≤ events_at (account_of v) v.book

-- a step that counts one event: it stands in the book and in what was counted
abbrev pub RaisesBy : {S : Type 0} → Bool → Step S → Me S View → ℕ → Me S View → Type 0
RaisesBy step s before found after = (after ≡ (raised before.0 step, before.1)) × IsBounded before.0
