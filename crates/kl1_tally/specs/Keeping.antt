-- What a book and a share are to the rule of the tally.
use Rattle.std.specs.Prelude.{◌≡◌, ◌≢◌, ℕ, ◌<◌, List, [], ◌∷◌, length, slice_index}
use Rattle.kl1_tally.specs.declared.view.View.{View}
use Rattle.kl1_tally.specs.Marks.{events_at, steps_at}
use Rattle.kl1_tally.specs.Views.{view_of, spent_view}

-- the view of a seat at rest
abbrev pub view_in : List View → View
view_in [] = spent_view
view_in (v ∷ vs) = v

-- a book has one part, its account, as many marks of it as it tells, and of no other account
pub record IsBook (views : List View) (account events steps : ℕ) : Type 0 where
  pub rests : views ≡ view_of 1 (account ∷ []) (view_in views).book [] ∷ []
  pub own : (k : ℕ) → k ≢ account → events_at k (view_in views).book ≡ 0
  pub events_are : events ≡ events_at account (view_in views).book
  pub steps_are : steps ≡ steps_at account (view_in views).book

-- a share has one part, no account, and of each account as many marks as it tells
pub record IsShare (views : List View) (events steps : List ℕ) : Type 0 where
  pub rests : views ≡ view_of 1 [] [] (view_in views).amount ∷ []
  pub events_are : (k : ℕ) → k < length events → slice_index events k ≡ events_at k (view_in views).amount
  pub steps_are : (k : ℕ) → k < length steps → slice_index steps k ≡ steps_at k (view_in views).amount
