-- Which history each account has.
use Rattle.std.specs.Prelude.{◌≡◌, ◌<◌, ℕ, zero, suc, List, [], ◌∷◌, length, get_or}
use Rattle.kl1_host_journals.specs.Books.{Books, no_books}
use Rattle.kl1_host_journals.specs.FreshHistories.{books_of}
use Rattle.kl1_host_journals.specs.declared.fresh_history.FreshHistory.{FreshHistory}

-- the books of the history at a place, counted from 0
abbrev pub books_at : List FreshHistory → ℕ → Books
books_at [] n = no_books
books_at (h ∷ hs) zero = books_of h
books_at (h ∷ hs) (suc n) = books_at hs n

-- each account has the history at its place
abbrev pub AreFresh : (ℕ → Books) → List FreshHistory → Type 0
AreFresh books hs = (k : ℕ) (d : FreshHistory) → k < length hs → books_of (get_or hs k d) ≡ books k
