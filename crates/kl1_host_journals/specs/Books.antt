-- Which histories an account has.
use Rattle.logbook.specs.Pages.{Book}

-- that of what was noted for its file
pub record Books : Type 0 where
  pub noted : Book

abbrev pub no_book : Book
no_book = record { number = 0; log_name = 0; cells_name = 0 }

-- those of no account
abbrev pub no_books : Books
no_books = record { noted = no_book }
