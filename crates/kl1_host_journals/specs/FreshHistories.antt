-- The histories of an account that are new.
use Rattle.kl1_host_journals.specs.Books.{Books}
use Rattle.kl1_host_journals.specs.declared.fresh_history.FreshHistory.{FreshHistory}

-- which they are
abbrev pub books_of : FreshHistory → Books
books_of f = record { noted = f.seen.book }
