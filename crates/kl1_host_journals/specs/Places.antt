-- What was noted for a file up to a moment.
use Rattle.std.specs.Prelude.{ℕ, List}
use Rattle.kl1_journal_stamps.specs.declared.shown_ids.ShownIds as shown_ids
use Rattle.kl1_host_journals.specs.declared.history.Naming as naming
use Rattle.kl1_host_journals.specs.declared.history.History.{History}
use Rattle.kl1_host_journals.specs.declared.place.Place.{Place}
use Rattle.kl1_host_journals.specs.declared.edition.Edition.{Edition}
use Rattle.kl1_host_journals.specs.Editions.{last_of}

module _ {J : Type 0} {g : naming.Ghosts J} {shown : shown_ids.Ghosts J} where
  -- the account
  abbrev pub account_of : Place J g shown → ℕ
  account_of p = p.account

  -- all that was noted
  abbrev pub log_of : Place J g shown → List Edition
  log_of p = p.seen.log

  -- what was noted last
  abbrev pub edition_of : Place J g shown → Edition
  edition_of p = last_of p.seen.log

  -- the account of a history
  abbrev pub account_of_history : History J g shown → ℕ
  account_of_history h = h.account

  -- all that a history has
  abbrev pub log_of_history : History J g shown → List Edition
  log_of_history h = h.seen.log
