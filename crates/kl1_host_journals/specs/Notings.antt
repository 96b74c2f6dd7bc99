-- What was noted last of a file.
use Rattle.std.specs.Prelude.{◌≡◌, ℕ, List}
use Rattle.kl1_log.specs.Batches.{text_after}
use Rattle.kl1_log.specs.Waits.{mark_of}
use Rattle.kl1_host_journals.specs.declared.edition.Edition.{Edition}
use Rattle.kl1_host_journals.specs.declared.notes.Notes.{Notes}
use Rattle.kl1_host_journals.specs.Editions.{last_of, lines_of, run_of}
use Rattle.kl1_host_journals.specs.Notes.{waiting_of, generation_of, number_of, change_of}

-- what was noted last of a file that is to hold `base` before it gets what waits
pub record IsNotedOver (base : List ℕ) (n : Notes) (last : Edition) : Type 0 where
  pub number : last.number ≡ number_of n
  pub generation : last.generation ≡ generation_of n
  pub text : last.text ≡ text_after base (change_of n)

-- the mark is at the end of the journal that was noted last
pub record IsMarked (n : Notes) (log : List Edition) : Type 0 where
  pub lines : (mark_of (waiting_of n)).lines ≡ lines_of (last_of log)
  pub run : (mark_of (waiting_of n)).run ≡ run_of (last_of log)
