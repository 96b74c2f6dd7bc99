-- What is known of an account that was restored from its file, and of that file then.
use Rattle.std.specs.Prelude.{ℕ, List}
use Rattle.kl1_model.specs.declared.rules.Rules.{Rules}
use Rattle.kl1_model_server.specs.Journal.{Journal}
use Rattle.kl1_log.specs.declared.disk.Disk as disk
use Rattle.kl1_journal_stamps.specs.declared.shown_ids.ShownIds as shown_ids
use Rattle.kl1_host_journals.specs.declared.history.Naming as naming
use Rattle.kl1_pool.specs.Showing.{IsSeenOfSome}
use Rattle.kl1_host_work.specs.declared.restoring.Standing.{Standing}
use Rattle.kl1_host_work.specs.Linkages.{IsLinked}
use Rattle.kl1_host_work.specs.Restarts.{IsAllRestored}

module _ {D J : Type 0} {g : disk.Ghosts D} {h : naming.Ghosts J} {shown : shown_ids.Ghosts J} where
  -- all entries of this journal were done to some account of these rules and of this name, begun with the journal's names, and what waits for the file makes it one of the
  -- journal of such an account
  pub record IsStandingOf (rules : Rules) (named : List ℕ → Type 0) (j : Journal) (s : Standing D J g h shown) : Type 0 where
    pub restored : IsAllRestored rules named j s.entries
    pub linked : IsSeenOfSome rules named (IsLinked s.linked)
