-- A file that comes with an account, and is linked with its journal.
use Rattle.std.proofs.Common.{◌≡◌, ◌⊎◌, ℕ, List, sym, ap, subst, ◌∙◌, inl, inr}
use Rattle.std.specs.Prelude.{Some, slice_get}
use Rattle.kl1_model.specs.declared.rules.Rules.{Rules}
use Rattle.kl1_model_server.specs.Journal.{Journal}
use Rattle.kl1_journal_stamps.specs.Stamps.{StampValue}
use Rattle.kl1_log.specs.declared.disk.Disk as disk
use Rattle.kl1_journal_stamps.specs.declared.shown_ids.ShownIds as shown_ids
use Rattle.kl1_host_journals.specs.declared.history.Naming as naming
use Rattle.kl1_host_journals.specs.declared.linking.Linked.{Linked as LinkedFile}
use Rattle.kl1_pool.specs.Showing.{IsSeenOfSome}
use Rattle.kl1_host_work.specs.Linkages.{IsLinked, IsLinkedIf, IsOwnOf, IsRead, Takes}
use Rattle.kl1_host_work.specs.declared.linking.Linkage.{Linkage}
use Rattle.kl1_host_work.specs.declared.linking.Linking.{Linking}
use Rattle.kl1_host_work.specs.declared.linking.Linkage.TheVariants.{Unlinked, Linked, Failed}

module _ {D J : Type 0} {g : disk.Ghosts D} {h : naming.Ghosts J} {shown : shown_ids.Ghosts J} where
  -- a file takes the stamps of the account that it is of
  pub takes_own : (account : ℕ) (before : Linkage D J g h shown) (s : StampValue) → IsOwnOf account before → slice_get shown.histories account ≡ Some s.history → Takes before s
  takes_own account (Unlinked file own) s of at = subst (λ (k : ℕ). slice_get shown.histories k ≡ Some s.history) (sym of) at
  takes_own account (Linked l) s of at = tt
  takes_own account (Failed fault) s of at = tt

  read_linked : (account : ℕ) (before after : Linkage D J g h shown) (l : LinkedFile D J g h shown) (j : Journal) (generation : ℕ) → IsOwnOf account before → after ≡ Linked l → IsRead before after j generation → IsLinked l j generation
  read_linked account (Unlinked file own) after l j generation of is read = subst (λ (x : Linkage D J g h shown). IsLinkedIf x j generation) is read
  read_linked account (Linked k) after l j generation of is read = absurd of
  read_linked account (Failed fault) after l j generation of is read = absurd (let e : ⊥ = cc in e)

  not_linked : (account : ℕ) (before : Linkage D J g h shown) (l : LinkedFile D J g h shown) → IsOwnOf account before → before ≡ Linked l → ⊥
  not_linked account (Unlinked file own) l of is = cc
  not_linked account (Linked k) l of is = of
  not_linked account (Failed fault) l of is = cc

  -- a file that is linked now was shown the journal of some account
  pub linked_by : {A : Type 0} (rules : Rules) (named : List ℕ → Type 0) (account : ℕ) (before after : Linkage D J g h shown) (l : LinkedFile D J g h shown) → IsOwnOf account before → after ≡ Linked l → (after ≡ before) ⊎ (A × IsSeenOfSome rules named (λ j ended. IsRead before after j ended)) → IsSeenOfSome rules named (IsLinked l)
  linked_by rules named account before after l of is (inl same) = absurd (not_linked account before l of (sym same ∙ is))
  linked_by rules named account before after l of is (inr seen) =
      let s = seen.1 in
      (s.0, s.1, s.2, read_linked account before after l s.0.journal s.1 of is s.3)

  -- what is known of who comes with an account is known of the file that comes
  pub of_file : {A : Type 0} (before after : Linking D J g h shown) → (after ≡ before) ⊎ A → (after.linkage ≡ before.linkage) ⊎ A
  of_file before after (inl same) = inl (ap (λ (l : Linking D J g h shown). l.linkage) same)
  of_file before after (inr seen) = inr seen
