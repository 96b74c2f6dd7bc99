use Rattle.std.proofs.Common.{◌≡◌, true, ap, sym, ◌∙◌, subst}
use Rattle.std.proofs.lemmas.Bool.{false≢true}
use Rattle.kl1_log.specs.LogFiles.{disk_of, IsKept}
use Rattle.kl1_log.specs.Receipts.{account_of, changes_of}
use Rattle.kl1_log.specs.declared.log_error.LogError.{LogError}
use Rattle.kl1_host_journals.specs.KeptFiles.{file_of}
use Rattle.kl1_host_journals.proofs.scribe.Scribe.put.Goals as goal

pub returns-in-Ok-clause-written : goal.returns-in-Ok-clause-written
returns-in-Ok-clause-written g c = λ _. (
  c.in-Ok.ensures.place,
  (ap account_of c.publish.ensures ∙ c.in-Ok.ensures.receipt.0, ap changes_of c.publish.ensures ∙ c.in-Ok.ensures.receipt.1),
)

pub returns-in-Err-Memory-clause-fault : goal.returns-in-Err-Memory-clause-fault
returns-in-Err-Memory-clause-fault g c = λ was is.
    let P : Type 0 = g.D.Disk.is_usable (disk_of (file_of c.write.new.self)) ≡ true in
    let kept : P = subst (λ (e : LogError). IsKept e P) c.in-Err-Memory.field-0-is c.in-Err-Memory.ensures.kept in
    absurd (false≢true (sym is ∙ kept))
