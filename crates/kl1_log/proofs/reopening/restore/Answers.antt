use Rattle.std.proofs.Common.{subst}
use Rattle.kl1_log.specs.Cuts.{IsFound}
use Rattle.kl1_log.specs.declared.recovery.Found.{Found}
use Rattle.kl1_log.specs.declared.recovery.Found.TheVariants.{Whole, Fault, Unopened}
use Rattle.kl1_log.proofs.Restoring.{still_text, found_of}
use Rattle.kl1_log.proofs.reopening.restore.Goals as goal

pub cut_whole-requires-clause-text : goal.cut_whole-requires-clause-text
cut_whole-requires-clause-text g c =
    still_text (g.D.Disk.known c.args.disk.now) (g.D.Disk.known c.read.new.self) c.in_ok-bytes.bytes.items c.deref-in-Whole.result.now c.in_ok-bytes.ensures.known c.deref-in-Whole.ensures.value c.in_ok-bytes.ensures.bytes

pub returns-in-Whole-clause-found : goal.returns-in-Whole-clause-found
returns-in-Whole-clause-found g c =
    found_of (g.D.Disk.known c.args.disk.now) c.in_ok-bytes.bytes.items c.deref.result.now (Whole c.in-Whole.journal c.in-Whole.len) c.in_ok-bytes.ensures.bytes c.deref.ensures.value
    (subst (λ (f : Found). IsFound c.deref.result.now f) c.in-Whole.is c.in_ok-journal.ensures)

pub returns-in-Fault-clause-found : goal.returns-in-Fault-clause-found
returns-in-Fault-clause-found g c =
    found_of (g.D.Disk.known c.args.disk.now) c.in_ok-bytes.bytes.items c.deref.result.now (Fault c.in-Fault.line c.in-Fault.before) c.in_ok-bytes.ensures.bytes c.deref.ensures.value
    (subst (λ (f : Found). IsFound c.deref.result.now f) c.in-Fault.is c.in_ok-journal.ensures)

pub returns-clause-found : goal.returns-clause-found
returns-clause-found g c =
    found_of (g.D.Disk.known c.args.disk.now) c.in_ok-bytes.bytes.items c.deref.result.now Unopened c.in_ok-bytes.ensures.bytes c.deref.ensures.value
    (subst (λ (f : Found). IsFound c.deref.result.now f) c.in-Unopened.is c.in_ok-journal.ensures)
