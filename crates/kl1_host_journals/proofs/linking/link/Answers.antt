use Rattle.std.proofs.Common.{ℕ, List, sym, ap, ◌∙◌, subst}
use Rattle.std.specs.Prelude.{option_map}
use Rattle.kl1_log.specs.Batches.{text_of, text_after}
use Rattle.kl1_log.specs.LogFiles.{disk_of}
use Rattle.kl1_log.specs.Waits.{IsUpTo}
use Rattle.kl1_log.specs.declared.waiting.Waiting.{Waiting}
use Rattle.kl1_host_journals.specs.Links.{IsUpToIf}
use Rattle.kl1_host_journals.specs.Notes.{waiting_of}
use Rattle.kl1_host_journals.proofs.LinkedFiles.{read_up_to, taken_up_to, same_text}
use Rattle.kl1_host_journals.proofs.linking.link.Goals as goal

pub returns-in-Ok-write-clause-link : goal.returns-in-Ok-write-clause-link
returns-in-Ok-write-clause-link g c =
    let k = g.D.Disk.known c.into_disk-disk.result in
    let u = text_of (g.D.Disk.known (disk_of c.write.new.self)) in
    let v = c.in_ok-waiting.waiting in
    let n = c.new-notes.result in
    let j = c.args.journal.now.journal in
    let change = c.take.result.change in
    let begun : IsUpToIf v (text_of k) j = read_up_to k v c.in-Ok.bytes.items j c.in-Ok.ensures.bytes (subst (λ (x : List ℕ). IsUpTo v x j) c.as_slice.ensures.value c.in_ok-waiting.ensures.file) in
    let held : IsUpToIf (waiting_of n) (text_of k) j = subst (λ (w : Waiting). IsUpToIf w (text_of k) j) (sym c.new-notes.ensures.waiting) begun in
    let same = same_text g.D.Disk.known (disk_of c.new-file.result) c.read.new.self c.new-file.ensures.disk ∙ ap text_of c.in-Ok.ensures.known in
    taken_up_to (waiting_of n) (waiting_of c.take.new.self) change (text_of k) u j c.take.ensures.file (c.in-Ok-write.ensures.on_disk.1 ∙ ap (option_map (λ (text : List ℕ). text_after text change)) same) held
