use Rattle.std.proofs.Common.{ap, ◌∙◌}
use Rattle.std.specs.Prelude.{Option, Some, option_map}
use Rattle.kl1_log.specs.Files.{Bytes, content, settled}
use Rattle.kl1_log.specs.Memories.{bytes_of}
use Rattle.kl1_log.proofs.Courses.{same_states}
use Rattle.kl1_log.proofs.snapshot.Snapshot.next_synced.Goals as goal

pub returns : goal.returns
returns c =
    let next = bytes_of c.in-Some.next in (
      next,
      ap (option_map bytes_of) c.in-Some.is,
      same_states (bytes_of c.in_ok-held.held) (bytes_of c.args.self.now.held) (option_map bytes_of c.in_ok-before.before) (option_map bytes_of c.args.self.now.before) (Some (bytes_of c.on_disk.result)) (Some (settled (content next))) c.in_ok-held.ensures c.in_ok-before.ensures
          (ap (λ (b : Bytes). let o : Option Bytes = Some b in o) (c.on_disk.ensures ∙ ap settled c.in_ok-bytes.ensures)),
    )
