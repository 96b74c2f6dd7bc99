use Rattle.std.proofs.Common.{ap}
use Rattle.kl1_model_server.specs.Replay.{replay_output}
use Rattle.kl1_sums.proofs.SumTexts.{journals_stay}
use Rattle.kl1_script.specs.Replays.{replay_replies}
use Rattle.kl1_script.proofs.journals_are_replayed.Goals as goal

pub returns : goal.returns
returns c text line lines h whole heading =
    let same = journals_stay text line lines h whole heading in
    (ap replay_output same, ap replay_replies same)
