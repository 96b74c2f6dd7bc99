-- What stands behind a gate.
use Rattle.kl1_host_journals.specs.declared.gate.Gate.{Gate}

-- the writer to which bytes go only by a leave
abbrev pub writer_behind : {T C : Type 0} → Gate T C → T
writer_behind g = g.writer
