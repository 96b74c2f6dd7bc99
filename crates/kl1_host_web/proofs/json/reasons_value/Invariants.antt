use Rattle.std.proofs.Common.{◌≡◌, false, map}
use Rattle.serde_json.specs.View.{view, items_of}
use Rattle.serde_json.specs.Written.{items_have_float}
use Rattle.kl1_host_web.proofs.json.reasons_value.Given as goal

-- no reason so far has a float
abbrev pub invariant-loop-reason : goal.invariant-loop-reason
invariant-loop-reason l = items_have_float (items_of (map view l.values.items)) ≡ false
