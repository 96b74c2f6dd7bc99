use Rattle.std.proofs.Common.{◌≡◌, false, map}
use Rattle.serde_json.specs.View.{view, items_of}
use Rattle.serde_json.specs.Written.{items_have_float}
use Rattle.kl1_host_web.proofs.pages.shoens_value.Given as goal

-- no shoen so far has a float
abbrev pub invariant-loop-view : goal.invariant-loop-view
invariant-loop-view l = items_have_float (items_of (map view l.shoens.items)) ≡ false
