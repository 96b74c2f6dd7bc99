-- What is told of an account that takes more bytes than it may.
use Rattle.std.specs.Prelude.{ℕ, Bool, true, false, Option, Some, None}
use Rattle.kl1_host_work.specs.declared.front.HostEvent.{HostEvent}
use Rattle.kl1_host_work.specs.declared.front.HostEvent.TheVariants.{Full, Freed}

-- what is told of an account that takes so many bytes, by whether these were too many before, and whether they are now: each change, once
abbrev pub told_of : Bool → Bool → ℕ → ℕ → Option HostEvent
told_of false true account bytes = Some (Full account bytes)
told_of true false account bytes = Some (Freed account bytes)
told_of false false account bytes = None
told_of true true account bytes = None
