-- What holds of an account between two looks that tell the same number of events in journals that resets ended.
use Rattle.std.specs.Prelude.{◌≡◌, List, [], ◌∷◌}
use Rattle.std.specs.List.{AllByRecursion}
use Rattle.kl1_model.specs.Event.{Event, reset}
use Rattle.kl1_model_server.specs.Journal.{Kept, done}
use Rattle.kl1_model_server.specs.laws.HistoryLaws.{IsReplay}
use Rattle.kl1_model_server.specs.laws.TextLaws.{HasBytes, IsWrittenDown}
use Rattle.kl1_pool.specs.declared.totals_before_reset.TotalsBeforeReset.{TotalsBeforeReset}
use Rattle.kl1_pool.specs.Counted.{past_by}

-- an account with its journal after events, in order
abbrev pub kept_after : Kept → List Event → Kept
kept_after k [] = k
kept_after k (e ∷ es) = kept_after (done k e).kept es

-- what was counted before its last reset after events, in order
abbrev pub past_of : TotalsBeforeReset → Kept → List Event → TotalsBeforeReset
past_of p k [] = p
past_of p k (e ∷ es) = past_of (past_by p k.journal (done k e).reply) (done k e).kept es

-- events none of which is a reset
abbrev pub HaveNoReset : List Event → Type 0
HaveNoReset es = AllByRecursion (λ e. e ≡ reset → ⊥) es

-- If as many events are counted before the last reset after some events as before them, the account with its journal is what it is after
-- events that have no reset: a reset in between found no entries and changed nothing. So the journal only grew.
abbrev pub SameEndedGrows : Type 0
SameEndedGrows =
    (p : TotalsBeforeReset) (k : Kept) (es : List Event) → IsReplay k → IsWrittenDown k → AllByRecursion HasBytes es → (past_of p k es).events ≡ p.events → (fs : List Event) × HaveNoReset fs × (kept_after k fs ≡ kept_after k es)
