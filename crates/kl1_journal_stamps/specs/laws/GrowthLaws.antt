-- How journals grow.
use Rattle.std.specs.Prelude.{◌≡◌}
use Rattle.kl1_model.specs.Event.{Event, reset}
use Rattle.kl1_model_server.specs.Journal.{Journal, Kept, done}
use Rattle.kl1_model_server.specs.laws.HistoryLaws.{IsReplay}
use Rattle.kl1_journal_stamps.specs.Later.{IsLater}

-- Each event but a reset makes a journal grow, or leaves it.
abbrev pub EventsGrow : Type 0
EventsGrow = (k : Kept) (e : Event) → IsReplay k → (e ≡ reset → ⊥) → IsLater k.journal (done k e).kept.journal

-- Growing goes on.
abbrev pub GrowthGoesOn : Type 0
GrowthGoesOn = (i j k : Journal) → IsLater i j → IsLater j k → IsLater i k

-- A journal has grown into itself.
abbrev pub GrowthBegins : Type 0
GrowthBegins = (j : Journal) → IsLater j j
