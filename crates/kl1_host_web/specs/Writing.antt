-- What is written to a connection.
use Rattle.std.specs.Prelude.{◌≡◌, ◌<◌, ◌⊎◌, ℕ, Bool, false, ◌++◌, List, [], ◌∷◌, Ok, Err}
use Rattle.std.specs.declared.option.Option.{Option}
use Rattle.std.specs.Io.KnownBytes.{Appends}
use Rattle.kl1_lines.specs.Devices.{AppendsFront}
use Rattle.kl1_host_door.specs.declared.refusal.Refusal.{Refusal}
use Rattle.kl1_host_door.specs.declared.refusal.Refusal.TheVariants as refusal
use Rattle.kl1_host_door.specs.declared.answer.Answer.{Answer}
use Rattle.kl1_host_door.specs.declared.door.Site.{Site}
use Rattle.kl1_host_door.specs.Answers.{answer_text}
use Rattle.kl1_host_door.specs.Doors.{is_secure}
use Rattle.kl1_host_web.specs.Asking.{Asked, House}
use Rattle.kl1_host_web.specs.Telling.{IsRefusal}
use Rattle.kl1_host_web.specs.Serving.{Exchange, goes_on, Serves, IsUnread, AsksNoMore}

-- the bytes of the answer to a request; none if there was no memory for an answer
abbrev pub response : List Site → Exchange → List ℕ
response sites x = elim x.answer [ Ok answer ↦ answer_text answer (is_secure x.head sites) (goes_on x.head) | Err e ↦ [] ]

-- those of the answers to requests in order, here the last of them first
abbrev pub responses : List Site → List Exchange → List ℕ
responses sites [] = []
responses sites (x ∷ earlier) = responses sites earlier ++ response sites x

-- bytes weren't written whole: none of them, as there was no memory for them; or a front, as a write failed
abbrev pub BreaksOff : List ℕ → Option (List ℕ) → Option (List ℕ) → ℕ → ℕ → Type 0
BreaksOff text old new failed fails = (new ≡ old) ⊎ (AppendsFront old new text × (failed < fails))

-- the answers to requests were written, but for the last, which wasn't written whole
pub record BreaksOffLast (sites : List Site) (served : List Exchange) (old new : Option (List ℕ)) (failed fails : ℕ) : Type 0 where
  pub last : Exchange
  pub earlier : List Exchange
  pub is : served ≡ last ∷ earlier
  pub middle : Option (List ℕ)
  pub written : Appends old middle (responses sites earlier)
  pub breaks : BreaksOff (response sites last) middle new failed fails

-- it was written that a request is refused for this reason, whole or not
pub record WritesRefusal (why : Refusal) (old new : Option (List ℕ)) (failed fails : ℕ) : Type 0 where
  pub answer : Answer
  pub refuses : IsRefusal why answer
  pub written : Appends old new (answer_text answer false false) ⊎ BreaksOff (answer_text answer false false) old new failed fails

-- why a refusal is written after the answers: for this reason the next request isn't attended to; or memory was refused
abbrev pub IsTurnedAway : (ℕ → Type 0) → House → ℕ → List Site → Bool → Refusal → Option (List ℕ) → List Asked → List Asked → Type 0
IsTurnedAway tells house idle sites is_local why left before after =
    ((rest : Option (List ℕ)) × IsUnread tells house idle sites is_local why left rest before after)
    ⊎ ((why ≡ refusal.Memory) × AsksNoMore tells house idle sites is_local before after)

-- the answers to requests were written, and then that no more is attended to, for a reason; without memory for that nothing
pub record TurnsAway (tells : ℕ → Type 0) (house : House) (idle : ℕ) (sites : List Site) (is_local : Bool) (served : List Exchange) (left old new : Option (List ℕ)) (failed fails : ℕ) (before after : List Asked) : Type 0 where
  pub why : Refusal
  pub is : IsTurnedAway tells house idle sites is_local why left before after
  pub middle : Option (List ℕ)
  pub written : Appends old middle (responses sites served)
  pub refusal : (new ≡ middle) ⊎ WritesRefusal why middle new failed fails

-- how a connection ended: all answers were written, and no more came or the last of them said so; or the last wasn't written whole; or it was written that
-- no more is attended to
abbrev pub Finishes : (ℕ → Type 0) → House → ℕ → List Site → Bool → List Exchange → Option (List ℕ) → Option (List ℕ) → Option (List ℕ) → ℕ → ℕ → List Asked → List Asked → Type 0
Finishes tells house idle sites is_local served left old new failed fails before after =
    (Appends old new (responses sites served) × AsksNoMore tells house idle sites is_local before after)
    ⊎ ((BreaksOffLast sites served old new failed fails × (after ≡ before))
    ⊎ TurnsAway tells house idle sites is_local served left old new failed fails before after)

-- what became of a connection: the requests that came were attended to one after another, and their answers were written in this order, each once and
-- nothing else, up to where it ended
pub record Connects (tells : ℕ → Type 0) (gives : List ℕ → Type 0) (idle : ℕ) (house : House) (sites : List Site) (is_local : Bool) (unread old new : Option (List ℕ)) (failed fails : ℕ) (before after : List Asked) : Type 0 where
  pub served : List Exchange
  pub left : Option (List ℕ)
  pub asked : List Asked
  pub serves : Serves tells gives idle house sites is_local served unread left before asked
  pub finishes : Finishes tells house idle sites is_local served left old new failed fails asked after
