-- What is asked of the accounts of a host.
use Rattle.std.specs.Prelude.{◌≡◌, ◌⊎◌, ℕ, List, [], ◌∷◌, ◌++◌}
use Rattle.kl1_model_server.specs.Command.{Command}
use Rattle.kl1_command.specs.declared.performed.Performed.{Performed}
use Rattle.kl1_command.specs.declared.performed.Performed.TheVariants.{Memory}
use Rattle.kl1_session.specs.Doors.{Opens}
use Rattle.kl1_session.specs.Files.{Entry}
use Rattle.kl1_session.specs.Conversations.{Done}
use Rattle.kl1_host_door.specs.declared.session.WebSession.{WebSession}
use Rattle.kl1_host_door.specs.declared.book.BookStep.{BookStep}

-- what was asked: a command was done to an account, with what was answered; an account was looked at; or no account was asked, but this was
-- done to the book of sessions, which had these sessions before, or it was told that a request was let in
pub data Asked : Type 0 where
  did : ℕ → Command → Performed → Asked
  looked : ℕ → Asked
  changed : BookStep → List WebSession → Asked
  let_in : Asked

-- how many accounts there are, what each is called, to which of them a name and a key let in, what stands there of their keys, and what was done
-- before by what does the commands
pub record House : Type 0 where
  pub accounts : ℕ
  pub names : ℕ → List ℕ
  pub opens : Opens
  pub entries : List Entry
  pub before : List Done

-- these commands were done, in this order, each once: just those of what was asked, but some may be missing that are answered as if memory was
-- refused
abbrev pub AreDone : List Asked → List Done → Type 0
AreDone [] ds = ds ≡ []
AreDone (did account command answer ∷ xs) ds =
    ((rest : List Done) × (ds ≡ record { account = account; command = command; answer = answer } ∷ rest) × AreDone xs rest)
    ⊎ ((answer ≡ Memory) × AreDone xs ds)
AreDone (looked account ∷ xs) ds = AreDone xs ds
AreDone (changed step sessions ∷ xs) ds = AreDone xs ds
AreDone (let_in ∷ xs) ds = AreDone xs ds

-- after some commands others were done, for what was asked
abbrev pub HasDone : List Done → List Done → List Asked → Type 0
HasDone before after asked = (dones : List Done) × (after ≡ before ++ dones) × AreDone asked dones
