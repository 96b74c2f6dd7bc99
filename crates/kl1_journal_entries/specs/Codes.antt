-- How entries and journals are told apart.
use Rattle.std.specs.Prelude.{◌≡◌, ℕ, zero, suc, ◌⊎◌, List, Option}
use Rattle.std.proofs.Common.{refl, inl, inr}
use Rattle.std.specs.Coded.{Coded, code_by, coded×, coded⊎, coded_list, coded_option, coded_ℕ}
use Rattle.kl1_model.specs.declared.message.Message.{Message}
use Rattle.kl1_model.specs.declared.message.Message.TheVariants.{Stop, Start, Abort, Allow}
use Rattle.kl1_model.specs.declared.rules.Rules.{Rules}
use Rattle.kl1_model.specs.declared.rules.Rules.TheVariants.{One, Two, Three, Four, Five}
use Rattle.kl1_model.specs.Term.{Term}
use Rattle.kl1_model.specs.code.TermCode.{term_code}
use Rattle.kl1_model_server.specs.Journal.{Entry, loads, starts, sends, steps, answers, forgets, runs, Journal}
use Rattle.kl1_journal_entries.specs.Lined.{Pending, Rows}

-- a message as the number of `allow`, or a number for each other
abbrev pub message_parts : Message → ℕ ⊎ ℕ
message_parts (Allow n) = inl n
message_parts Stop = inr 0
message_parts Start = inr 1
message_parts Abort = inr 2

-- the message of these parts
abbrev pub message_of : ℕ ⊎ ℕ → Message
message_of (inl n) = Allow n
message_of (inr zero) = Stop
message_of (inr (suc zero)) = Start
message_of (inr (suc (suc n))) = Abort

-- a message is that of its parts
pub message_same : (m : Message) → message_of (message_parts m) ≡ m
message_same (Allow n) = refl
message_same Stop = refl
message_same Start = refl
message_same Abort = refl

-- a message is stored as its parts
abbrev pub message_code : Coded Message
message_code = code_by (ℕ ⊎ ℕ) (coded⊎ coded_ℕ coded_ℕ) message_parts message_of message_same

-- rules as a number
abbrev pub rules_number : Rules → ℕ
rules_number One = 1
rules_number Two = 2
rules_number Three = 3
rules_number Four = 4
rules_number Five = 5

-- the rules with a number
abbrev pub rules_from : ℕ → Rules
rules_from (suc (suc (suc (suc (suc n))))) = Five
rules_from (suc (suc (suc (suc n)))) = Four
rules_from (suc (suc (suc n))) = Three
rules_from (suc (suc n)) = Two
rules_from n = One

-- rules are those of their number
pub rules_same : (r : Rules) → rules_from (rules_number r) ≡ r
rules_same One = refl
rules_same Two = refl
rules_same Three = refl
rules_same Four = refl
rules_same Five = refl

-- rules are stored as their number
abbrev pub rules_code : Coded Rules
rules_code = code_by ℕ coded_ℕ rules_number rules_from rules_same

-- the parts of an entry
abbrev pub Parts : Type 0
Parts = (List ℕ ⊎ ((ℕ × (ℕ × (ℕ × Term))) ⊎ (ℕ × (ℕ × Term)))) ⊎ ((ℕ × Message) ⊎ ((ℕ × ℕ) ⊎ (ℕ ⊎ (ℕ × ℕ))))

-- an entry as its parts
abbrev pub parts_of : Entry → Parts
parts_of (loads text) = inl (inl text)
parts_of (starts a l h t) = inl (inr (inl (a, (l, (h, t)))))
parts_of (answers n r t) = inl (inr (inr (n, (r, t))))
parts_of (sends n m) = inr (inl (n, m))
parts_of (steps g c) = inr (inr (inl (g, c)))
parts_of (runs n) = inr (inr (inr (inl n)))
parts_of (forgets n c) = inr (inr (inr (inr (n, c))))

-- the entry of these parts
abbrev pub entry_of_parts : Parts → Entry
entry_of_parts (inl (inl text)) = loads text
entry_of_parts (inl (inr (inl p))) = starts p.0 p.1.0 p.1.1.0 p.1.1.1
entry_of_parts (inl (inr (inr p))) = answers p.0 p.1.0 p.1.1
entry_of_parts (inr (inl p)) = sends p.0 p.1
entry_of_parts (inr (inr (inl p))) = steps p.0 p.1
entry_of_parts (inr (inr (inr (inl n)))) = runs n
entry_of_parts (inr (inr (inr (inr p)))) = forgets p.0 p.1

-- an entry is that of its parts
pub parts_same : (e : Entry) → entry_of_parts (parts_of e) ≡ e
parts_same (loads text) = refl
parts_same (starts a l h t) = refl
parts_same (answers n r t) = refl
parts_same (sends n m) = refl
parts_same (steps g c) = refl
parts_same (runs n) = refl
parts_same (forgets n c) = refl

-- an entry is stored as its parts
abbrev pub entry_code : Coded Entry
entry_code = code_by Parts (coded⊎ (coded⊎ (coded_list coded_ℕ) (coded⊎ (coded× coded_ℕ (coded× coded_ℕ (coded× coded_ℕ term_code))) (coded× coded_ℕ (coded× coded_ℕ term_code)))) (coded⊎ (coded× coded_ℕ message_code) (coded⊎ (coded× coded_ℕ coded_ℕ) (coded⊎ coded_ℕ (coded× coded_ℕ coded_ℕ))))) parts_of entry_of_parts parts_same

-- a journal is stored as its rules, sessions, names, image and entries
abbrev pub journal_code : Coded Journal
journal_code =
    code_by (Rules × (ℕ × (List (List ℕ) × (List ℕ × List Entry)))) (coded× rules_code (coded× coded_ℕ (coded× (coded_list (coded_list coded_ℕ)) (coded× (coded_list coded_ℕ) (coded_list entry_code)))))
    (λ j. (j.rules, (j.sessions, (j.names, (j.image, j.entries))))) (λ p. record { rules = p.0; sessions = p.1.0; names = p.1.1.0; image = p.1.1.1.0; entries = p.1.1.1.1 }) (λ j. refl)

-- what is to be put into a journal is stored as the rules and the entry
abbrev pub pending_code : Coded Pending
pending_code = code_by (Rules × Option Entry) (coded× rules_code (coded_option entry_code)) (λ p. (p.rules, p.entry)) (λ p. record { rules = p.0; entry = p.1 }) (λ p. refl)

-- a journal with room is stored as the journal and the room
abbrev pub rows_code : Coded Rows
rows_code = code_by (Journal × ℕ) (coded× journal_code coded_ℕ) (λ s. (s.journal, s.room)) (λ p. record { journal = p.0; room = p.1 }) (λ s. refl)
