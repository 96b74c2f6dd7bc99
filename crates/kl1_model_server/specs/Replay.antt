-- What is written for the text of a journal that is replayed.
use Rattle.std.specs.Prelude.{ℕ, zero, suc, if◌then◌else◌, List, [], ◌∷◌, ◌++◌, codes, decimal, unwrap_or, Some, None, option_map}
use Rattle.kl1_model.specs.declared.rules.Rules.{Rules}
use Rattle.kl1_model.specs.State.{State, fresh_with}
use Rattle.kl1_model.specs.Event.{is_refused}
use Rattle.kl1_model_server.specs.Command.{reply_lines, written_line, written_lines}
use Rattle.kl1_model_server.specs.Journal.{entry_step}
use Rattle.kl1_model_server.specs.JournalText.{entry_in, name_in, is_new_name, heading_in, lines_of}

-- what is written for line k, the first being 1, if it is missing, isn't of the form, or its entry is refused
abbrev pub written_fault : ℕ → List ℕ
written_fault k = written_line (codes "fault " ++ decimal k)

-- what is written after this number of entries, if all are done
abbrev pub written_end : ℕ → List ℕ
written_end n = written_line (codes "+ end " ++ decimal n)

-- what is written for the end of a text, after n entries, if line k is next and these bytes are left
abbrev pub written_rest : ℕ → ℕ → List ℕ → List ℕ
written_rest k n [] = written_end n
written_rest k n (b ∷ bs) = written_fault k

-- what is written for the lines of entries from line k on, and for the bytes after them, after n entries that led to this account
abbrev pub written_entries : ℕ → ℕ → State → List (List ℕ) → List ℕ → List ℕ
written_entries k n s [] rest = written_rest k n rest
written_entries k n s (line ∷ lines) rest =
    elim (entry_in s.rules line) [
      | None ↦ written_fault k
      | Some e ↦
          let x = entry_step s e in
          if is_refused x.reply then written_fault k else written_lines (reply_lines x.reply) ++ written_entries (suc k) (suc n) x.state lines rest
    ]

-- the name of the account that replays a journal; no reply to an entry shows it
abbrev pub replay_name : List ℕ
replay_name = codes "replay"

-- what is written for n lines of names, the first of which is line k, after the names before them, and then for the lines of entries
abbrev pub written_names : ℕ → ℕ → Rules → ℕ → List (List ℕ) → List (List ℕ) → List ℕ → List ℕ
written_names zero k rules sessions names lines rest = written_entries k 0 (fresh_with rules replay_name names sessions) lines rest
written_names (suc n) k rules sessions names [] rest = written_fault k
written_names (suc n) k rules sessions names (line ∷ lines) rest =
    elim (name_in line) [
      | None ↦ written_fault k
      | Some t ↦ if is_new_name names t then written_names n (suc k) rules sessions (names ++ t ∷ []) lines rest else written_fault k
    ]

-- what is written for the lines of a text, and the bytes left after them
abbrev pub written_replay : List (List ℕ) → List ℕ → List ℕ
written_replay [] rest = written_fault 1
written_replay (line ∷ lines) rest =
    unwrap_or (option_map (λ h. written_names h.names 2 h.rules h.sessions [] lines rest) (heading_in line)) (written_fault 1)

-- what is written for the text of a journal
abbrev pub replay_output : List ℕ → List ℕ
replay_output text = written_replay (lines_of text).whole (lines_of text).rest
