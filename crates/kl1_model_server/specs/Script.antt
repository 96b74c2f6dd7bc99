-- Scripts: their accounts, and what is written for their records.
use Rattle.std.specs.Prelude.{ℕ, nat_le, not, ◌&&◌, Bool, true, if◌then◌else◌, List, [], ◌∷◌, ◌++◌, length, codes, bytes_eq, fold, unwrap_or, Option, Some, None, option_map}
use Rattle.std.specs.List.{list_any, list_all}
use Rattle.kl1_model.specs.declared.rules.Rules.TheVariants.{Three}
use Rattle.kl1_model.specs.declared.limits.TheConstants.{MOST_ACCOUNTS}
use Rattle.kl1_model.specs.AccountName.{is_account_name}
use Rattle.kl1_model.specs.Event.{refused, syntax}
use Rattle.kl1_model.specs.Line.{line_in, behind_feed, words_of}
use Rattle.kl1_model.specs.Record.{Record, Records, records_of}
use Rattle.kl1_model_server.specs.Journal.{Kept, Done, fresh_kept}
use Rattle.kl1_model_server.specs.Command.{Command, command_of, said, act, reply_lines, written_line}

-- whether no name stands twice
abbrev pub are_distinct : List (List ℕ) → Bool
are_distinct [] = true
are_distinct (n ∷ ns) = not (list_any (bytes_eq n) ns) && are_distinct ns

-- the accounts that the first line names: 1 to 32 distinct names of accounts after the word `accounts`
abbrev pub accounts_in : List (List ℕ) → Option (List (List ℕ))
accounts_in [] = None
accounts_in (w ∷ names) =
    if bytes_eq w (codes "accounts") && nat_le 1 (length names) && nat_le (length names) MOST_ACCOUNTS && list_all is_account_name names && are_distinct names
    then Some names
    else None

-- whether a name is that of an account
abbrev pub is_account : List (List ℕ) → List ℕ → Bool
is_account accounts name = list_any (bytes_eq name) accounts

-- the commands of an account among records, in order, by the third rules
abbrev pub commands_of : List ℕ → List Record → List (Option Command)
commands_of name [] = []
commands_of name (r ∷ rs) = if bytes_eq r.name name then command_of Three r.request ∷ commands_of name rs else commands_of name rs

-- what a record's command does; one without a command is refused
abbrev pub done_by : Kept → Option Command → Done
done_by k None = said k (refused syntax)
done_by k (Some c) = act k c

-- an account alone: the fresh account, which keeps to the third rules, after its own commands among records
abbrev pub alone_after : List ℕ → List Record → Kept
alone_after name records = fold (λ k c. (done_by k c).kept) (fresh_kept Three name) (commands_of name records)

-- the lines of a reply, each with the account's name before it
abbrev pub written_reply : List ℕ → List (List ℕ) → List ℕ
written_reply name [] = []
written_reply name (line ∷ lines) = written_line (name ++ codes " " ++ line) ++ written_reply name lines

-- what is written for a record after others: the reply of its account alone to its command
abbrev pub written_for : List (List ℕ) → List Record → Record → List ℕ
written_for accounts before r =
    if is_account accounts r.name
    then written_reply r.name (reply_lines (done_by (alone_after r.name before) (command_of Three r.request)).reply)
    else written_line (codes "! account")

-- what is written for records after others
abbrev pub written_from : List (List ℕ) → List Record → List Record → List ℕ
written_from accounts before [] = []
written_from accounts before (r ∷ rs) = written_for accounts before r ++ written_from accounts (before ++ r ∷ []) rs

-- what is written for a script after its first line
abbrev pub written_records : List (List ℕ) → Records → List ℕ
written_records accounts rs = written_from accounts [] rs.list ++ (if rs.is_truncated then written_line (codes "! truncated") else [])

-- the output of a script
abbrev pub output : List ℕ → List ℕ
output script =
    unwrap_or
    (option_map (λ accounts. written_records accounts (records_of (behind_feed script))) (accounts_in (words_of (line_in script))))
    (written_line (codes "! accounts"))
