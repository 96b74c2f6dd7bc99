-- What the entries of a journal do, one deed after another, and which texts are files of a journal.
use Rattle.std.specs.Prelude.{◌≡◌, ℕ, List, [], ◌∷◌, ◌++◌, take, replicate, fold, Option, Some}
use Rattle.kl1_model.specs.State.{State, fresh_with}
use Rattle.kl1_model_server.specs.Journal.{Entry, loads, starts, sends, steps, answers, forgets, runs, Journal, entry_step}
use Rattle.kl1_model_server.specs.JournalText.{journal_in}
use Rattle.kl1_model_server.specs.laws.TextLaws.{journal_text}
use Rattle.kl1_sums.specs.Sums.{summed_text, plain_text}

-- the deeds of an entry: a run of `n` reductions is `n` runs of one, and any other entry is one deed
abbrev pub deeds_of_entry : Entry → List Entry
deeds_of_entry (loads text) = loads text ∷ []
deeds_of_entry (starts allowance low high t) = starts allowance low high t ∷ []
deeds_of_entry (sends n m) = sends n m ∷ []
deeds_of_entry (steps goal clause) = steps goal clause ∷ []
deeds_of_entry (answers n report t) = answers n report t ∷ []
deeds_of_entry (forgets n count) = forgets n count ∷ []
deeds_of_entry (runs n) = replicate n (runs 1)

-- the deeds of entries, in order
abbrev pub deeds_of : List Entry → List Entry
deeds_of [] = []
deeds_of (e ∷ es) = deeds_of_entry e ++ deeds_of es

-- an account after entries
abbrev pub after_entries : State → List Entry → State
after_entries s es = fold (λ s e. (entry_step s e).state) s es

-- the account of this name, with no session open, after the first `n` deeds of a journal
abbrev pub account_after : List ℕ → Journal → ℕ → State
account_after name j n = after_entries (fresh_with j.rules name j.names 0) (take n (deeds_of j.entries))

-- a journal says what another says: a run may stand in pieces, and how many sessions are open doesn't count
pub record SaysSame (j k : Journal) : Type 0 where
  pub rules : j.rules ≡ k.rules
  pub names : j.names ≡ k.names
  pub deeds : deeds_of j.entries ≡ deeds_of k.entries

-- a text without sums is that of a journal's file: it is read as a journal that says the same, with no session open
pub record IsPlainFile (text : List ℕ) (j : Journal) : Type 0 where
  pub read : Journal
  pub is : journal_in text ≡ Some read
  pub closed : read.sessions ≡ 0
  pub says : SaysSame read j

-- each line of a text has its sum
abbrev pub HasSums : List ℕ → Type 0
HasSums text = text ≡ summed_text [] (plain_text text)

-- a text is a file of a journal: each line has its sum, and without them it is read as a journal that says the same, with no session open
pub record IsFile (text : List ℕ) (j : Journal) : Type 0 where
  pub sums : HasSums text
  pub plain : IsPlainFile (plain_text text) j

-- the journal that a file is, if it is one: each line ends with a line feed, and if the first has its sum, each has it
abbrev pub file_in : List ℕ → Option Journal
file_in text = journal_in (plain_text text)

-- the text of a journal, with no session open
abbrev pub shut_text : Journal → List ℕ
shut_text j = journal_text (record j { sessions = 0 })
