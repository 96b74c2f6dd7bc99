-- What holds of a journal's file: of its fronts, of what is read from them, and of how journals grow.
use Rattle.std.specs.Prelude.{◌≡◌, ◌≤◌, ℕ, List, ◌++◌, length, take, Some, IsTrue}
use Rattle.kl1_model_server.specs.Journal.{Journal, replay}
use Rattle.kl1_model_server.specs.laws.TextLaws.{is_unbroken, IsWritten}
use Rattle.kl1_log.specs.Deeds.{deeds_of, account_after, SaysSame, file_in}
pub use Rattle.kl1_journal_stamps.specs.laws.GrowthLaws.{EventsGrow, GrowthGoesOn, GrowthBegins}
use Rattle.kl1_log.specs.Cuts.{recovered, file_text, opening_text, front_of}

-- A journal's file that is cut at any byte after its opening: there is recovered a front of the journal, with each entry whose line is whole.
abbrev pub CutsAreFronts : Type 0
CutsAreFronts =
    (j : Journal) (n : ℕ) → IsWritten j → length (opening_text j) ≤ n
    → (m : ℕ) × (recovered (take n (file_text j)) ≡ Some (front_of j m)) × ((k : ℕ) → length (file_text (front_of j k)) ≤ n → take k j.entries ≡ take k (front_of j m).entries)

-- Bytes after the last line feed are no entry, whatever they are.
abbrev pub TornIsDropped : Type 0
TornIsDropped = (text torn : List ℕ) (j : Journal) → file_in text ≡ Some j → IsTrue (is_unbroken torn) → recovered (text ++ torn) ≡ Some j

-- While a file is made longer, a crash leaves one from which no entry of the file before is lost, and which is a front of the later.
abbrev pub AppendsAreFronts : Type 0
AppendsAreFronts =
    (text bytes : List ℕ) (j k : Journal) (n : ℕ) → file_in text ≡ Some j → file_in (text ++ bytes) ≡ Some k
    → (m : ℕ) × (recovered (text ++ take n bytes) ≡ Some (front_of k m)) × (take (length j.entries) (front_of k m).entries ≡ j.entries)

-- The replay of a front is the account after so many deeds: so is that of a whole journal, whose runs may stand in pieces.
abbrev pub ReplaysOfFronts : Type 0
ReplaysOfFronts = (name : List ℕ) (j k : Journal) (m : ℕ) → SaysSame j k → replay name (record (front_of j m) { sessions = 0 }) ≡ account_after name k (length (deeds_of (front_of j m).entries))
