-- How a journal grows between two resets.
use Rattle.std.specs.Prelude.{⊤, ◌≡◌, ◌⊎◌, ◌≤◌, ℕ, List, [], ◌∷◌}
use Rattle.kl1_model_server.specs.Journal.{Entry, runs, Journal}

-- what may become of the last entry: it stays, or is a run and grows
abbrev pub Grows : Entry → Entry → Type 0
Grows d e = (d ≡ e) ⊎ ((m : ℕ) × (n : ℕ) × (d ≡ runs m) × (e ≡ runs n) × (m ≤ n))

-- what may become of an entry before these: the last may grow, and any other stays
abbrev pub GrowsBefore : List Entry → Entry → Entry → Type 0
GrowsBefore [] d e = Grows d e
GrowsBefore (x ∷ xs) d e = d ≡ e

-- entries stand in later ones: each is there, the last may have grown, and more may follow
abbrev pub AreLater : List Entry → List Entry → Type 0
AreLater [] es = ⊤
AreLater (d ∷ ds) [] = ⊥
AreLater (d ∷ ds) (e ∷ es) = GrowsBefore ds d e × AreLater ds es

-- a journal has grown into another, with no reset between them
pub record IsLater (j k : Journal) : Type 0 where
  pub rules : j.rules ≡ k.rules
  pub names : j.names ≡ k.names
  pub entries : AreLater j.entries k.entries
