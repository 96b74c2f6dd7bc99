-- Names that goals spell.
use Rattle.std.specs.Prelude.{◌≡◌, ℕ, ◌^◌, nat_le, Bool, true, false, List, length, Option, Some, None, IsTrue}
use Rattle.kl1_model.specs.Text.{is_text}
use Rattle.kl1_model.specs.State.{with_name}
use Rattle.kl1_text.specs.declared.cell_name.CellName.{CellName}
use Rattle.kl1_atoms.specs.declared.known.Known.{Known}
use Rattle.kl1_atoms.specs.Names.{number_by}
use Rattle.kl1_user_effects.specs.Account.{texts_of}

-- the first spare number, which stands for a name whose number isn't known yet
abbrev pub spare : CellName
spare = record { number = 2 ^ 32 }

-- whether an account with these names may use a text as a name, if it may use so many at most
abbrev pub keeps_names : ℕ → List Known → List ℕ → Bool
keeps_names most known text = nat_le (length (with_name (texts_of known) text)) most

-- a name that is drafted is a text that is new to an account with these names, which may use it
abbrev pub IsNewName : ℕ → List Known → Option (List ℕ) → Type 0
IsNewName most known None = Unit {0}
IsNewName most known (Some text) = IsTrue (is_text text) × ((number_by known text ≡ None) × (keeps_names most known text ≡ true))

-- the name that is drafted if a text is used as a name: none if the account knows it by a number, or if it may not use it
abbrev pub name_of : Option ℕ → Bool → List ℕ → Option (List ℕ)
name_of None true text = Some text
name_of None false text = None
name_of (Some n) keeps text = None
