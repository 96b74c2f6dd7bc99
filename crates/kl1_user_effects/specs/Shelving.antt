-- How the names of an account are kept.
use Rattle.std.specs.Prelude.{◌≡◌, ℕ, List, None}
use Rattle.std.specs.List.{AllByRecursion}
use Rattle.kl1_text.specs.declared.atom_no.AtomNo.{AtomNo}
use Rattle.kl1_text.specs.BuiltIns.{built_in_of}
use Rattle.kl1_atoms.specs.declared.known.Known.{Known}

-- a name with its number
abbrev pub known_of : (List ℕ × AtomNo) → Known
known_of e = record { text = e.0; number = e.1 }

-- none of the names is built in
abbrev pub AreKnown : List (List ℕ × AtomNo) → Type 0
AreKnown es = AllByRecursion (λ e. built_in_of e.0 ≡ None) es
