-- What holds of the shared table between any two steps.
use Rattle.std.specs.Prelude.{◌≡◌, ℕ, List}
use Rattle.atomic_table.specs.Table.{State}
use Rattle.kl1_atoms.specs.declared.face.Face.{Face}
use Rattle.kl1_atoms.specs.declared.face.Heard.{Heard}
use Rattle.kl1_atoms.specs.declared.face.View.{View}
use Rattle.kl1_atoms.specs.Names.{IsTable, StandIn, AreNames}
use Rattle.kl1_atoms.specs.Rule.{Stands, At, Mine, Kept}
use Rattle.kl1_atoms.specs.Plays.{In, Agreed}

-- the words show a table of names, what each seat knows is in it and one to one, what two seats know of a text is one number, what each
-- seat has noted on the way is so, and no text stands in two buckets
pub record ShowsNames (n : ℕ) (s : State (Unit {0}) View) : Type 0 where
  pub table : IsTable (At n s.words)
  pub known : (id k : ℕ) (f : Face) → Mine s.views id k f → StandIn (At n s.words) f.knows
  pub noted : (id k : ℕ) (f : Face) (h : Heard) → Mine s.views id k f → In f.heard h → Stands n s.words h.bucket h.entry h.text
  pub names : (id k : ℕ) (f : Face) → Mine s.views id k f → AreNames f.knows
  pub agreed : (id k other l : ℕ) (f g : Face) → Mine s.views id k f → Mine s.views other l g → Agreed f.knows g.knows
  pub once : (i j d e : ℕ) (t : List ℕ) → Stands n s.words i d t → Stands n s.words j e t → i ≡ j

-- whatever state keeps the rule shows names
abbrev pub RuleShowsNames : Type 0
RuleShowsNames = (n : ℕ) (s : State (Unit {0}) View) → Kept n s → ShowsNames n s
