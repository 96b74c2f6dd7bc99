-- What the front of a primary says.
use Rattle.std.specs.Prelude.{◌≡◌, ℕ, ◌<◌, List, length, None, map}
use Rattle.kl1_model.specs.Term.{Term, variable, integer, atom}
use Rattle.kl1_model.specs.Meaning.{nil}
use Rattle.kl1_model.specs.Grammar as grammar
use Rattle.kl1_model.specs.reader.Reader.{Answer, then_read}
use Rattle.kl1_read.specs.declared.begun.Leaf.{Leaf}
use Rattle.kl1_read.specs.declared.begun.Leaf.TheVariants.{Variable, Integer, Atom, Nil}
use Rattle.kl1_read.specs.declared.begun.Begun.{Begun}
use Rattle.kl1_read.specs.declared.begun.Begun.TheVariants.{Bad, Whole, Opens}
use Rattle.kl1_read.specs.Views.{numbered_token}
use Rattle.kl1_read.specs.Meanings.{Going, Dooms, fit, open_then, primary_read}

-- the term of a primary of one node
abbrev pub leaf_term : Leaf → Term
leaf_term (Variable n) = variable n
leaf_term (Integer i) = integer i
leaf_term (Atom f) = atom f.now
leaf_term Nil = nil

-- goes on after the front of a primary
abbrev pub begun_then : Begun → Going → Answer (List Term)
begun_then Bad k = None
begun_then (Whole l rest) k = k (leaf_term l) (map numbered_token rest.now)
begun_then (Opens opened rest) k = open_then opened k (map numbered_token rest.now)

-- going on after the front is reading the primary and going on
abbrev pub Begins : Begun → List grammar.Numbered → Type 0
Begins b ts = (k : Going) → Dooms k → fit (begun_then b k) ≡ fit (then_read (primary_read ts) k)

-- fewer tokens than these are left
abbrev pub BegunLess : ℕ → Begun → Type 0
BegunLess n Bad = Unit {0}
BegunLess n (Whole l rest) = length rest.now < n
BegunLess n (Opens opened rest) = length rest.now < n
