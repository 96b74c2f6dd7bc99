use Rattle.std.proofs.Common.{◌≡◌, ℕ, List, drop}
use Rattle.kl1_model.specs.Asking.{elements_of}
use Rattle.kl1_text.specs.Reading.{Reads}
use Rattle.kl1_store.specs.Held.{IsIn}
use Rattle.kl1_store.specs.Meaning.{term_of}
use Rattle.kl1_stream.proofs.elements.nth_cell.Given as goal

-- what is left to skip of what is left is what was asked for
abbrev pub invariant-loop-left : goal.invariant-loop-left
invariant-loop-left g l = IsIn l.store.held l.at × ((f : g.row.N.Denot → List ℕ) → Reads g.N.NameValue.built f →
    drop l.left (elements_of (term_of f l.store.held l.at)) ≡ drop l.fn.skip (elements_of (term_of f l.store.held l.fn.cell)))

abbrev pub decreases-loop-left : goal.decreases-loop-left
decreases-loop-left g l = l.left
