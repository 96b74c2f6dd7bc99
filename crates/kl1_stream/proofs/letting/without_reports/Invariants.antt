use Rattle.std.proofs.Common.{◌≡◌, ℕ, List}
use Rattle.kl1_model.specs.Forgetting.{without_cells}
use Rattle.kl1_text.specs.Reading.{Reads}
use Rattle.kl1_store.specs.Held.{IsIn}
use Rattle.kl1_store.specs.Meaning.{term_of}
use Rattle.kl1_stream.specs.Letting.{may_leave}
use Rattle.kl1_stream.proofs.letting.without_reports.Given as goal

-- what is left to go of what is left may go just if all that is asked for may, and leaves what that leaves
abbrev pub invariant-loop-left : goal.invariant-loop-left
invariant-loop-left g l = record {
  inside : IsIn l.store.held l.at;
  may : (f : g.row.N.Denot → List ℕ) → Reads g.N.NameValue.built f → may_leave l.lives l.left (term_of f l.store.held l.at) ≡ may_leave l.lives l.fn.count (term_of f l.store.held l.fn.reports);
  leaves : (f : g.row.N.Denot → List ℕ) → Reads g.N.NameValue.built f → without_cells l.left (term_of f l.store.held l.at) ≡ without_cells l.fn.count (term_of f l.store.held l.fn.reports);
}

abbrev pub decreases-loop-left : goal.decreases-loop-left
decreases-loop-left g l = l.left
