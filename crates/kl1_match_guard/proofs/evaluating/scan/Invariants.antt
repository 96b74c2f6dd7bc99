use Rattle.std.proofs.Common.{◌≡◌, ◌≤◌, ◌+◌, ◌*◌, length, vec_len, vec_capacity}
use Rattle.std.specs.List.{All}
use Rattle.kl1_model.specs.declared.limits.TheConstants.{MOST_OPERATORS}
use Rattle.kl1_match_guard.specs.Pendings.{IsRestOf, rights_of}
use Rattle.kl1_match_guard.proofs.evaluating.scan.Given as goal

-- what comes of the term at hand after the operations that wait is what the whole comes to, and each operation took one of the
-- operators that there may be
abbrev pub invariant-parts : goal.invariant-parts
invariant-parts g l = record {
  at_in : g.T.View.IsAt l.view l.at;
  rights : All (g.T.View.IsAt l.view) (rights_of l.stack.items);
  value : IsRestOf g.N.NameValue.built (λ f x. g.T.View.term f l.view x) l.fn.whole l.at l.left l.stack.items;
  room : vec_len l.stack + l.left ≤ MOST_OPERATORS;
  capacity : vec_capacity l.stack ≡ vec_capacity l.fn.stack;
}

abbrev pub decreases-parts : goal.decreases-parts
decreases-parts g l = 2 * l.left + length (rights_of l.stack.items)
