use Rattle.std.proofs.Common.{◌≡◌, ◌++◌, max, map, reverse, vec_len}
use Rattle.kl1_model.specs.Term.{terms_of}
use Rattle.kl1_model.specs.code.TermCode.{nodes_of_all}
use Rattle.kl1_model.specs.Meaning.{deepest, are_narrow}
use Rattle.kl1_term.specs.Nodes.{code_of}
use Rattle.kl1_read.specs.SmallNodes.{node_of}
use Rattle.kl1_read.proofs.piece.spill_all.Given as goal

-- the arguments that are left, before those whose nodes are there, are the whole
abbrev pub invariant-loop-argument : goal.invariant-loop-argument
invariant-loop-argument l =
    record {
      nodes : nodes_of_all (terms_of l.arguments.items) ++ map code_of (reverse (map node_of l.nodes.items)) ≡ nodes_of_all (terms_of l.initial.arguments.items) ++ map code_of (reverse (map node_of l.fn.nodes.items));
      deep : max (deepest (terms_of l.arguments.items)) l.deepest ≡ deepest (terms_of l.initial.arguments.items);
      narrow : are_narrow (terms_of l.arguments.items) ≡ are_narrow (terms_of l.initial.arguments.items);
    }

abbrev pub decreases-loop-argument : goal.decreases-loop-argument
decreases-loop-argument l = vec_len l.arguments
