use Rattle.std.proofs.Common.{◌≡◌, ℕ, map, IfOk, subst}
use Rattle.kl1_term.specs.Nodes.{code_of}
use Rattle.kl1_term.proofs.DepthFacts.{depth_is}
use Rattle.kl1_term.proofs.term.Term.depth.Goals as goal

pub returns : goal.returns
returns c =
    subst (λ (n : ℕ). IfOk c.find_depth.result (λ deep. deep ≡ n)) (depth_is (map code_of c.nodes.result.now) c.args.self.now c.nodes.ensures) c.find_depth.ensures
