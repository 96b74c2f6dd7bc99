use Rattle.std.proofs.Common.{map, sym, ◌∙◌}
use Rattle.kl1_term.specs.Nodes.{code_of}
use Rattle.kl1_term.proofs.DepthFacts.{not_narrow, narrow_deep}
use Rattle.kl1_term.proofs.term.Term.is_writable.Goals as goal

pub returns-then-not-are_narrow : goal.returns-then-not-are_narrow
returns-then-not-are_narrow c =
    not_narrow (map code_of c.nodes.result.now) c.args.self.now c.nodes.ensures (sym c.are_narrow.ensures ∙ c.if-not-are_narrow.true)

pub returns : goal.returns
returns c =
    c.is_low.ensures ∙ narrow_deep (map code_of c.nodes.result.now) c.args.self.now c.in_ok-deep.deep c.nodes.ensures (sym c.are_narrow.ensures ∙ c.if-not-are_narrow.false) c.in_ok-deep.ensures
