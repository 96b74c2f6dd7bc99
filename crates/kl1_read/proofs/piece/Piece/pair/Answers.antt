use Rattle.std.proofs.Common.{[], ◌∷◌, ◌++◌, map, ap, ◌∙◌, arith}
use Rattle.std.proofs.lemmas.List.{map-append}
use Rattle.kl1_term.specs.declared.node.Node.TheVariants.{Structure}
use Rattle.kl1_model.specs.Meaning.{pair}
use Rattle.kl1_read.specs.SmallNodes.{node_of}
use Rattle.kl1_read.proofs.Nodes.{Made, pair_made, pair_too_deep}
use Rattle.kl1_read.proofs.piece.Piece.pair.Goals as goal
use Rattle.kl1_read.proofs.piece.Piece.pair.Goals.{In_ok-put_structure}

pub pair_depth-whole-requires-clause-first_low : goal.pair_depth-whole-requires-clause-first_low
pair_depth-whole-requires-clause-first_low c = c.first.invariant.low

pub pair_depth-whole-requires-clause-second_low : goal.pair_depth-whole-requires-clause-second_low
pair_depth-whole-requires-clause-second_low c = c.second.invariant.low

pub pair_depth-whole-requires-clause-rest_low : goal.pair_depth-whole-requires-clause-rest_low
pair_depth-whole-requires-clause-rest_low c = omega (arith, c.second.invariant.low, c.second.invariant.rest_low)

pub returns-then-is_too_deep : goal.returns-then-is_too_deep
returns-then-is_too_deep c =
    pair_too_deep c.args.name (map node_of c.first.inside.nodes.items) (map node_of c.second.inside.nodes.items) [] c.args.first c.args.second c.first.inside.whole c.first.inside.rest c.second.inside.whole c.second.inside.rest _ _ c.first.view_is c.second.view_is c.first.invariant c.second.invariant (c.pair_depth-whole.ensures.value c.first.inside.rest) (c.is_too_deep.ensures.deep c.if-is_too_deep.true)

made : (c : goal.In_ok-put_structure) → Made (map node_of c.put_structure.new.nodes.items) (pair c.args.name c.args.first c.args.second) c.pair_depth-whole.result.0 c.pair_depth-whole.result.1
made c =
    pair_made c.args.name (map node_of c.first.inside.nodes.items) (map node_of c.second.inside.nodes.items) (map node_of c.put_structure.new.nodes.items) c.args.first c.args.second c.first.inside.whole c.first.inside.rest c.second.inside.whole c.second.inside.rest _ _ c.first.view_is c.second.view_is c.first.invariant c.second.invariant (c.pair_depth-whole.ensures.value c.first.inside.rest)
    (c.in_ok-put_structure.ensures.nodes ∙ ap (λ ns. ns ++ Structure c.args.name 2 ∷ []) (ap (map node_of) c.in_ok-append.ensures.items ∙ map-append node_of c.second.inside.nodes.items c.first.inside.nodes.items))
    c.put_structure.ensures.text
    (c.is_too_deep.ensures.low c.if-is_too_deep.false) c.pair_depth-whole.ensures.rest_low

pub invariant_of-result : goal.invariant_of-result
invariant_of-result c = (made c).piece

pub returns : goal.returns
returns c = (made (goal.at.returns c).In_ok-put_structure).is
