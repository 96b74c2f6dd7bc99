use Rattle.std.proofs.Common.{◌≡◌, ◌≢◌, suc, ◌∷◌, [], ◌++◌, length, map, ap, ◌∙◌, arith, add-one}
use Rattle.std.proofs.lemmas.List.{append-nil}
use Rattle.kl1_model.specs.Term.{structure, terms_of}
use Rattle.kl1_term.specs.declared.node.Node.TheVariants.{Structure}
use Rattle.kl1_read.specs.SmallNodes.{node_of}
use Rattle.kl1_read.proofs.Nodes.{Made}
use Rattle.kl1_read.proofs.Arguments.{many_made, many_too_deep}
use Rattle.kl1_read.proofs.piece.Piece.of_many.Goals as goal
use Rattle.kl1_read.proofs.piece.Piece.of_many.Goals.{In_ok-put_structure}

pub returns-then-deepest-ge-MOST_DEPTH : goal.returns-then-deepest-ge-MOST_DEPTH
returns-then-deepest-ge-MOST_DEPTH c =
    let other : length c.args.arguments.items ≢ 2 = λ e. c.requires.other (omega (arith, e, c.args.arguments.ok.0)) in
    many_too_deep c.args.name c.args.arguments.items c.in_ok-deepest.deepest other c.in_ok-deepest.ensures.depth c.if-deepest-ge-MOST_DEPTH.true

made : (c : In_ok-put_structure) → Made (map node_of c.put_structure.new.nodes.items) (structure c.args.name (terms_of c.args.arguments.items)) (suc c.in_ok-deepest.deepest) (suc c.in_ok-deepest.deepest)
made c =
    let other : length c.args.arguments.items ≢ 2 = λ e. c.requires.other (omega (arith, e, c.args.arguments.ok.0)) in
    let count : c.len-count.result ≡ length c.args.arguments.items = omega (arith, c.len-count.ensures, c.args.arguments.ok.0) in
    many_made c.args.name c.args.arguments.items (map node_of c.spill_all.new.nodes.items) (map node_of c.put_structure.new.nodes.items) c.in_ok-deepest.deepest other
    (omega (arith, c.requires.some, c.args.arguments.ok.0)) (omega (arith, c.requires.few, c.args.arguments.ok.0))
    c.put_structure.ensures.text
    c.in_ok-deepest.ensures.narrow
    (c.in_ok-deepest.ensures.nodes ∙ rw c.new-nodes.ensures.items (append-nil _))
    c.in_ok-deepest.ensures.depth
    c.if-deepest-ge-MOST_DEPTH.false
    (c.in_ok-put_structure.ensures.nodes ∙ ap (λ n. map node_of c.spill_all.new.nodes.items ++ Structure c.args.name n ∷ []) count)

pub invariant_of-result : goal.invariant_of-result
invariant_of-result c = rw add-one (made c).piece

pub returns : goal.returns
returns c = (made (goal.at.returns c).In_ok-put_structure).is
