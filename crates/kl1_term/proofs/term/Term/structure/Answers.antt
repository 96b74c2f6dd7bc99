use Rattle.std.proofs.Common.{◌≡◌, ◌∙◌, ◌++◌, List, ap, map}
use Rattle.kl1_model.specs.Term.{structure, terms_of}
use Rattle.kl1_model.specs.code.TermCode.{nodes_of, nodes_of_all}
use Rattle.kl1_term.specs.Nodes.{code_of}
use Rattle.kl1_term.specs.declared.node.Node.{Node}
use Rattle.kl1_term.proofs.Rows.{structure_nodes}
use Rattle.kl1_term.proofs.term.Term.structure.Goals as goal

pub of_nodes-requires : goal.of_nodes-requires
of_nodes-requires c =
    let row : map code_of c.put_each.new.nodes.items ≡ nodes_of (structure c.args.name (terms_of c.args.arguments.now)) =
    c.in_ok-put_each.ensures ∙ (ap (λ (xs : List Node). map code_of xs ++ nodes_of_all (terms_of c.args.arguments.now)) c.in_ok-nodes.ensures.items ∙ structure_nodes c.args.name c.args.arguments.now) in
    (structure c.args.name (terms_of c.args.arguments.now), row)

pub returns : goal.returns
returns c =
    let row : map code_of c.put_each.new.nodes.items ≡ nodes_of (structure c.args.name (terms_of c.args.arguments.now)) =
    c.in_ok-put_each.ensures ∙ (ap (λ (xs : List Node). map code_of xs ++ nodes_of_all (terms_of c.args.arguments.now)) c.in_ok-nodes.ensures.items ∙ structure_nodes c.args.name c.args.arguments.now) in
    c.of_nodes.ensures (structure c.args.name (terms_of c.args.arguments.now)) row
