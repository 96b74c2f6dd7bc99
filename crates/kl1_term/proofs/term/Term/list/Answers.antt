use Rattle.std.proofs.Common.{◌≡◌, map}
use Rattle.std.proofs.lemmas.List.{map-append}
use Rattle.kl1_model.specs.Term.{terms_of}
use Rattle.kl1_model.specs.code.TermCode.{nodes_of}
use Rattle.kl1_model.specs.Meaning.{cells}
use Rattle.kl1_term.specs.Nodes.{code_of}
use Rattle.kl1_term.proofs.Rows.{list_nodes}
use Rattle.kl1_term.proofs.term.Term.list.Goals as goal

pub of_nodes-requires : goal.of_nodes-requires
of_nodes-requires c =
    let row : map code_of c.extend_from_slice.new.self.items ≡ nodes_of (cells (terms_of c.args.elements.now) c.args.tail.now) =
    rw (c.in_ok-extend_from_slice.ensures.items, map-append code_of c.put_cells.new.nodes.items c.nodes.result.now, c.nodes.ensures, c.in_ok-put_cells.ensures, c.new-nodes.ensures.items) (list_nodes (terms_of c.args.elements.now) c.args.tail.now) in
    (cells (terms_of c.args.elements.now) c.args.tail.now, row)

pub returns : goal.returns
returns c =
    let row : map code_of c.extend_from_slice.new.self.items ≡ nodes_of (cells (terms_of c.args.elements.now) c.args.tail.now) =
    rw (c.in_ok-extend_from_slice.ensures.items, map-append code_of c.put_cells.new.nodes.items c.nodes.result.now, c.nodes.ensures, c.in_ok-put_cells.ensures, c.new-nodes.ensures.items) (list_nodes (terms_of c.args.elements.now) c.args.tail.now) in
    c.of_nodes.ensures (cells (terms_of c.args.elements.now) c.args.tail.now) row
