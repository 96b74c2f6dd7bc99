use Rattle.std.proofs.Common.{◌≡◌, [], take, subst, arith, List}
use Rattle.std.proofs.lemmas.List.{take_all}
use Rattle.kl1_model.specs.Term.{Term, terms_of}
use Rattle.kl1_model.specs.code.TermCode.{nodes_of_all}
use Rattle.kl1_clause.specs.Putting.{Puts}
use Rattle.kl1_clause.proofs.PutNodes.{put_none, put_next_term, row_done}
use Rattle.kl1_clause.proofs.rows.row_of.Goals as goal

pub loop-term-init : goal.loop-term-init
loop-term-init c = rw c.new-row.ensures.items (put_none c.args.names.now [] tt)

pub loop-term-preserved : goal.loop-term-preserved
loop-term-preserved c =
    put_next_term c.args.names.now c.loop-term.names c.put_nodes.new.names [] c.loop-term.row.items c.put_nodes.new.row.items c.args.terms.now c.loop-term.term-index c.term-item.result
    c.loop-term-test.true c.term-item.is c.loop-term.invariant (subst (Puts c.loop-term.names c.put_nodes.new.names c.loop-term.row.items c.put_nodes.new.row.items) c.nodes.ensures c.in_ok-put_nodes.ensures)

pub returns : goal.returns
returns c =
    let all : take c.loop-term.term-index c.args.terms.now ≡ c.args.terms.now = take_all c.loop-term.term-index c.args.terms.now (omega arith) in
    let done = row_done c.args.names.now c.loop-term.names c.loop-term.row.items (terms_of c.args.terms.now) (subst (λ (x : List Term). Puts c.args.names.now c.loop-term.names [] c.loop-term.row.items (nodes_of_all (terms_of x))) all c.loop-term.invariant) in
    record { names = done.0; row = done.1 }
