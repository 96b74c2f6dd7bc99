use Rattle.kl1_machine.proofs.Words.{true, map, length-map, left_by, aborted_below_in, aborted_in}
use Rattle.kl1_machine.proofs.Shoens.{becomes_so, since_aborts}
use Rattle.kl1_machine.proofs.machine.Machine.abort_below.Goals as goal

pub returns-clause-ok : goal.returns-clause-ok
returns-clause-ok c =
    let m = c.args.self.now in
    let f = aborted_below_in (left_by m.rules) m.shoens.shoens c.args.number in
    becomes_so c.abort.result m c.abort.new.self (map f m.shoens.shoens) true m.told
    (aborted_in m.rules m.store.held m.shoens.shoens c.args.number m.shoens.shoens c.requires.machine.inside.shoens) (length-map m.shoens.shoens f) c.requires.machine (rw c.left-left.ensures at c.abort.ensures.ok)

pub returns-clause-since : goal.returns-clause-since
returns-clause-since c b =
    let m = c.args.self.now in
    since_aborts c.abort.result b m c.abort.new.self (left_by m.rules) c.args.number c.requires.gone (rw c.left-left.ensures at c.abort.ensures.ok) c.abort.ensures.err
