use Rattle.kl1_machine.proofs.Words.{refl, torn, torn_in, changed, shoens_changed, changed_count}
use Rattle.kl1_machine.proofs.Shoens.{becomes_so, since_quiet}
use Rattle.kl1_machine.proofs.machine.Machine.break_stream.Goals as goal

pub returns : goal.returns
returns c =
    let m = c.args.self.now in
    let e = c.len-numbered.ensures in
    let ok = rw c.left-left.ensures at c.break_stream.ensures.ok in
    record {
      ok =
          becomes_so c.break_stream.result m c.break_stream.new.self (changed c.args.number (torn m.rules) m.shoens.shoens) m.shifts m.told
          (shoens_changed m.store.held c.args.number (torn m.rules) (torn_in m.rules m.store.held) m.shoens.shoens c.requires.machine.inside.shoens)
          (changed_count c.args.number (torn m.rules) m.shoens.shoens) c.requires.machine ok;
      since = λ b.
          since_quiet c.break_stream.result b m c.break_stream.new.self c.args.number (torn m.rules) (record { outlines = λ h. refl; plains = λ h. refl })
          (record { numbered = e.numbered; lower = e.lower; worked = e.worked }) c.requires.machine ok c.break_stream.ensures.err;
    }
