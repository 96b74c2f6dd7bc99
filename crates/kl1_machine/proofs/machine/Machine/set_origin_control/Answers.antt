use Rattle.kl1_machine.proofs.Words.{refl, option_map, with_control, CellName, Shoen, changed, shoens_changed, changed_count}
use Rattle.kl1_machine.proofs.Shoens.{origin_kept, becomes_so, since_quiet}
use Rattle.kl1_machine.proofs.machine.Machine.set_origin_control.Goals as goal

pub returns : goal.returns
returns c =
    let m = c.args.self.now in
    let f : Shoen CellName → Shoen CellName = λ h. record h { origin = option_map (with_control c.args.control) h.origin } in
    let e = c.len-numbered.ensures in
    record {
      ok =
          becomes_so c.set_origin_control.result m c.set_origin_control.new.self (changed c.args.number f m.shoens.shoens) m.shifts m.told
          (shoens_changed m.store.held c.args.number f (λ s i. record { control = i.control; tail = i.tail; origin = origin_kept m.store.held s.origin c.args.control c.requires.inside i.origin; low = i.low; high = i.high }) m.shoens.shoens c.requires.machine.inside.shoens)
          (changed_count c.args.number f m.shoens.shoens) c.requires.machine c.set_origin_control.ensures.ok;
      since = λ b.
          since_quiet c.set_origin_control.result b m c.set_origin_control.new.self c.args.number f (record { outlines = λ h. refl; plains = λ h. refl })
          (record { numbered = e.numbered; lower = e.lower; worked = e.worked }) c.requires.machine c.set_origin_control.ensures.ok c.set_origin_control.ensures.err;
    }
