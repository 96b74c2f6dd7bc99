use Rattle.kl1_shoen.specs.Changes.{reports_left}
use Rattle.kl1_machine.proofs.Words.{refl, option_map, CellName, Shoen, changed, shoens_changed, changed_count}
use Rattle.kl1_machine.proofs.Shoens.{origin_left, becomes_so, since_quiet}
use Rattle.kl1_machine.proofs.machine.Machine.leave_reports.Goals as goal

pub returns : goal.returns
returns c =
    let m = c.args.self.now in
    let f : Shoen CellName → Shoen CellName = λ h. record h { origin = option_map (reports_left c.args.count c.args.left) h.origin } in
    let e = c.len-numbered.ensures in
    record {
      ok =
          becomes_so c.forget_reports.result m c.forget_reports.new.self (changed c.args.number f m.shoens.shoens) m.shifts m.told
          (shoens_changed m.store.held c.args.number f (λ s i. record { control = i.control; tail = i.tail; origin = origin_left m.store.held s.origin c.args.count c.args.left c.requires.inside i.origin; low = i.low; high = i.high }) m.shoens.shoens c.requires.machine.inside.shoens)
          (changed_count c.args.number f m.shoens.shoens) c.requires.machine c.forget_reports.ensures.ok;
      since = λ b.
          since_quiet c.forget_reports.result b m c.forget_reports.new.self c.args.number f (record { outlines = λ h. refl; plains = λ h. refl })
          (record { numbered = e.numbered; lower = e.lower; worked = e.worked }) c.requires.machine c.forget_reports.ensures.ok c.forget_reports.ensures.err;
    }
