use Rattle.kl1_machine.proofs.Words.{refl, grown, CellName, Shoen}
use Rattle.kl1_machine.proofs.Shoens.{IsShift, shifts_one, since_one}
use Rattle.kl1_machine.proofs.machine.Machine.allow.Goals as goal

pub returns : goal.returns
returns c =
    let f : Shoen CellName → Shoen CellName = λ h. record h { allowance = grown h.allowance c.args.extra } in
    let q : IsShift f = record { inside = λ h s i. record { control = i.control; tail = i.tail; origin = i.origin; low = i.low; high = i.high }; outlines = λ s. refl } in
    let e = c.len-numbered.ensures in
    record {
      ok = shifts_one c.allow.result c.args.self.now c.allow.new.self c.args.number f q c.requires.machine c.allow.ensures.ok;
      since = λ b.
          since_one c.allow.result b c.args.self.now c.allow.new.self c.args.number f q (record { numbered = e.numbered; lower = e.lower; worked = e.worked })
          c.requires.machine c.allow.ensures.ok c.allow.ensures.err;
    }
