use Rattle.kl1_machine.proofs.Words.{◌+◌, sym, ◌∙◌, Dropped, Broken, Sent, torn, tailed, found_shoen_in, add-one, shoen_in_by, in_grown}
use Rattle.kl1_machine.proofs.PlainStays.{reported_plain, torn_plain, tailed_plain}
use Rattle.kl1_machine.proofs.Telling.{Hears, since_heard, tells, tells_by, tells_none}
use Rattle.kl1_machine.proofs.machine.Machine.tell.Goals as goal

pub append_report-requires-clause-tail : goal.append_report-requires-clause-tail
append_report-requires-clause-tail c =
    let m = c.args.self.now in
    (found_shoen_in m.store.held c.args.number m.shoens.shoens c.in-Some.shoen c.requires.machine.inside.shoens (sym c.lend.ensures.value ∙ (sym c.copied.ensures ∙ c.in-Some.is))).tail

pub keep_at_times-requires : goal.keep_at_times-requires
keep_at_times-requires c =
    let m = c.args.self.now in
    shoen_in_by m.store.held c.append_report.new.store.held (in_grown m.store.held c.append_report.new.store.held c.in_ok-append_report.ensures.grown) c.in-Some.shoen
    (found_shoen_in m.store.held c.args.number m.shoens.shoens c.in-Some.shoen c.requires.machine.inside.shoens (sym c.lend.ensures.value ∙ (sym c.copied.ensures ∙ c.in-Some.is)))

-- ---- what it leaves

pub returns-in_default-clause-ok : goal.returns-in_default-clause-ok
returns-in_default-clause-ok c = tells_none c.args.self.now c.args.number c.args.message c.requires.machine (sym c.lend.ensures.value ∙ (sym c.copied.ensures ∙ c.in_default.is))

pub returns-in-Dropped-clause-ok : goal.returns-in-Dropped-clause-ok
returns-in-Dropped-clause-ok c =
    let a = c.in_ok-append_report.ensures in
    tells c.args.self.now c.append_report.new.store c.args.number c.args.message c.in-Some.shoen Dropped
    (record { machine = c.requires.machine; found = sym c.lend.ensures.value ∙ (sym c.copied.ensures ∙ c.in-Some.is); grows = record { grown = a.grown; hooks = a.hooks }; told_as = rw c.in-Dropped.is at a.told })

pub returns-in_ok-break_stream-in-Broken : goal.returns-in_ok-break_stream-in-Broken
returns-in_ok-break_stream-in-Broken c =
    let m = c.args.self.now in
    let k = c.append_report.new.store in
    let a = c.in_ok-append_report.ensures in
    let e = c.len-numbered.ensures in
    let h : Hears m k c.args.number c.args.message c.in-Some.shoen Broken = record {
      machine = c.requires.machine;
      found = sym c.lend.ensures.value ∙ (sym c.copied.ensures ∙ c.in-Some.is);
      grows = record { grown = a.grown; hooks = a.hooks };
      told_as = rw c.limits.ensures.value at (rw c.in-Broken.is at a.told);
    } in
    let is = rw c.left-left.ensures at c.in_ok-break_stream-in-Broken.ensures.ok in
    record {
      ok = tells_by m k c.args.number c.args.message c.in-Some.shoen Broken c.break_stream.new.self is h;
      plain = λ f g one two. reported_plain f g m k c.break_stream.new.self c.args.number m.counts.reports (torn m.rules) is (torn_plain m.rules f g one two);
      since = λ b.
          since_heard b m k c.args.number c.args.message c.in-Some.shoen Broken c.break_stream.new.self is h
          (record { numbered = e.numbered; lower = e.lower; worked = e.worked });
    }

pub returns-in_ok-set_tail-in-Sent : goal.returns-in_ok-set_tail-in-Sent
returns-in_ok-set_tail-in-Sent c =
    let m = c.args.self.now in
    let k = c.keep_at_times.new.store in
    let a = c.in_ok-append_report.ensures in
    let e = c.len-numbered.ensures in
    let h : Hears m k c.args.number c.args.message c.in-Some.shoen (Sent c.in-Sent.next) = record {
      machine = c.requires.machine;
      found = sym c.lend.ensures.value ∙ (sym c.copied.ensures ∙ c.in-Some.is);
      grows = record { grown = rw c.keep_at_times.ensures.held a.grown; hooks = c.keep_at_times.ensures.hooks ∙ a.hooks };
      told_as = rw c.keep_at_times.ensures.held (rw c.limits.ensures.value at (rw c.in-Sent.is at a.told));
    } in
    record {
      ok =
          rw (add-one m.counts.reports)
          (tells_by m k c.args.number c.args.message c.in-Some.shoen (Sent c.in-Sent.next) c.set_tail.new.self c.in_ok-set_tail-in-Sent.ensures.ok h);
      plain = λ f g one two. reported_plain f g m k c.set_tail.new.self c.args.number (m.counts.reports + 1) (tailed c.in-Sent.next) c.in_ok-set_tail-in-Sent.ensures.ok (tailed_plain f g c.in-Sent.next);
      since = λ b s.
          rw (add-one m.counts.reports)
          (since_heard b m k c.args.number c.args.message c.in-Some.shoen (Sent c.in-Sent.next) c.set_tail.new.self c.in_ok-set_tail-in-Sent.ensures.ok h (record { numbered = e.numbered; lower = e.lower; worked = e.worked }) s);
    }
