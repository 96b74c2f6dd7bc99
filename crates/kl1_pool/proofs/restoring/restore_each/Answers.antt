use Rattle.std.proofs.Common.{[], ◌∷◌, take, sym, subst, refl, ◌∙◌}
use Rattle.kl1_journal_entries.specs.Shown.{entry_shown}
use Rattle.kl1_pool.specs.declared.restoring.RestoreEnd.TheVariants as ending
use Rattle.kl1_pool.specs.declared.restoring.Restored.{Restored}
use Rattle.kl1_pool.specs.declared.restoring.EntryResult.TheVariants as result
use Rattle.kl1_pool.specs.Restoring.{IsEntryDone, entry_by, entries_by, told_of, told_entry}
use Rattle.kl1_pool.proofs.RestoredEntries.{AreLeft, none_left, none_done, left_more, left_by, done_more, restored_at, ends_before, told_more, told_steps_more, told_by_entry}
use Rattle.kl1_pool.proofs.RestoredEvents.{none_of}
use Rattle.kl1_pool.proofs.restoring.restore_each.Goals as goal

pub loop-entry-init : goal.loop-entry-init
loop-entry-init g c =
    let es = c.args.journal.now.journal.entries in
    record {
      left = subst (λ rest. AreLeft es rest 0) (sym c.entries-entries.ensures) (none_left es);
      done = λ f fits. none_done (g.H.Host.kept f c.args.host.now).state (entries_by c.args.untold es);
      counted = λ f fits. g.met.H.Host.none_counted c.args.host.now;
      before = λ f fits. fits;
      beside = refl;
    }

pub loop-entry-preserved : goal.loop-entry-preserved
loop-entry-preserved g c =
    let es = c.args.journal.now.journal.entries in
    let rest = c.next.new.self in
    let n = c.loop-entry.done in
    let e = entry_shown c.in-Some.entry in
    let kept = g.H.Host.kept in
    let counted = g.H.Host.counted in
    let old = c.args.host.now in
    let mid = c.loop-entry.host in
    let new = c.restore_entry.new.host in
    let inv = c.loop-entry.invariant in
    let b = c.args.untold in
    let y = entry_by b e in
    let left : AreLeft es (e ∷ rest) n = subst (λ xs. AreLeft es xs n) c.in-Some.ensures.some inv.left in
    record {
      left = left_more es rest e n left;
      done = λ f fits.
          let one : IsEntryDone (kept f mid).state y result.Whole (kept f new).state = subst (λ r. IsEntryDone (kept f mid).state y r (kept f new).state) c.in-Whole.is (c.restore_entry.ensures.does f fits) in
          done_more (kept f old).state (entries_by b es) (entries_by b rest) y n (kept f mid).state (kept f new).state (left_by b es (e ∷ rest) n left) (inv.done f (c.restore_entry.ensures.before f fits)) one.0 one.1;
      counted = λ f fits.
          subst (λ t. counted old t new) (told_more es rest e n left)
          (g.met.H.RestoringHost.adds_up old mid new (told_of (take n es) 0) (told_of (e ∷ []) 0) refl refl (inv.counted f (c.restore_entry.ensures.before f fits))
          (subst (λ t. counted mid t new) (told_by_entry b e result.Whole) (subst (λ r. counted mid (told_entry y r) new) c.in-Whole.is (c.restore_entry.ensures.counted f fits))));
      before = λ f fits. inv.before f (c.restore_entry.ensures.before f fits);
      beside = c.restore_entry.ensures.beside ∙ inv.beside;
    }

pub returns-then-done-clause-restored : goal.returns-then-done-clause-restored
returns-then-done-clause-restored g c = λ f fits.
    let es = c.args.journal.now.journal.entries in
    let rest = c.next.new.self in
    let n = c.loop-entry.done in
    let e = entry_shown c.in-Some.entry in
    let mid = (g.H.Host.kept f c.loop-entry.host).state in
    let inv = c.loop-entry.invariant in
    let b = c.args.untold in
    let left : AreLeft es (e ∷ rest) n = subst (λ xs. AreLeft es xs n) c.in-Some.ensures.some inv.left in
    let r : Restored = record { entries = n; steps = 0; end = ending.Full } in
    restored_at (g.H.Host.kept f c.args.host.now).state (entries_by b es) (entries_by b (e ∷ rest)) r mid mid (left_by b es (e ∷ rest) n left) (inv.done f fits) refl (none_of mid (entry_by b e)).1

-- before an entry at which the meter ends it
pub returns-then-not-goes_on-clause-restored : goal.returns-then-not-goes_on-clause-restored
returns-then-not-goes_on-clause-restored g c = λ f fits.
    let es = c.args.journal.now.journal.entries in
    let rest = c.next.new.self in
    let n = c.loop-entry.done in
    let e = entry_shown c.in-Some.entry in
    let mid = (g.H.Host.kept f c.loop-entry.host).state in
    let inv = c.loop-entry.invariant in
    let b = c.args.untold in
    let left : AreLeft es (e ∷ rest) n = subst (λ xs. AreLeft es xs n) c.in-Some.ensures.some inv.left in
    let r : Restored = record { entries = n; steps = 0; end = ending.Memory } in
    restored_at (g.H.Host.kept f c.args.host.now).state (entries_by b es) (entries_by b (e ∷ rest)) r mid mid (left_by b es (e ∷ rest) n left) (inv.done f fits) refl (none_of mid (entry_by b e)).1

pub returns-in-Stopped-clause-restored : goal.returns-in-Stopped-clause-restored
returns-in-Stopped-clause-restored g c = λ f fits.
    let es = c.args.journal.now.journal.entries in
    let rest = c.next.new.self in
    let n = c.loop-entry.done in
    let e = entry_shown c.in-Some.entry in
    let mid = (g.H.Host.kept f c.loop-entry.host).state in
    let after = (g.H.Host.kept f c.restore_entry.new.host).state in
    let inv = c.loop-entry.invariant in
    let b = c.args.untold in
    let y = entry_by b e in
    let k = c.in-Stopped.steps in
    let end = c.in-Stopped.end in
    let left : AreLeft es (e ∷ rest) n = subst (λ xs. AreLeft es xs n) c.in-Some.ensures.some inv.left in
    let one : IsEntryDone mid y (result.Stopped k end) after = subst (λ r. IsEntryDone mid y r after) c.in-Stopped.is (c.restore_entry.ensures.does f fits) in
    let r : Restored = record { entries = n; steps = k; end = end } in
    restored_at (g.H.Host.kept f c.args.host.now).state (entries_by b es) (entries_by b (e ∷ rest)) r mid after (left_by b es (e ∷ rest) n left) (inv.done f (c.restore_entry.ensures.before f fits)) one.0 (ends_before end mid y (entries_by b rest) k one.1)

pub returns-in-Stopped-clause-counted : goal.returns-in-Stopped-clause-counted
returns-in-Stopped-clause-counted g c = λ f fits.
    let es = c.args.journal.now.journal.entries in
    let n = c.loop-entry.done in
    let b = c.args.untold in
    let e = entry_shown c.in-Some.entry in
    let counted = g.H.Host.counted in
    let old = c.args.host.now in
    let mid = c.loop-entry.host in
    let new = c.restore_entry.new.host in
    let k = c.in-Stopped.steps in
    let end = c.in-Stopped.end in
    subst (λ t. counted old t new) (told_steps_more (take n es) k)
    (g.met.H.RestoringHost.adds_up old mid new (told_of (take n es) 0) (told_of [] k) refl refl (c.loop-entry.invariant.counted f (c.restore_entry.ensures.before f fits)) (subst (λ t. counted mid t new) (told_by_entry b e (result.Stopped k end)) (subst (λ r. counted mid (told_entry (entry_by b e) r) new) c.in-Stopped.is (c.restore_entry.ensures.counted f fits))))

pub returns-clause-restored : goal.returns-clause-restored
returns-clause-restored g c = λ f fits.
    let es = c.args.journal.now.journal.entries in
    let n = c.loop-entry.done in
    let mid = (g.H.Host.kept f c.loop-entry.host).state in
    let inv = c.loop-entry.invariant in
    let b = c.args.untold in
    let left : AreLeft es [] n = subst (λ xs. AreLeft es xs n) (c.in_default.ensures.none refl) inv.left in
    let r : Restored = record { entries = n; steps = 0; end = ending.All } in
    restored_at (g.H.Host.kept f c.args.host.now).state (entries_by b es) [] r mid mid (left_by b es [] n left) (inv.done f fits) refl (refl, refl)
