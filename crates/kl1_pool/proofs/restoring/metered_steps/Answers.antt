use Rattle.std.proofs.Common.{◌≡◌, ◌+◌, ◌-◌, ◌≤◌, refl, ◌∙◌, arith}
use Rattle.kl1_pool.proofs.RestoredEvents.{runs_lead, end_of_all, room_enough, room_less}
use Rattle.kl1_pool.proofs.restoring.metered_steps.Goals as goal

pub loop-done-init : goal.loop-done-init
loop-done-init g c = record {
  few = omega arith;
  room = room_enough c.args.most (c.args.most - 0) (g.H.Host.room c.args.host.now) (omega arith) c.requires;
  goes = λ f fits. refl;
  counted = g.met.H.Host.none_counted c.args.host.now;
  before = λ f fits. fits;
  beside = refl;
}

pub run_steps-run-requires : goal.run_steps-run-requires
run_steps-run-requires g c =
    let few : c.min-piece.result ≤ c.args.most - c.loop-done.done = omega (arith, c.min-piece.ensures) in
    room_enough (c.args.most - c.loop-done.done) c.min-piece.result (g.H.Host.room c.loop-done.host) few c.loop-done.invariant.room

-- what holds after a piece
pub loop-done-preserved : goal.loop-done-preserved
loop-done-preserved g c =
    let kept = g.H.Host.kept in
    let old = c.args.host.now in
    let mid = c.loop-done.host in
    let new = c.run_steps-run.new.host in
    let n = c.run_steps-run.result.done in
    let h = c.run_steps-run.ensures in
    let inv = c.loop-done.invariant in record {
      few = omega (arith, h.few, c.min-piece.ensures, inv.few, c.loop-done-test.true);
      room = room_less c.args.most c.loop-done.done n (g.H.Host.room mid) (g.H.Host.room new) (g.met.H.Host.room_left mid new _ h.counted) inv.room;
      goes = λ f fits. runs_lead (kept f old) (kept f mid) (kept f new) c.loop-done.done n (inv.goes f (h.before f fits)) (h.goes f fits);
      counted = g.met.H.Host.counted_on old mid new c.loop-done.done n inv.counted h.counted;
      before = λ f fits. inv.before f (h.before f fits);
      beside = h.beside ∙ inv.beside;
    }

pub returns-then-run-piece-clause-goes : goal.returns-then-run-piece-clause-goes
returns-then-run-piece-clause-goes g c = λ f fits.
    let kept = g.H.Host.kept in
    let old = c.args.host.now in
    let mid = c.loop-done.host in
    let new = c.run_steps-run.new.host in
    let n = c.run_steps-run.result.done in
    let h = c.run_steps-run.ensures in
    let inv = c.loop-done.invariant in
    runs_lead (kept f old) (kept f mid) (kept f new) c.loop-done.done n (inv.goes f (h.before f fits)) (h.goes f fits)

pub returns-then-run-piece-clause-counted : goal.returns-then-run-piece-clause-counted
returns-then-run-piece-clause-counted g c =
    let kept = g.H.Host.kept in
    let old = c.args.host.now in
    let mid = c.loop-done.host in
    let new = c.run_steps-run.new.host in
    let n = c.run_steps-run.result.done in
    let h = c.run_steps-run.ensures in
    let inv = c.loop-done.invariant in
    g.met.H.Host.counted_on old mid new c.loop-done.done n inv.counted h.counted

-- how a piece ended that was cut short
pub returns-then-run-piece-clause-last : goal.returns-then-run-piece-clause-last
returns-then-run-piece-clause-last g c = λ f fits.
    let within : c.loop-done.done + c.min-piece.result ≤ c.args.most = omega (arith, c.min-piece.ensures, c.loop-done-test.true) in
    end_of_all c.args.most c.loop-done.done c.min-piece.result c.run_steps-run.result.done c.run_steps-run.result.last (g.H.Host.kept f c.run_steps-run.new.host) within c.if-run-piece.true (c.run_steps-run.ensures.last f fits)

pub returns-then-not-goes_on-clause-goes : goal.returns-then-not-goes_on-clause-goes
returns-then-not-goes_on-clause-goes g c = λ f fits.
    let kept = g.H.Host.kept in
    let old = c.args.host.now in
    let mid = c.loop-done.host in
    let new = c.run_steps-run.new.host in
    let n = c.run_steps-run.result.done in
    let h = c.run_steps-run.ensures in
    let inv = c.loop-done.invariant in
    runs_lead (kept f old) (kept f mid) (kept f new) c.loop-done.done n (inv.goes f (h.before f fits)) (h.goes f fits)

pub returns-then-not-goes_on-clause-counted : goal.returns-then-not-goes_on-clause-counted
returns-then-not-goes_on-clause-counted g c =
    let kept = g.H.Host.kept in
    let old = c.args.host.now in
    let mid = c.loop-done.host in
    let new = c.run_steps-run.new.host in
    let n = c.run_steps-run.result.done in
    let h = c.run_steps-run.ensures in
    let inv = c.loop-done.invariant in
    g.met.H.Host.counted_on old mid new c.loop-done.done n inv.counted h.counted

pub returns-then-not-goes_on-clause-last : goal.returns-then-not-goes_on-clause-last
returns-then-not-goes_on-clause-last g c = λ f fits. c.if-done-most.true

pub returns-clause-last : goal.returns-clause-last
returns-clause-last g c = λ f fits. let whole : c.loop-done.done ≡ c.args.most = omega (arith, c.loop-done.invariant.few, c.loop-done-test.false) in whole
