use Rattle.std.proofs.Common.{◌≡◌, ℕ, suc, ◌+◌, ◌-◌, ◌<◌, ◌||◌, [], if◌then◌else◌, List, length, get_or, refl, sym, ap, ◌∙◌, arith}
use Rattle.std.specs.List.{list_any}
use Rattle.std.proofs.lemmas.List.{get_or-set_other}
use Rattle.kl1_model.specs.Module.{is_among}
use Rattle.kl1_shoen_paths.specs.Paths.{path_in, is_on_path_in, may_be_charged, reaches_in}
use Rattle.kl1_shoen_paths.proofs.Charges.{flag_few, raise_step, length_set, or_none, next_reaches}
use Rattle.kl1_shoen_paths.proofs.Paths.{path_zero}
use Rattle.kl1_shoen_paths.proofs.raising.raise.Goals as goal

pub raise_at-step-requires-clause-few : goal.raise_at-step-requires-clause-few
raise_at-step-requires-clause-few g c =
    let at = c.loop-at.at in
    let e = c.loop-at.invariant.charged (at - 1) in
    let few = c.requires.few (at - 1) in
    let flag = flag_few (is_on_path_in c.args.shoens.now (suc (at - 1)) c.args.number) in
    omega (arith, e, few, flag)

pub loop-at-preserved : goal.loop-at-preserved
loop-at-preserved g c =
    let sh = c.args.shoens.now in
    let at = c.loop-at.at in
    let up = c.raise_at-step.result.up in
    let cs = c.loop-at.charges.now in
    let v = get_or cs (at - 1) 0 in
    let i = c.loop-at.invariant in
    let r = c.raise_at-step.ensures in
    let lt : 0 < at = omega (arith, c.loop-at-test.true) in
    let was = c.args.charges.now.now in
    let same : get_or cs (at - 1) 0 ≡ get_or was (at - 1) 0 = i.later (at - 1) (omega (arith, lt)) in
    record {
      reaches =
          next_reaches sh was at up c.loop-at.reaches c.raise_at-step.result.reaches c.is_either-reaches.result r.path (r.reaches ∙ ap (λ (n : ℕ). may_be_charged sh at (n + 1)) same) c.is_either-reaches.ensures
          ∙ i.reaches;
      later = λ k below. ap (λ (l : List ℕ). get_or l k 0) r.charged ∙ get_or-set_other cs (at - 1) k (v + 1) 0 (λ e. omega (arith, e, below, r.below)) ∙ i.later k (omega (arith, below, r.below));
      charged = λ k.
          ap (λ (l : List ℕ). (if is_on_path_in sh (suc k) up then 1 else 0) + get_or l k 0) r.charged
          ∙ raise_step sh cs at up v c.requires.lower lt (omega (arith, lt, i.within, i.count, c.requires.count)) refl r.below r.path k
          ∙ i.charged k;
      count = ap (λ (l : List ℕ). length l) r.charged ∙ length_set cs (at - 1) (v + 1) ∙ i.count;
      changes = omega (arith, r.below, i.changes, r.changes);
      within = omega (arith, r.below, i.within);
      kept = r.kept ∙ i.kept;
      room = r.room ∙ i.room;
    }

pub returns-clause-reaches : goal.returns-clause-reaches
returns-clause-reaches g c =
    let sh = c.args.shoens.now in
    let was = c.args.charges.now.now in
    let z : path_in sh c.loop-at.at ≡ [] = path_zero c.loop-at.at sh (omega (arith, c.loop-at-test.false)) in
    sym (or_none c.loop-at.reaches) ∙ ap (λ (ns : List ℕ). c.loop-at.reaches || list_any (reaches_in sh was) ns) (sym z) ∙ c.loop-at.invariant.reaches

pub returns-clause-charged : goal.returns-clause-charged
returns-clause-charged g c = λ k.
    let e = c.loop-at.invariant.charged k in
    let z : path_in c.args.shoens.now c.loop-at.at ≡ [] = path_zero c.loop-at.at c.args.shoens.now (omega (arith, c.loop-at-test.false)) in
    let f : ◌≡◌ {A = ℕ} (if is_on_path_in c.args.shoens.now (suc k) c.loop-at.at then 1 else 0) 0 = ap (λ (ns : List ℕ). if is_among (suc k) ns then 1 else 0) z in
    omega (arith, e, f)
