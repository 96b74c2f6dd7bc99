use Rattle.std.proofs.Common.{◌≡◌, ◌<◌, ◌≤◌, ◌+◌, [], ◌∷◌, ap, sym, ◌∙◌, subst, length, get_or, arith}
use Rattle.std.specs.Prelude.{slice_get}
use Rattle.std.proofs.lemmas.List.{length-append, length-map}
use Rattle.kl1_model.specs.Rules.{limits_of}
use Rattle.kl1_codes.specs.Numbered.{ArePlaced}
use Rattle.kl1_world.specs.Seating.{AreSeated}
use Rattle.kl1_world.proofs.Makes.{AreSeatsFrom, seats_left, seats_all, seated_none, seated_more, fresh_none, fresh_next, same_within}
use Rattle.kl1_world.proofs.world.World.new.Goals as goal

pub loop-seat-init : goal.loop-seat-init
loop-seat-init g c =
    let none = c.new-kept.ensures.items in
    let rest = c.into_iter-seat-iterator.ensures.into_iter_gives.0 in
    let few : length c.new-kept.result.items ≡ 0 = ap (λ xs. length xs) none in
    let many : length c.into_iter-seat-iterator.result.rest.items ≡ length c.args.seats.items = ap (λ xs. length xs) rest in
    record {
      seated = seated_none g.A.AtomSource.is_of g.A.AtomSource.place (g.C.CodeSource.has c.args.code_source) c.args.names c.new-kept.result.items none;
      fresh = fresh_none c.args.rules c.new-kept.result.items c.args.accounts.now none;
      rest = seats_all g.A.AtomSource.is_of g.A.AtomSource.place g.A.AtomSource.knows c.args.rules c.args.names (length c.new-kept.result.items) c.args.seats.items c.into_iter-seat-iterator.result.rest.items few rest c.requires.seats;
      count = omega (arith, few, many, c.requires.count);
    }

pub new-requires : goal.new-requires
new-requires g c = (c.loop-seat.invariant.rest 0 c.in-Some.seat (ap (λ xs. slice_get xs 0) c.in-Some.ensures.steps.0)).2

pub loop-seat-preserved : goal.loop-seat-preserved
loop-seat-preserved g c =
    let xs = c.loop-seat.kept.items in
    let x = c.in_ok-new.field-0 in
    let has = g.C.CodeSource.has c.args.code_source in
    let first = c.loop-seat.invariant.rest 0 c.in-Some.seat (ap (λ ys. slice_get ys 0) c.in-Some.ensures.steps.0) in
    let items = c.in_ok-push.ensures.items in
    let left : length c.loop-seat.seat-iterator.rest.items ≡ length c.next.new.self.rest.items + 1 = ap (λ ys. length ys) c.in-Some.ensures.steps.0 ∙ omega arith in
    let longer : length c.push.new.self.items ≡ length xs + 1 = ap (λ ys. length ys) items ∙ length-append xs (x ∷ []) in
    let within : length xs < length c.args.accounts.now = omega (arith, left, c.loop-seat.invariant.count) in
    let place : c.len.result ≡ length xs = (let o = c.loop-seat.kept.ok in let e = c.len.ensures in omega (arith, o, e)) in
    let name_is : c.index-accounts-len.result ≡ get_or c.args.accounts.now (length xs) [] = c.index-accounts-len.is ∙ ap (λ n. get_or c.args.accounts.now n c.index-accounts-len.result) place ∙ same_within c.args.accounts.now (length xs) c.index-accounts-len.result [] within in
    record {
      seated = subst (λ ys. AreSeated g.A.AtomSource.is_of g.A.AtomSource.place has c.args.names ys) (sym items)
          (seated_more g.A.AtomSource.is_of g.A.AtomSource.place has c.args.names xs x c.loop-seat.invariant.seated
          (subst (g.A.AtomSource.is_of c.args.names) (sym c.in_ok-new.ensures.seat) first.0)
          (ap (λ s. (g.A.AtomSource.place s).1) c.in_ok-new.ensures.seat ∙ first.1 ∙ omega arith)
          (subst (ArePlaced has) (sym c.in_ok-new.ensures.modules) tt)
          (subst (λ s. (limits_of x.1.0.rules).names ≤ (g.A.AtomSource.place s).0.1) (sym c.in_ok-new.ensures.seat) (subst (λ r. (limits_of r).names ≤ (g.A.AtomSource.place c.in-Some.seat).0.1) (sym c.in_ok-new.ensures.rules) first.3)));
      fresh = fresh_next c.args.rules xs c.push.new.self.items x c.args.accounts.now c.index-accounts-len.result items c.loop-seat.invariant.fresh c.in_ok-new.ensures.fresh name_is;
      rest = subst (λ n. AreSeatsFrom g.A.AtomSource.is_of g.A.AtomSource.place g.A.AtomSource.knows c.args.rules c.args.names n c.next.new.self.rest.items) (sym longer)
          (seats_left g.A.AtomSource.is_of g.A.AtomSource.place g.A.AtomSource.knows c.args.rules c.args.names (length xs) c.in-Some.seat c.next.new.self.rest.items
          (subst (λ ys. AreSeatsFrom g.A.AtomSource.is_of g.A.AtomSource.place g.A.AtomSource.knows c.args.rules c.args.names (length xs) ys) c.in-Some.ensures.steps.0 c.loop-seat.invariant.rest));
      count = omega (arith, left, longer, c.loop-seat.invariant.count);
    }

pub returns-clause-fresh : goal.returns-clause-fresh
returns-clause-fresh g c = λ u f less.
    let xs = c.loop-seat.kept.items in
    c.loop-seat.invariant.fresh u f (omega (arith, less, length-map xs (λ z. z.1), c.loop-seat.invariant.count, c.in-None.ensures.steps.0, c.loop-seat.seat-iterator.rest.ok.0))
