use Rattle.std.proofs.Common.{◌≡◌, ◌+◌, length, [], ◌∷◌, sym, ap, ◌∙◌, arith, take, length-set, length-append}
use Rattle.std.proofs.lemmas.List.{take-append-le}
use Rattle.kl1_store.proofs.Placed.{placed_pop}
use Rattle.kl1_store.proofs.bindings.unbind.Goals as goal

pub index_mut-requires : goal.index_mut-requires
index_mut-requires c =
    let l = c.loop-variables in
    let r = placed_pop l.places.items l.variables.items c.pop.new.self.items c.in-Some.variable l.invariant.placed c.in-Some.ensures.items in
    omega (arith, r.0, l.places.ok.0)

pub loop-variables-preserved-in-Some : goal.loop-variables-preserved-in-Some
loop-variables-preserved-in-Some c =
    let l = c.loop-variables in
    let r = placed_pop l.places.items l.variables.items c.pop.new.self.items c.in-Some.variable l.invariant.placed c.in-Some.ensures.items in
    let long : length l.variables.items ≡ length c.pop.new.self.items + 1 = ap length c.in-Some.ensures.items ∙ length-append c.pop.new.self.items (c.in-Some.variable ∷ []) in
    record {
      placed = r.1;
      first = sym (take-append-le c.args.keep c.pop.new.self.items (c.in-Some.variable ∷ []) (omega (arith, long, l.variables.ok.0))) ∙ ap (take c.args.keep) (sym c.in-Some.ensures.items) ∙ l.invariant.first;
      places = length-set l.places.items c.in-Some.variable _ ∙ l.invariant.places;
      places_capacity = l.invariant.places_capacity;
      variables_capacity = c.pop.ensures.capacity ∙ l.invariant.variables_capacity;
    }
