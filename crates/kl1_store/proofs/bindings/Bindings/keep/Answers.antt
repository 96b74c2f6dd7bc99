use Rattle.std.proofs.Common.{◌≡◌, List, length, length-take, take, sym, ap, ◌∙◌, subst, arith}
use Rattle.std.proofs.lemmas.List.{length-take-le}
use Rattle.kl1_store.specs.declared.binding.Binding.{Binding}
use Rattle.kl1_store.specs.Slots.{bindings_in, AreBelow, Trail}
use Rattle.kl1_store.proofs.Placed.{placed_cut, length-bindings_in, bindings_in-take}
use Rattle.kl1_store.proofs.bindings.Bindings.keep.Goals as goal
use Rattle.kl1_store.proofs.bindings.Bindings.keep.Goals.{After-truncate-2}

-- the bindings that are left
left : (g : _) (c : After-truncate-2 g) → bindings_in c.unbind.new.variables.items c.truncate.new.self.cells ≡ take c.args.bindings c.args.self.now.bindings
left g c =
    let s = c.self.inside in
    ap (λ l. bindings_in l c.truncate.new.self.cells) c.unbind.ensures.variables
    ∙ (ap (bindings_in (take c.args.bindings s.variables.items)) c.truncate.ensures.cells
    ∙ (bindings_in-take c.args.bindings s.variables.items s.values.cells
    ∙ ap (λ (v : Trail g.row.N.Denot). take c.args.bindings v.bindings) c.self.view_is))

paired : (g : _) (c : After-truncate-2 g) → length c.unbind.new.variables.items ≡ length c.truncate.new.self.cells
paired g c =
    let s = c.self.inside in
    omega (arith, ap length c.unbind.ensures.variables, ap length c.truncate.ensures.cells, length-take c.args.bindings s.variables.items, length-take c.args.bindings s.values.cells, c.self.invariant.paired)

pub invariant_of-self : goal.invariant_of-self
invariant_of-self g c =
    let s = c.self.inside in
    let P : List (Binding g.row.N.Denot) → Type 0 = λ l. AreBelow c.args.variables l in
    record {
      placed = placed_cut c.unbind.new.places.items c.truncate-2.new.self.items c.unbind.new.variables.items c.truncate.new.self.cells c.args.variables
          c.unbind.ensures.placed c.truncate-2.ensures.items (paired g c) (subst P (sym (left g c)) c.requires.below);
      paired = paired g c;
      few = omega (arith, ap length c.truncate-2.ensures.items, length-take c.args.variables c.unbind.new.places.items, c.unbind.ensures.places, c.self.invariant.few);
    }

pub returns-clause-variables : goal.returns-clause-variables
returns-clause-variables g c =
    let s = c.self.inside in
    let e = ap (λ (v : Trail g.row.N.Denot). v.variables) c.self.view_is in
    ap length c.truncate-2.ensures.items ∙ length-take-le c.args.variables c.unbind.new.places.items (omega (arith, c.unbind.ensures.places, e, c.requires.variables))

pub returns-clause-bindings : goal.returns-clause-bindings
returns-clause-bindings g c = left g c

pub returns-clause-binding_room : goal.returns-clause-binding_room
returns-clause-binding_room g c =
    let s = c.self.inside in
    let vs = c.unbind.new.variables in
    let count = ap (λ (v : Trail g.row.N.Denot). length v.bindings) c.self.view_is in
    let room = ap (λ (v : Trail g.row.N.Denot). v.binding_room) c.self.view_is in
    let old = length-bindings_in s.variables.items s.values.cells c.self.invariant.paired in
    let new = length-bindings_in vs.items c.truncate.new.self.cells (paired g c) in
    omega (arith, count, room, old, new, paired g c, c.self.invariant.paired, c.truncate.ensures.room, c.unbind.ensures.variables_capacity, s.variables.ok.0, s.variables.ok.1, vs.ok.0, ap length c.unbind.ensures.variables, length-take c.args.bindings s.variables.items)
