use Rattle.std.proofs.Common.{◌≡◌, [], ◌∷◌, ◌++◌, length, length-append, length-set, ap, sym, ◌∙◌, arith}
use Rattle.kl1_store.specs.Held.{is_bound}
use Rattle.kl1_store.specs.Slots.{bindings_in, Trail}
use Rattle.kl1_store.specs.declared.binding.Binding.{Binding}
use Rattle.kl1_store.proofs.Placed.{placed_push, unbound_absent, bindings_in-push}
use Rattle.kl1_store.proofs.bindings.Bindings.bind.Goals as goal

-- the lists after a growth
pushed_variables : (g : _) (c : goal.After-self-1 g) → c.push_reserved.new.self.items ≡ c.self.inside.variables.items ++ c.args.variable ∷ []
pushed_variables g c = c.push_reserved.ensures.items ∙ ap (λ l. l ++ c.args.variable ∷ []) c.in_ok-make_room.ensures.items

pushed_values : (g : _) (c : goal.After-self-1 g) → c.push.new.self.cells ≡ c.self.inside.values.cells ++ c.args.value ∷ []
pushed_values g c = c.push.ensures.cells ∙ ap (λ l. l ++ c.args.value ∷ []) c.in_ok-make_room-2.ensures.same

pub index_mut-requires : goal.index_mut-requires
index_mut-requires g c =
    let s = c.self.inside in
    let e = ap (λ (v : Trail g.row.N.Denot). v.variables) c.self.view_is in
    omega (arith, e, c.requires.inside, s.places.ok.0)

pub invariant_of-self-2 : goal.invariant_of-self-2
invariant_of-self-2 g c =
    let s = c.self.inside in
    let e = ap (λ (v : Trail g.row.N.Denot). v.variables) c.self.view_is in
    let f = ap (λ (v : Trail g.row.N.Denot). is_bound c.args.variable v.bindings) c.self.view_is in
    let after = c.push_reserved.new.self.items in
    let values = c.push.new.self.cells in
    let one = pushed_variables g c in
    let two = pushed_values g c in
    let many : length after ≡ length values = omega (arith, ap length one, ap length two, length-append s.variables.items (c.args.variable ∷ []), length-append s.values.cells (c.args.value ∷ []), c.self.invariant.paired) in
    record {
      placed = placed_push s.places.items s.variables.items after c.args.variable c.len.result c.self.invariant.placed (omega (arith, e, c.requires.inside))
          (unbound_absent c.args.variable s.variables.items s.values.cells c.self.invariant.paired (f ∙ c.requires.unbound)) one (c.len.ensures.is ∙ sym many);
      paired = many;
      few = omega (arith, c.self.invariant.few, length-set s.places.items c.args.variable c.len.result);
    }

pub returns-clause-ok : goal.returns-clause-ok
returns-clause-ok g c =
    let s = c.self.inside in
    let b : Binding g.row.N.Denot = record { variable = c.args.variable; value = c.args.value } in
    ap (λ l. bindings_in l c.push.new.self.cells) (pushed_variables g c)
    ∙ (ap (bindings_in (s.variables.items ++ c.args.variable ∷ [])) (pushed_values g c)
    ∙ (bindings_in-push s.variables.items s.values.cells c.args.variable c.args.value c.self.invariant.paired
    ∙ ap (λ (v : Trail g.row.N.Denot). v.bindings ++ b ∷ []) c.self.view_is))
