use Rattle.std.proofs.Common.{◌-◌, ap, ◌∙◌, arith}
use Rattle.kl1_store.specs.Held.{found}
use Rattle.kl1_store.specs.Slots.{Trail}
use Rattle.kl1_store.proofs.Placed.{value_unbound, value_bound, place_within, place_read, place_bound}
use Rattle.kl1_store.proofs.bindings.Bindings.value.Goals as goal

pub index-place-requires : goal.index-place-requires
index-place-requires g c =
    let e = ap (λ (v : Trail g.row.N.Denot). v.variables) c.self.view_is in
    omega (arith, e, c.requires, c.self.inside.places.ok.0)

pub returns-then-place-eq0 : goal.returns-then-place-eq0
returns-then-place-eq0 g c =
    let s = c.self.inside in
    let e = ap (λ (v : Trail g.row.N.Denot). v.variables) c.self.view_is in
    value_unbound s.places.items s.variables.items s.values.cells c.args.variable c.self.invariant.placed
    (place_read s.places.items c.args.variable c.index-place.result.now (omega (arith, e, c.requires)) c.index-place.ensures ∙ c.if-place-eq0.true)
    ∙ ap (λ (v : Trail g.row.N.Denot). found c.args.variable v.bindings) c.self.view_is

pub get-requires : goal.get-requires
get-requires g c =
    let s = c.self.inside in
    let e = ap (λ (v : Trail g.row.N.Denot). v.variables) c.self.view_is in
    let one = place_bound s.places.items c.args.variable c.index-place.result.now (omega (arith, e, c.requires)) c.index-place.ensures c.if-place-eq0.false in
    let within = place_within s.places.items s.variables.items c.args.variable (c.index-place.result.now - 1) c.self.invariant.placed one in
    omega (arith, within, c.self.invariant.paired)

pub returns : goal.returns
returns g c =
    let s = c.self.inside in
    let e = ap (λ (v : Trail g.row.N.Denot). v.variables) c.self.view_is in
    let one = place_bound s.places.items c.args.variable c.index-place.result.now (omega (arith, e, c.requires)) c.index-place.ensures c.if-place-eq0.false in
    c.get.ensures
    ∙ (value_bound s.places.items s.variables.items s.values.cells c.args.variable (c.index-place.result.now - 1) c.get.result c.self.invariant.placed c.self.invariant.paired one
    ∙ ap (λ (v : Trail g.row.N.Denot). found c.args.variable v.bindings) c.self.view_is)
