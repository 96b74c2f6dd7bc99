use Rattle.std.proofs.Common.{◌≡◌, length, [], ◌∷◌, ◌++◌, refl, ap, ◌∙◌, arith, append_assoc}
use Rattle.kl1_store.specs.Held.{Stored, with_structure}
use Rattle.kl1_store.specs.Inside.{held_in, IsInside}
use Rattle.kl1_store.proofs.Laid.{length-shapes_in}
use Rattle.kl1_store.proofs.Lists.{built_at}
use Rattle.kl1_store.proofs.cells.Cells.build_pair.Goals as goal

-- the lists after the growth
grown : (g : _) (c : goal.After-push_reserved g) →
    IsInside c.self.inside.bindings.variables c.push_reserved.new.self.items c.push-2.new.self.cells c.self.inside.bindings.bindings
    × (held_in c.self.inside.bindings.variables c.push_reserved.new.self.items c.push-2.new.self.cells c.self.inside.bindings.bindings ≡ with_structure c.args.self.now.held c.args.name (c.args.first ∷ c.args.second ∷ []))
grown g c =
    let s = c.self.inside in
    let e = ap (λ (v : Stored g.row.N.Denot). v.held) c.self.view_is in
    let both : c.push-2.new.self.cells ≡ s.arguments.cells ++ c.args.first ∷ c.args.second ∷ [] =
    c.push-2.ensures.cells
    ∙ ap (λ l. l ++ c.args.second ∷ []) (c.push.ensures.cells ∙ ap (λ l. l ++ c.args.first ∷ []) c.in_ok-make_room-2.ensures.same)
    ∙ append_assoc s.arguments.cells (c.args.first ∷ []) (c.args.second ∷ []) in
    built_at s.bindings.variables s.nodes.items c.push_reserved.new.self.items s.arguments.cells c.push-2.new.self.cells s.bindings.bindings
    (record { name = c.args.name; start = c.len-start.result; count = 2 }) (c.args.first ∷ c.args.second ∷ []) c.args.self.now.held
    c.self.invariant e (c.push_reserved.ensures.items ∙ ap (λ l. l ++ record { name = c.args.name; start = c.len-start.result; count = 2 } ∷ []) c.in_ok-make_room.ensures.items) both c.requires
    c.len-start.ensures.is refl (omega arith) (omega arith)

pub invariant_of-self-2 : goal.invariant_of-self-2
invariant_of-self-2 g c = (grown g c).0

pub returns-clause-ok : goal.returns-clause-ok
returns-clause-ok g c =
    let s = c.self.inside in
    let e = ap (λ (v : Stored g.row.N.Denot). length v.held.structures) c.self.view_is in
    (omega (arith, e, length-shapes_in s.arguments.cells s.nodes.items, s.nodes.ok.0), (grown g c).1)
