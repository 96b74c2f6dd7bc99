use Rattle.std.proofs.Common.{◌≡◌, sym, ap, ◌∙◌, arith, subst}
use Rattle.kl1_store.specs.Held.{Held, Stored, Room, sizes_of}
use Rattle.kl1_store.specs.Inside.{held_in, room_in, IsInside}
use Rattle.kl1_store.specs.Sound.{IsFormed, Grown}
use Rattle.kl1_store.specs.Spending.{FreesRoom}
use Rattle.kl1_store.proofs.Rooms.{frees_lists, spare_most}
use Rattle.kl1_store.proofs.Lists.{IsBack, kept_by, cut_at, not_cut, taken_back, same_held}
use Rattle.kl1_store.proofs.cells.Cells.back.Goals as goal

pub keep-requires-clause-variables : goal.keep-requires-clause-variables
keep-requires-clause-variables g c =
    let s = c.self.inside in
    let q = c.requires.1 in
    let e = ap (λ (v : Stored g.row.N.Denot). v.held) c.self.view_is in
    (kept_by s.bindings.variables s.nodes.items s.arguments.cells s.bindings.bindings c.args.self.now.held c.requires.0 c.args.mark e q.0 q.1.0 q.1.1).variables

pub keep-requires-clause-below : goal.keep-requires-clause-below
keep-requires-clause-below g c =
    let s = c.self.inside in
    let q = c.requires.1 in
    let e = ap (λ (v : Stored g.row.N.Denot). v.held) c.self.view_is in
    (kept_by s.bindings.variables s.nodes.items s.arguments.cells s.bindings.bindings c.args.self.now.held c.requires.0 c.args.mark e q.0 q.1.0 q.1.1).below

cut : (g : _) (c : goal.After-truncate-then-structures-len g) (h : Held g.row.N.Denot) → c.args.mark ≡ sizes_of h → IsFormed h → Grown h c.args.self.now.held →
    IsBack c.args.mark.variables c.truncate-then-structures-len.new.self.items c.truncate.new.self.cells c.keep.new.self.bindings h
cut g c h p q r =
    let s = c.self.inside in
    let e = ap (λ (v : Stored g.row.N.Denot). v.held) c.self.view_is in
    taken_back s.bindings.variables s.nodes.items c.truncate-then-structures-len.new.self.items s.arguments.cells c.truncate.new.self.cells s.bindings.bindings c.keep.new.self.bindings c.args.self.now.held h c.args.mark
    c.self.invariant e p q r c.keep.ensures.bindings
    (cut_at s.bindings.variables s.nodes.items c.truncate-then-structures-len.new.self.items s.arguments.cells c.truncate.new.self.cells s.bindings.bindings c.args.mark.structures c.index.result.now c.self.invariant (omega (arith, s.nodes.ok.0)) c.index.ensures c.truncate-then-structures-len.ensures.items c.truncate.ensures.cells)

whole : (g : _) (c : goal.Else-structures-len g) (h : Held g.row.N.Denot) → c.args.mark ≡ sizes_of h → IsFormed h → Grown h c.args.self.now.held →
    IsBack c.args.mark.variables c.self.inside.nodes.items c.self.inside.arguments.cells c.keep.new.self.bindings h
whole g c h p q r =
    let s = c.self.inside in
    let e = ap (λ (v : Stored g.row.N.Denot). v.held) c.self.view_is in
    taken_back s.bindings.variables s.nodes.items s.nodes.items s.arguments.cells s.arguments.cells s.bindings.bindings c.keep.new.self.bindings c.args.self.now.held h c.args.mark
    c.self.invariant e p q r c.keep.ensures.bindings
    (not_cut s.bindings.variables s.nodes.items s.arguments.cells s.bindings.bindings c.args.mark.structures c.self.invariant (omega (arith, s.nodes.ok.0)))

pub invariant_of-self : goal.invariant_of-self
invariant_of-self g c =
    let P : _ → Type 0 = λ n. IsInside n c.truncate-then-structures-len.new.self.items c.truncate.new.self.cells c.keep.new.self.bindings in
    subst P (sym c.keep.ensures.variables) (cut g c c.requires.0 c.requires.1.0 c.requires.1.1.0 c.requires.1.1.1).inside

pub invariant_of-self-else-structures-len : goal.invariant_of-self-else-structures-len
invariant_of-self-else-structures-len g c =
    let P : _ → Type 0 = λ n. IsInside n c.self.inside.nodes.items c.self.inside.arguments.cells c.keep.new.self.bindings in
    subst P (sym c.keep.ensures.variables) (whole g c c.requires.0 c.requires.1.0 c.requires.1.1.0 c.requires.1.1.1).inside

pub returns-then-structures-len-clause-held : goal.returns-then-structures-len-clause-held
returns-then-structures-len-clause-held g c = λ h p r.
    let q = c.requires.1 in
    ap (λ n. held_in n c.truncate-then-structures-len.new.self.items c.truncate.new.self.cells c.keep.new.self.bindings) c.keep.ensures.variables
    ∙ (cut g c c.requires.0 q.0 q.1.0 q.1.1).held ∙ same_held c.requires.0 h c.args.self.now.held (sym q.0 ∙ p) q.1.1 r

pub returns-else-structures-len-clause-held : goal.returns-else-structures-len-clause-held
returns-else-structures-len-clause-held g c = λ h p r.
    let q = c.requires.1 in
    ap (λ n. held_in n c.self.inside.nodes.items c.self.inside.arguments.cells c.keep.new.self.bindings) c.keep.ensures.variables
    ∙ (whole g c c.requires.0 q.0 q.1.0 q.1.1).held ∙ same_held c.requires.0 h c.args.self.now.held (sym q.0 ∙ p) q.1.1 r

pub returns-then-structures-len-clause-room : goal.returns-then-structures-len-clause-room
returns-then-structures-len-clause-room g c =
    let s = c.self.inside in
    let q = c.requires.1 in
    let nodes = c.truncate-then-structures-len.new.self in
    let arguments = c.truncate.new.self in
    let bindings = c.keep.new.self in
    let room : Room = record { variables = bindings.room; structures = room_in nodes.cap nodes.len; arguments = arguments.room; bindings = bindings.binding_room } in
    let P : Stored g.row.N.Denot → Type 0 = λ v. FreesRoom v.held v.room (held_in bindings.variables nodes.items arguments.cells bindings.bindings) room in
    let inside : IsInside bindings.variables nodes.items arguments.cells bindings.bindings = invariant_of-self g c in
    let spared = spare_most s.nodes.len s.nodes.cap nodes.len nodes.cap s.nodes.ok.1 (omega (arith, c.self.invariant.structures_fit, s.nodes.ok.0)) (omega (arith, c.truncate-then-structures-len.ensures.capacity)) in
    subst P c.self.view_is
    (frees_lists s.bindings.variables s.nodes.items s.arguments.cells s.bindings.bindings (record { variables = s.bindings.room; structures = room_in s.nodes.cap s.nodes.len; arguments = s.arguments.room; bindings = s.bindings.binding_room })
    bindings.variables nodes.items arguments.cells bindings.bindings room c.self.invariant inside c.keep.ensures.room (omega (arith, spared, s.nodes.ok.0, nodes.ok.0)) (omega (arith, c.truncate.ensures.room)) c.keep.ensures.binding_room)

pub returns-else-structures-len-clause-room : goal.returns-else-structures-len-clause-room
returns-else-structures-len-clause-room g c =
    let s = c.self.inside in
    let q = c.requires.1 in
    let bindings = c.keep.new.self in
    let room : Room = record { variables = bindings.room; structures = room_in s.nodes.cap s.nodes.len; arguments = s.arguments.room; bindings = bindings.binding_room } in
    let P : Stored g.row.N.Denot → Type 0 = λ v. FreesRoom v.held v.room (held_in bindings.variables s.nodes.items s.arguments.cells bindings.bindings) room in
    let inside : IsInside bindings.variables s.nodes.items s.arguments.cells bindings.bindings = invariant_of-self-else-structures-len g c in
    subst P c.self.view_is
    (frees_lists s.bindings.variables s.nodes.items s.arguments.cells s.bindings.bindings (record { variables = s.bindings.room; structures = room_in s.nodes.cap s.nodes.len; arguments = s.arguments.room; bindings = s.bindings.binding_room })
    bindings.variables s.nodes.items s.arguments.cells bindings.bindings room c.self.invariant inside c.keep.ensures.room (omega arith) (omega arith) c.keep.ensures.binding_room)
