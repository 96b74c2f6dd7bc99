use Rattle.std.proofs.Common.{List, [], ◌∷◌, ◌++◌, length, map, sym, ap, ◌∙◌, subst, arith}
use Rattle.kl1_store.specs.Words.{unpacked, AreWords, Listed}
use Rattle.kl1_store.proofs.Packing.{map_pushed}
use Rattle.kl1_store.proofs.Ordering.{order_few}
use Rattle.kl1_store.proofs.Listing.{words_pushed}
use Rattle.kl1_store.proofs.words.Words.push.Goals as goal

pub pack-word-requires-clause-room : goal.pack-word-requires-clause-room
pack-word-requires-clause-room g c =
    let s = c.self.inside in
    let few = order_few 0 s.words.items (length s.wide.items) c.self.invariant.order in
    let room = ap (λ (v : Listed g.row.N.Denot). v.room) c.self.view_is in
    omega (arith, few, room, c.requires, c.self.invariant.wide_serve)

pub pack-word-requires-clause-few : goal.pack-word-requires-clause-few
pack-word-requires-clause-few g c =
    let s = c.self.inside in
    let few = order_few 0 s.words.items (length s.wide.items) c.self.invariant.order in
    omega (arith, few, c.self.invariant.held, c.self.invariant.few)

pub push_reserved-requires : goal.push_reserved-requires
push_reserved-requires g c =
    let s = c.self.inside in
    let room = ap (λ (v : Listed g.row.N.Denot). v.room) c.self.view_is in
    omega (arith, room, c.requires, c.self.invariant.words_serve, s.words.ok.0)

pub invariant_of-self : goal.invariant_of-self
invariant_of-self g c =
    let s = c.self.inside in
    let new = c.pack-word.new.wide in
    let room = ap (λ (v : Listed g.row.N.Denot). v.room) c.self.view_is in
    let P : List _ → Type 0 = λ l. AreWords l new.items s.memory s.words.cap s.wide.cap in
    let pushed = words_pushed s.words.items s.wide.items new.items s.memory s.words.cap s.wide.cap c.args.cell c.pack-word.result c.self.invariant c.pack-word.ensures.packs (omega (arith, room, c.requires)) in
    let all = subst P (sym c.push_reserved.ensures.items) pushed in
    record {
      packed = all.packed;
      order = all.order;
      held = all.held;
      few = all.few;
      words_serve = omega (arith, all.words_serve, c.push_reserved.ensures.capacity);
      wide_serve = omega (arith, all.wide_serve, c.pack-word.ensures.capacity);
    }

pub returns-clause-cells : goal.returns-clause-cells
returns-clause-cells g c =
    let s = c.self.inside in
    let new = c.pack-word.new.wide in
    ap (map (unpacked new.items)) c.push_reserved.ensures.items
    ∙ (map_pushed s.wide.items new.items s.words.items c.pack-word.result c.args.cell c.self.invariant.packed c.pack-word.ensures.packs
    ∙ ap (λ (v : Listed g.row.N.Denot). v.cells ++ c.args.cell ∷ []) c.self.view_is)
