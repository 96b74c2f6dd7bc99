use Rattle.std.proofs.Common.{ℕ, length, get_or, sym, ap, ◌∙◌, subst, arith}
use Rattle.std.proofs.lemmas.List.{get_or-map}
use Rattle.kl1_store.specs.Words.{unpacked, IsPacked, Listed}
use Rattle.kl1_store.proofs.Listing.{place_inside}
use Rattle.kl1_store.proofs.words.Words.get.Goals as goal

pub index-requires : goal.index-requires
index-requires g c =
    let s = c.self.inside in
    let e = ap (λ (v : Listed g.row.N.Denot). v.cells) c.self.view_is in
    omega (arith, place_inside s.words.items s.wide.items c.args.self.now.cells c.args.place e c.requires, s.words.ok.0)

pub unpack-requires : goal.unpack-requires
unpack-requires g c =
    let s = c.self.inside in
    let e = ap (λ (v : Listed g.row.N.Denot). v.cells) c.self.view_is in
    let P : ℕ → Type 0 = λ w. IsPacked (length s.wide.items) w in
    subst P (sym c.index.ensures) (c.self.invariant.packed c.args.place c.index.result.now (place_inside s.words.items s.wide.items c.args.self.now.cells c.args.place e c.requires))

pub returns : goal.returns
returns g c =
    let s = c.self.inside in
    let e = ap (λ (v : Listed g.row.N.Denot). v.cells) c.self.view_is in
    let inside = place_inside s.words.items s.wide.items c.args.self.now.cells c.args.place e c.requires in
    c.unpack.ensures
    ∙ (ap (unpacked s.wide.items) c.index.ensures
    ∙ (sym (get_or-map (unpacked s.wide.items) s.words.items c.args.place c.index.result.now c.unpack.result inside)
    ∙ ap (λ l. get_or l c.args.place c.unpack.result) e))
