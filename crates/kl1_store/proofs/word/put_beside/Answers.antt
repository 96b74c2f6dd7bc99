use Rattle.std.proofs.Common.{◌≡◌, ℕ, ◌+◌, ◌*◌, length, subst, arith}
use Rattle.kl1_store.specs.Words.{Packs}
use Rattle.kl1_store.proofs.Packing.{packs_beside}
use Rattle.kl1_store.proofs.word.put_beside.Goals as goal

pub returns-clause-packs : goal.returns-clause-packs
returns-clause-packs g c =
    let P : ℕ → Type 0 = λ n. Packs {N = g.row.N.Denot} c.args.wide.now.items c.push_reserved.new.self.items c.args.cell (4 * n + 2) in
    let e : length c.args.wide.now.items ≡ c.len-place.result = omega (arith, c.len-place.ensures, c.args.wide.now.ok.0) in
    subst P e (packs_beside c.args.wide.now.items c.push_reserved.new.self.items c.args.cell c.push_reserved.ensures.items)
