use Rattle.std.proofs.Common.{◌≡◌, replicate, vec_len, None, ◌∙◌, arith}
use Rattle.kl1_atoms.proofs.Rows.{all_same, filled}
use Rattle.kl1_atoms.proofs.plain_table.free_places.Goals as goal

pub returns-clause-count : goal.returns-clause-count
returns-clause-count c = let l = c.in_ok-resize.ensures.len in let o = c.resize.new.self.ok in omega (arith, l, o)

pub returns-clause-free : goal.returns-clause-free
returns-clause-free c =
    let e : c.resize.new.self.items ≡ replicate c.args.count None = c.in_ok-resize.ensures.items ∙ filled c.new-places.result.items c.args.count (vec_len c.new-places.result) None c.new-places.ensures.items c.new-places.ensures.len in
    λ i below. rw e (all_same c.args.count None i below)
