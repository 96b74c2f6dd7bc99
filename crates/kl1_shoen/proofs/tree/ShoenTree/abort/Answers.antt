use Rattle.std.proofs.Common.{List, map, ap, ◌∙◌}
use Rattle.std.proofs.lemmas.Result.{on_ok_weaker}
use Rattle.kl1_shoen_paths.specs.declared.shoen.Shoen.{Shoen}
use Rattle.kl1_shoen.specs.Shoens.{Tree}
use Rattle.kl1_shoen.proofs.Belows.{aborts_once, aborted_all}
use Rattle.kl1_shoen.proofs.tree.ShoenTree.abort.Goals as goal

pub change_below-requires : goal.change_below-requires
change_below-requires g c = record { once = aborts_once c.args.left }

pub returns-clause-ok : goal.returns-clause-ok
returns-clause-ok g c =
    let t = c.args.self.now in
    on_ok_weaker c.change_below.result (λ is. is ∙ ap (λ (ss : List (Shoen g.row.N.Denot)). let z : Tree g.row.N.Denot = record t { shoens = ss } in z) (aborted_all c.args.left t.shoens t.shoens c.args.number)) c.change_below.ensures.ok
