use Rattle.std.proofs.Common.{◌∷◌, []}
use Rattle.kl1_store.proofs.Comparing.{pair_added}
use Rattle.kl1_store.proofs.compare.put_down.Goals as goal

pub returns : goal.returns
returns c = pair_added c.args.frame.left c.args.frame.right c.args.pairs.now.keys c.insert.new.self.keys (λ l r. c.in_ok-insert.ensures.updates.0 (l ∷ r ∷ []))
