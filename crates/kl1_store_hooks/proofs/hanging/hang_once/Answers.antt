use Rattle.std.proofs.Common.{sym, ◌∙◌}
use Rattle.std.proofs.lemmas.Result.{on_ok_weaker}
use Rattle.kl1_store_hooks.proofs.Hooked.{newest_hangs, just_hung}
use Rattle.kl1_store_hooks.proofs.hanging.hang_once.Goals as goal

pub returns-then-eq-clause-hangs : goal.returns-then-eq-clause-hangs
returns-then-eq-clause-hangs g c = newest_hangs c.args.variable c.args.number c.args.store.now.hooks c.newest.result c.newest.ensures (sym c.if-eq.true ∙ c.eq.ensures)

pub returns-clause-hangs : goal.returns-clause-hangs
returns-clause-hangs g c = on_ok_weaker c.hang.result (just_hung c.args.store.now.hooks c.hang.new.self.hooks (record { variable = c.args.variable; number = c.args.number })) c.hang.ensures.ok
