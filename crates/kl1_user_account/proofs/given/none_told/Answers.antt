use Rattle.std.proofs.Common.{None, vec_len, ◌∙◌}
use Rattle.kl1_atoms.proofs.Rows.{filled}
use Rattle.kl1_user_account.proofs.given.none_told.Goals as goal

pub returns : goal.returns
returns c = c.in_ok-resize.ensures.items ∙ filled c.new-told.result.items c.args.count (vec_len c.new-told.result) None c.new-told.ensures.items c.new-told.ensures.len
