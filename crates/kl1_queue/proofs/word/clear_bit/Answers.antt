use Rattle.std.proofs.Common.{◌/◌, ◌∙◌, arith}
use Rattle.std.proofs.lemmas.List.{get_or_default}
use Rattle.kl1_queue.proofs.Words.{cleared_at}
use Rattle.kl1_queue.proofs.word.clear_bit.Goals as goal

pub returns-clause-cleared : goal.returns-clause-cleared
returns-clause-cleared c = cleared_at c.args.words.now.items c.args.place c.index.result.now c.requires (c.index.ensures ∙ get_or_default c.args.words.now.items (c.args.place / 64) c.index.result.now 0 (omega (arith, c.requires)))
