use Rattle.std.proofs.Common.{◌/◌, ◌∙◌, arith}
use Rattle.std.proofs.lemmas.List.{get_or_default}
use Rattle.kl1_queue.proofs.Words.{set_at}
use Rattle.kl1_queue.proofs.word.set_bit.Goals as goal

pub returns : goal.returns
returns c = set_at c.args.words.now.items c.args.place c.index_mut.result.now c.requires (c.index_mut.ensures.value ∙ get_or_default c.args.words.now.items (c.args.place / 64) c.index_mut.result.now 0 (omega (arith, c.requires)))
