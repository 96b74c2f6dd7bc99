use Rattle.std.proofs.Common.{◌≡◌, ◌∙◌}
use Rattle.std.proofs.lemmas.List.{get_or_default}
use Rattle.kl1_queue.specs.Bits.{word_of}
use Rattle.kl1_queue.proofs.Words.{low_of, least_at, IsLow}
use Rattle.kl1_queue.proofs.word.lowest.Goals as goal

pub returns : goal.returns
returns c =
    let e : c.index.result.now ≡ word_of c.args.words.now.items c.args.at = c.index.ensures ∙ get_or_default c.args.words.now.items c.args.at c.index.result.now 0 c.requires.at in
    let fits = c.type_inv.words c.args.at 0 c.requires.at in
    let low : IsLow c.index.result.now _ = low_of c.index.result.now (rw e c.requires.some) (rw e fits) in
    least_at c.args.words.now.items c.args.at _ c.requires.at c.requires.least (rw (← e) low)
