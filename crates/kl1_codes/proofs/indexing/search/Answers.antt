use Rattle.std.proofs.Common.{rules}
use Rattle.std.proofs.lemmas.List.Sorted.{answers_always}
use Rattle.kl1_codes.proofs.Rows.{searched}
use Rattle.kl1_codes.proofs.indexing.search.Goals as goal

-- the closure gives a row's key
pub returns : goal.returns
returns c =
    let facts = c.binary_search_by_key.ensures in
    let by_key = facts.position (λ row. row.0) (answers_always _ _ _ (λ f a r g called. search rules)) in
    searched c.args.index.now c.args.key c.binary_search_by_key.result c.requires facts.bound by_key
