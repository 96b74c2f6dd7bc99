use Rattle.std.proofs.Common.{pos, ◌+ℤ◌, to_z, of_z, w64, arith}
use Rattle.std.proofs.lemmas.Int.{ints}
use Rattle.kl1_store.proofs.Packing.{word_of_small}
use Rattle.kl1_store.proofs.word.small.Goals as goal

pub returns : goal.returns
returns c =
    let z = to_z w64 (of_z w64 (to_z w64 (of_z w64 c.args.integer) +ℤ pos 2305843009213693952)) in
    word_of_small c.args.integer z (omega (arith, ints)) (omega (arith, ints)) (omega (arith, ints))
