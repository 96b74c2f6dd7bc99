use Rattle.std.proofs.Common.{◌/◌, ◌%◌, ◌^◌, sym, ◌∙◌, arith}
use Rattle.std.proofs.lemmas.List.{get_or_default}
use Rattle.std.proofs.lemmas.Bool.{eqb-true, eqb-false}
use Rattle.kl1_queue.proofs.Words.{bit_is, bit_is_not}
use Rattle.kl1_queue.proofs.word.has_bit.Goals as goal

pub returns-clause-yes : goal.returns-clause-yes
returns-clause-yes c = λ t.
    let ws = c.args.words.now.items in
    let k = c.args.place in
    let n = c.index.result.now in
    sym (bit_is ws k n (c.index.ensures ∙ get_or_default ws (k / 64) n 0 (omega (arith, c.requires)))) ∙ eqb-true (n / 2 ^ (k % 64) % 2) 1 t

pub returns-clause-no : goal.returns-clause-no
returns-clause-no c = λ t.
    let ws = c.args.words.now.items in
    let k = c.args.place in
    let n = c.index.result.now in
    bit_is_not ws k n (c.index.ensures ∙ get_or_default ws (k / 64) n 0 (omega (arith, c.requires))) (eqb-false (n / 2 ^ (k % 64) % 2) 1 t)
