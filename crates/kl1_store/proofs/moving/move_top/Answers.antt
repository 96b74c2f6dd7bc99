use Rattle.std.proofs.Common.{◌≡◌, ◌-◌, ◌+◌, ◌++◌, ◌∙◌, ap, arith, length, length-drop, reverse, take, drop}
use Rattle.std.proofs.lemmas.List.{take_all}
use Rattle.kl1_store.proofs.Tops.{top_reversed}
use Rattle.kl1_store.proofs.moving.move_top.Goals as goal

pub returns-clause-moved : goal.returns-clause-moved
returns-clause-moved g c =
    let stack = c.args.stack.now.items in
    let slice = c.deref.result.now in
    let from = c.len-2.result - c.args.count in
    let within : from + c.args.count ≡ length stack = omega (arith, c.len-2.ensures, c.args.stack.now.ok.0, c.if-count-len.false, c.len.ensures) in
    let all : take (length slice - from) (drop from slice) ≡ drop from slice = take_all (length slice - from) (drop from slice) (omega (arith, length-drop from slice)) in
    c.put_reversed.ensures.cells
    ∙ ap (λ l. c.args.list.now.cells ++ reverse l) (all ∙ ap (drop from) c.deref.ensures.value)
    ∙ ap (λ l. c.args.list.now.cells ++ l) (top_reversed c.args.missing c.args.count from stack within).0

pub returns-clause-left : goal.returns-clause-left
returns-clause-left g c =
    let stack = c.args.stack.now.items in
    let from = c.len-2.result - c.args.count in
    let within : from + c.args.count ≡ length stack = omega (arith, c.len-2.ensures, c.args.stack.now.ok.0, c.if-count-len.false, c.len.ensures) in
    ap reverse c.truncate.ensures.items ∙ (top_reversed c.args.missing c.args.count from stack within).1
