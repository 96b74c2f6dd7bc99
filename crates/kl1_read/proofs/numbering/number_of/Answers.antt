use Rattle.std.proofs.Common.{◌≡◌, ◌+◌, Some, bytes_eq, subst, arith}
use Rattle.std.specs.HashMap.{Updates}
use Rattle.kl1_read.proofs.SeenSpellings.{another, again, first}
use Rattle.kl1_read.proofs.Steps.{ok_along}
use Rattle.kl1_read.proofs.numbering.number_of.Goals as goal

-- `_`, a spelling that was seen, and a new one
pub returns-then-is_another : goal.returns-then-is_another
returns-then-is_another c =
    ok_along _ _ c.put.result c.put.ensures (λ n h. another c.args.numbers.now c.args.seen.now.items c.put.new.seen.items c.args.text n c.requires c.if-is_another.ensures h.next h.put)

pub returns-in-Some : goal.returns-in-Some
returns-in-Some c = again c.args.numbers.now c.args.seen.now.items c.args.text c.in-Some.number.now c.requires c.if-is_another.ensures c.in-Some.ensures.value

pub returns : goal.returns
returns c =
    ok_along _ _ c.put-2.result c.put-2.ensures (λ n h.
    let next : c.len.result + 1 ≡ n = omega (arith, h.next, c.len.ensures, c.args.seen.now.ok.0) in
    first c.args.numbers.now c.insert.new.self c.args.seen.now.items c.put-2.new.seen.items c.args.text n c.requires c.if-is_another.ensures c.in_default.ensures.value h.next h.put (subst (λ m. Updates bytes_eq c.args.numbers.now c.insert.new.self c.args.text (Some m)) next c.in_ok-insert.ensures.updates))
