use Rattle.std.proofs.Common.{◌≡◌, ◌+◌, suc, length, arith}
use Rattle.kl1_term.proofs.Renumbering.{placed_again, placed_first}
use Rattle.kl1_term.proofs.telling.place_of.Goals as goal

pub returns-in-Some : goal.returns-in-Some
returns-in-Some c = placed_again c.args.places.now c.args.seen.now.items c.args.number c.in-Some.place.now c.requires c.in-Some.ensures.value

pub returns : goal.returns
returns c =
    let next : c.len.result + 1 ≡ suc (length c.args.seen.now.items) = omega (arith, c.len.ensures, c.args.seen.now.ok.0) in
    placed_first c.args.places.now c.insert.new.self c.args.seen.now.items c.push.new.self.items c.args.number (c.len.result + 1) c.requires c.in_default.ensures.value next c.in_ok-push.ensures.items c.in_ok-insert.ensures.updates
