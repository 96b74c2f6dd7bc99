use Rattle.std.proofs.Common.{arith}
use Rattle.kl1_stream.proofs.Listing.{further}
use Rattle.kl1_stream.proofs.elements.one_further.Goals as goal

pub returns-in-Some-checked_add : goal.returns-in-Some-checked_add
returns-in-Some-checked_add g c =
    further g.N.NameValue.built c.args.store.now.held c.args.finger c.in-Some._element c.in-Some.rest c.in-Some-checked_add.count c.requires c.in-Some.ensures (omega (arith, c.in-Some-checked_add.ensures.1))
