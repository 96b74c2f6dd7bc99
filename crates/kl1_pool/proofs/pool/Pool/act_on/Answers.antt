use Rattle.std.proofs.Common.{sym, ◌∙◌}
use Rattle.kl1_pool.specs.Counted.{room_in}
use Rattle.kl1_pool.proofs.Calling.{called_there}
use Rattle.kl1_pool.proofs.pool.Pool.act_on.Goals as goal

pub act-answer-requires-clause-named : goal.act-answer-requires-clause-named
act-answer-requires-clause-named g c =
    let here = sym c.account.ensures ∙ c.if-account.false in
    called_there g.N.Names.names c.args.account c.args.found.now.book.account c.args.found.now.held.0.own_name (sym here) (c.requires.named here)

-- it was done by the account that was found
pub returns-clause-done : goal.returns-clause-done
returns-clause-done g c = λ yes.
    let counts = c.shows_counts.ensures in
    record {
      found = record { kept = counts.kept; names = counts.names; keeps_to = counts.rules; called = c.requires.named (sym c.account.ensures ∙ c.if-account.false) };
      room = room_in c.args.found.now.book;
      does = c.act-answer.ensures.does;
      before = c.act-answer.ensures.before;
    }
