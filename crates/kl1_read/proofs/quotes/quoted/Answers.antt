use Rattle.std.proofs.Common.{sym, arith}
use Rattle.kl1_read.proofs.WordLemmas.{quotes_too_long}
use Rattle.kl1_read.proofs.quotes.quoted.Goals as goal

pub returns : goal.returns
returns c =
    rw (← c.text.invariant.same) (sym (quotes_too_long c.text.after_quote c.text.text c.text.rest.now (omega arith)))
