use Rattle.std.proofs.Common.{sym, ◌∙◌}
use Rattle.kl1_read.specs.Statements.{fit_as}
use Rattle.kl1_read.proofs.Clauses.{each_stops, each_goes}
use Rattle.kl1_read.proofs.patterns.put_terms.Goals as goal

pub returns-in-None : goal.returns-in-None
returns-in-None c =
    each_stops (fit_as c.args.role) c.loop-piece.pieces.items c.pop.new.self.items c.in-Some.piece _ _ c.loop-piece.invariant c.in-Some.ensures.items (sym c.in_ok-term_as.ensures ∙ c.in-None.is)

pub loop-piece-preserved : goal.loop-piece-preserved
loop-piece-preserved c =
    each_goes (fit_as c.args.role) c.loop-piece.pieces.items c.pop.new.self.items c.in-Some.piece c.in-Some-2.term c.loop-piece.terms.items c.push.new.self.items _ c.loop-piece.invariant c.in-Some.ensures.items (sym c.in_ok-term_as.ensures ∙ c.in-Some-2.is) c.in_ok-push-in-Some-2.ensures.items
