use Rattle.std.proofs.Common.{add-one, map, arith, sym}
use Rattle.kl1_model.specs.Token.{broken, line_end, blank, token, tokens_of_text}
use Rattle.kl1_read.specs.Views.{spelled_token}
use Rattle.kl1_layout.specs.Written.{written_at, written_of}
use Rattle.kl1_layout.specs.Pieces.{written_piece}
use Rattle.kl1_layout.proofs.PieceSteps.{ended, behind_line, behind_blank, behind_token, break_from}
use Rattle.kl1_layout.proofs.pieces.pieces_of.Goals as goal

pub returns-in-Finished-clause-pieces : goal.returns-in-Finished-clause-pieces
returns-in-Finished-clause-pieces c = ended (map written_piece c.pieces.pieces.items) c.pieces.alone c.pieces.rest.now (written_of c.args.text.now) c.in-Finished.ensures.value c.pieces.invariant.same

pub returns-in-Broken-clause-fault : goal.returns-in-Broken-clause-fault
returns-in-Broken-clause-fault c = sym (break_from broken c.pieces.line c.pieces.rest.now (tokens_of_text c.args.text.now).broken_at c.in-Broken.ensures.value c.pieces.invariant.broken)

pub pieces-preserved-in-LineEnd : goal.pieces-preserved-in-LineEnd
pieces-preserved-in-LineEnd c =
    record {
      same = behind_line (map written_piece c.pieces.pieces.items) c.pieces.alone c.pieces.rest.now c.in-LineEnd.behind.now (written_of c.args.text.now) c.in-LineEnd.ensures.value c.pieces.invariant.same;
      broken = rw add-one (break_from (line_end c.in-LineEnd.behind.now) c.pieces.line c.pieces.rest.now (tokens_of_text c.args.text.now).broken_at c.in-LineEnd.ensures.value c.pieces.invariant.broken);
      lines = omega (arith, c.in-LineEnd.ensures.less);
    }

pub pieces-preserved-in-Blank : goal.pieces-preserved-in-Blank
pieces-preserved-in-Blank c =
    record {
      same = behind_blank (map written_piece c.pieces.pieces.items) _ c.pieces.alone c.pieces.rest.now c.in-Blank.behind.now (written_of c.args.text.now) c.in-Blank.ensures.value (c.in_ok-breaks-in-Blank.ensures (written_at c.pieces.alone c.in-Blank.behind.now)) c.pieces.invariant.same;
      broken = break_from (blank c.in-Blank.behind.now) c.pieces.line c.pieces.rest.now (tokens_of_text c.args.text.now).broken_at c.in-Blank.ensures.value c.pieces.invariant.broken;
      lines = omega (arith, c.in-Blank.ensures.less);
    }

pub pieces-preserved : goal.pieces-preserved
pieces-preserved c =
    record {
      same = rw c.in_ok-put_piece-in-Token.ensures (behind_token (map written_piece c.pieces.pieces.items) c.pieces.alone (spelled_token c.in-Token.token) c.pieces.rest.now c.in-Token.behind.now (written_of c.args.text.now) c.in-Token.ensures.value c.pieces.invariant.same);
      broken = break_from (token (spelled_token c.in-Token.token) c.in-Token.behind.now) c.pieces.line c.pieces.rest.now (tokens_of_text c.args.text.now).broken_at c.in-Token.ensures.value c.pieces.invariant.broken;
      lines = omega (arith, c.in-Token.ensures.less);
    }
