-- A text in which the same is written is a layout.
use Rattle.std.specs.Prelude.{◌≡◌, ℕ, List, Some, option_map}
use Rattle.std.proofs.Common.{ap, sym, ◌∙◌}
use Rattle.kl1_model.specs.Token.{tokens_of_text}
use Rattle.kl1_layout.specs.Written.{Written, written_of}
use Rattle.kl1_layout.specs.Layouts.{unplaced, IsLayoutOf}
use Rattle.kl1_layout.proofs.TokensWritten.{tokens_in, tokens_written}
use Rattle.kl1_layout.proofs.ClausesStay.{clauses_stay}

tokens_there : (text : List ℕ) (ws : List Written) → written_of text ≡ Some ws → unplaced (tokens_of_text text) ≡ Some (tokens_in ws)
tokens_there text ws e = tokens_written text ∙ ap (option_map tokens_in) e

-- a text in which the same is written is a layout
pub layout_of : (old new : List ℕ) (ws : List Written) → written_of old ≡ Some ws → written_of new ≡ Some ws → IsLayoutOf old new
layout_of old new ws e d =
    record {
      written = ws;
      before = e;
      after = d;
      tokens = tokens_there new ws d ∙ sym (tokens_there old ws e);
      clauses = clauses_stay old new (tokens_in ws) (tokens_there old ws e) (tokens_there new ws d);
    }
