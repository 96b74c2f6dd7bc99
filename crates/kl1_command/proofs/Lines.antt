-- How lines are put together.
use Rattle.std.proofs.Common.{◌≡◌, ℕ, List, [], ◌∷◌, ◌++◌, codes, decimal, Option, Some, None, refl, ap, sym, ◌∙◌, append_assoc}
use Rattle.std.proofs.lemmas.List.{append-nil}
use Rattle.kl1_model.specs.declared.condition.Condition.{Condition}
use Rattle.kl1_model.specs.Event.{status_is}
use Rattle.kl1_model_server.specs.Command.{written_line, written_lines, condition_word, reply_lines}
use Rattle.kl1_model_server.specs.Script.{written_reply}
use Rattle.kl1_command.specs.Replies.{front_of, written_after}

-- one line: what stands before it, the line and its end
pub written_one : (prefix : Option (List ℕ)) (line : List ℕ) → written_after prefix (line ∷ []) ≡ front_of prefix ++ line ++ 10 ∷ []
written_one None line = append-nil (written_line line)
written_one (Some word) line = append-nil (written_line (word ++ codes " " ++ line))

-- one line, and then others
pub written_more : (prefix : Option (List ℕ)) (line : List ℕ) (lines : List (List ℕ)) → written_after prefix (line ∷ lines) ≡ written_after prefix (line ∷ []) ++ written_after prefix lines
written_more None line lines = ap (λ x. x ++ written_lines lines) (sym (append-nil (written_line line)))
written_more (Some word) line lines = ap (λ x. x ++ written_reply word lines) (sym (append-nil (written_line (word ++ codes " " ++ line))))

-- parts after others, put together in either order
regrouped : (old front w a b c d e f end : List ℕ) → old ++ front ++ w ++ a ++ b ++ c ++ d ++ e ++ f ++ end ≡ old ++ (front ++ (w ++ a ++ b ++ c ++ d ++ e ++ f) ++ end)
regrouped old front w a b c d e f end = simp append_assoc refl

-- the line of a shoen's state
pub status_line : (prefix : Option (List ℕ)) (old : List ℕ) (c : Condition) (charged allowance alive : ℕ) → old ++ front_of prefix ++ (codes "+ " ++ condition_word c) ++ codes " " ++ decimal charged ++ codes " " ++ decimal allowance ++ codes " " ++ decimal alive ++ 10 ∷ [] ≡ old ++ written_after prefix (reply_lines (status_is c charged allowance alive))
status_line prefix old c charged allowance alive =
    regrouped old (front_of prefix) (codes "+ " ++ condition_word c) (codes " ") (decimal charged) (codes " ") (decimal allowance) (codes " ") (decimal alive) (10 ∷ []) ∙ ap (λ x. old ++ x) (sym (written_one prefix (codes "+ " ++ condition_word c ++ codes " " ++ decimal charged ++ codes " " ++ decimal allowance ++ codes " " ++ decimal alive)))
