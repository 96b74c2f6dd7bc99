-- What is written in a text, without a count of fronts.
use Rattle.std.specs.Prelude.{◌≡◌, ℕ, zero, suc, ◌<◌, Bool, true, false, List, length, Option}
use Rattle.std.proofs.Common.{refl, ap, ◌∙◌, arith}
use Rattle.kl1_model.specs.Token.{Front, finished, broken, line_end, blank, token, front_of}
use Rattle.kl1_model.specs.laws.ReadLaws.{LeavesLess}
use Rattle.kl1_model.proofs.LexSteps.{fronts_leave_less}
use Rattle.kl1_layout.specs.Written.{Written, written_token, with_first, with_comment, written_by, written_within, written_at}

-- two ways to go on that agree on fewer than `most` bytes give the same
written_by_same : (f g : Bool → List ℕ → Option (List Written)) (alone : Bool) (text : List ℕ) (most : ℕ) (x : Front) → LeavesLess most x → ((a : Bool) (rest : List ℕ) → length rest < most → f a rest ≡ g a rest) → written_by f alone text x ≡ written_by g alone text x
written_by_same f g alone text most finished less same = refl
written_by_same f g alone text most broken less same = refl
written_by_same f g alone text most (line_end rest) less same = same true rest less
written_by_same f g alone text most (blank rest) less same = ap (with_comment alone text) (same alone rest less)
written_by_same f g alone text most (token t rest) less same = ap (λ (ws : Option (List Written)). with_first (written_token t) ws) (same false rest less)

-- more fronts than bytes give the same
fronts_are_enough : (m n : ℕ) (alone : Bool) (text : List ℕ) → length text < m → length text < n → written_within m alone text ≡ written_within n alone text
unfolding written_within
fronts_are_enough zero n alone text h j = absurd (omega arith)
fronts_are_enough (suc m) zero alone text h j = absurd (omega arith)
fronts_are_enough (suc m) (suc n) alone text h j =
    written_by_same (written_within m) (written_within n) alone text (length text) (front_of text) (fronts_leave_less text) (λ a rest less. fronts_are_enough m n a rest (omega arith) (omega arith))

one_front : (n : ℕ) (alone : Bool) (text : List ℕ) → written_within (suc n) alone text ≡ written_by (written_within n) alone text (front_of text)
unfolding written_within
one_front n alone text = refl

-- what is written in a text is what its front makes of what is written after it
pub written_goes_on : (alone : Bool) (text : List ℕ) → written_at alone text ≡ written_by written_at alone text (front_of text)
written_goes_on alone text =
    one_front (length text) alone text
    ∙ written_by_same (written_within (length text)) written_at alone text (length text) (front_of text) (fronts_leave_less text) (λ a rest less. fronts_are_enough (length text) (suc (length rest)) a rest less (omega arith))
