-- Marks in front of tokens.
use Rattle.std.proofs.Common.{◌≡◌, List, [], ◌∷◌, Some, None, refl, ap, sym, ◌∙◌}
use Rattle.kl1_model.specs.declared.sign.Sign.TheVariants as sign
use Rattle.kl1_model.specs.Token.{sign_token}
use Rattle.kl1_model.specs.Grammar.{Numbered}
use Rattle.kl1_read.specs.declared.mark.Mark.{Mark}
use Rattle.kl1_read.specs.declared.mark.Mark.TheVariants.{Comma, Open, Close, CloseList, Bar, Colon, Neck, At}
use Rattle.kl1_read.specs.Marks.{sign_of, behind_mark}

here_by : (mark : Mark) (ts : List Numbered) → behind_mark mark (sign_token (sign_of mark) ∷ ts) ≡ Some ts
here_by Comma ts = refl
here_by Open ts = refl
here_by Close ts = refl
here_by CloseList ts = refl
here_by Bar ts = refl
here_by Colon ts = refl
here_by Neck ts = refl
here_by At ts = refl

-- a mark is there
pub mark_here : (mark : Mark) (t : Numbered) (ts : List Numbered) → t ≡ sign_token (sign_of mark) → Some ts ≡ behind_mark mark (t ∷ ts)
mark_here mark t ts h = sym (ap (λ u. behind_mark mark (u ∷ ts)) h ∙ here_by mark ts)

-- another token is there
pub mark_gone : (mark : Mark) (t : Numbered) (ts : List Numbered) → (t ≡ sign_token (sign_of mark) → ⊥) → None ≡ behind_mark mark (t ∷ ts)
mark_gone Comma (sign_token sign.Comma) ts h = absurd (h refl)
mark_gone Open (sign_token sign.Open) ts h = absurd (h refl)
mark_gone Close (sign_token sign.Close) ts h = absurd (h refl)
mark_gone CloseList (sign_token sign.CloseList) ts h = absurd (h refl)
mark_gone Bar (sign_token sign.Bar) ts h = absurd (h refl)
mark_gone Colon (sign_token sign.Colon) ts h = absurd (h refl)
mark_gone Neck (sign_token sign.Neck) ts h = absurd (h refl)
mark_gone At (sign_token sign.At) ts h = absurd (h refl)
mark_gone Comma _ ts h = refl
mark_gone Open _ ts h = refl
mark_gone Close _ ts h = refl
mark_gone CloseList _ ts h = refl
mark_gone Bar _ ts h = refl
mark_gone Colon _ ts h = refl
mark_gone Neck _ ts h = refl
mark_gone At _ ts h = refl

pub mark_end : (mark : Mark) → None ≡ behind_mark mark []
mark_end Comma = refl
mark_end Open = refl
mark_end Close = refl
mark_end CloseList = refl
mark_end Bar = refl
mark_end Colon = refl
mark_end Neck = refl
mark_end At = refl
