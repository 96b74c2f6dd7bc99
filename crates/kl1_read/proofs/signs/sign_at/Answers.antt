use Rattle.std.proofs.Common.{◌≡◌, ◌≤◌, ◌-◌, suc, Bool, false, if◌then◌else◌, List, [], ◌∷◌, length, take, drop, get_or, find, Option, Some, nat_eq, ap, sym, ◌∙◌, arith}
use Rattle.std.specs.List.{starts_with}
use Rattle.std.proofs.lemmas.List.{take_all}
use Rattle.kl1_model.specs.declared.sign.Sign.{Sign}
use Rattle.kl1_model.specs.declared.sign.Sign.TheVariants.{Neck}
use Rattle.kl1_model.specs.Token.{spelling_of}
use Rattle.kl1_read.proofs.signs.sign_at.Goals as goal

-- one that isn't sought is passed
past : (p : Sign → Bool) (xs : List Sign) (d : Sign) → 1 ≤ length xs → p (get_or xs 0 d) ≡ false → find p (take (length xs - 1) (drop 1 xs)) ≡ find p xs
past p [] d h e = absurd (omega arith)
past p (x ∷ xs) d h e = ap (find p) (take_all (suc (length xs) - 1) xs (omega arith)) ∙ sym (ap (λ b. if◌then◌else◌ {A = Option Sign} b (Some x) (find p xs)) e)

pub loop-rest-preserved : goal.loop-rest-preserved
loop-rest-preserved c =
    past (λ s. starts_with nat_eq c.args.bytes.now (spelling_of s)) c.loop-rest.rest.now Neck c.in-len1-up.len_at_least (rw (← c.spelling_of.ensures) (sym c.starts_with.ensures.value ∙ c.if-starts_with.false)) ∙ c.loop-rest.invariant
