-- Wrong keys that are remembered.
use Rattle.std.proofs.Common.{◌≡◌, ℕ, zero, suc, ◌-◌, ◌<◌, eqb, true, false, ◌+◌, List, [], ◌∷◌, ◌++◌, length, take, Some, None, refl, ap, sym, ◌∙◌, arith, length-append}
use Rattle.std.specs.Prelude.{nat_lt, if◌then◌else◌, slice_get, IfSome, Option, MatchOption, option_to_list}
use Rattle.std.specs.List.{remove}
use Rattle.std.proofs.lemmas.Bool.{eq-eqb, ne_eqb, lt-ltb}
use Rattle.std.proofs.Math.Seq.{take-append_seam}
use Rattle.kl1_host_front.specs.declared.wrong_keys.TheConstants.{FORGOTTEN_AFTER}
use Rattle.kl1_host_front.specs.declared.wrong_keys.Wrong.{Wrong}
use Rattle.kl1_host_front.specs.Pauses.{count_of, OthersStay}

newest : (w : Wrong) (ws : List Wrong) → count_of (w ∷ ws) w.who w.last ≡ w.count
newest w ws =
    let none : w.last - w.last < FORGOTTEN_AFTER = omega arith in
    rw (eq-eqb w.who w.who refl, lt-ltb (w.last - w.last) FORGOTTEN_AFTER none) refl

-- the one who was put in front has as many wrong keys as stand there
pub newest_counts : (all ws : List Wrong) (w : Wrong) (who now count : ℕ) → all ≡ w ∷ ws → w.who ≡ who → w.last ≡ now → w.count ≡ count → count_of all who now ≡ count
newest_counts all ws w who now count a b c d =
    ap (λ x. count_of x who now) a ∙ ap (λ x. count_of (w ∷ ws) x now) (sym b) ∙ ap (λ x. count_of (w ∷ ws) w.who x) (sym c) ∙ newest w ws ∙ d

-- one in front counts for nobody else
skipped : (w : Wrong) (ws : List Wrong) → OthersStay w.who ws (w ∷ ws)
skipped w ws other now n = rw (ne_eqb w.who other (λ e. n (sym e))) refl

-- so does one that is taken out
removed : (ws : List Wrong) (place who : ℕ) → place < length ws → IfSome (slice_get ws place) (λ w. w.who ≡ who) → OthersStay who ws (remove ws place)
removed [] place who h k other now n = absurd (omega (arith, h))
removed (w ∷ ws) zero who h k other now n = sym (skipped w ws other now (λ e. n (e ∙ k)))
removed (w ∷ ws) (suc p) who h k other now n =
    elim (eqb w.who other) as (λ v. (if v then (if nat_lt (now - w.last) FORGOTTEN_AFTER then w.count else 0) else count_of (remove ws p) other now) ≡ (if v then (if nat_lt (now - w.last) FORGOTTEN_AFTER then w.count else 0) else count_of ws other now)) [
      | true ↦ refl
      | false ↦ removed ws p who (omega (arith, h)) k other now n
    ]

-- others stay if one is taken out, after others stayed
pub removed_others : (first before after : List Wrong) (place who : ℕ) → OthersStay who first before → place < length before → IfSome (slice_get before place) (λ w. w.who ≡ who) → after ≡ remove before place → OthersStay who first after
removed_others first before after place who s h k e other now n =
    ap (λ ws. count_of ws other now) e ∙ removed before place who h k other now n ∙ s other now n

-- others stay if one is put in front
pub added_others : (before after : List Wrong) (w : Wrong) (who : ℕ) → after ≡ w ∷ before → w.who ≡ who → OthersStay who before after
added_others before after w who e k other now n =
    ap (λ ws. count_of ws other now) e ∙ skipped w before other now (λ m. n (m ∙ k))

-- others stay if one is taken out and put in front
pub moved_others : (before left after : List Wrong) (w : Wrong) (place who : ℕ) → place < length before → IfSome (slice_get before place) (λ v. v.who ≡ who) → left ≡ remove before place → after ≡ w ∷ left → w.who ≡ who → OthersStay who before after
moved_others before left after w place who h k d e m other now n =
    added_others left after w who e m other now n ∙ ap (λ ws. count_of ws other now) d ∙ removed before place who h k other now n

-- one is taken out, if there are some
pub one_out : {A : Type 0} (r : Option A) (old new : ℕ) → 0 < old → MatchOption r ((old ≡ 0) × (new ≡ 0)) (λ _. new + 1 ≡ old) → length (option_to_list r) ≡ 1
one_out None old new some h = absurd (omega (arith, some, h.0))
one_out (Some x) old new some h = refl

-- all but the last, if one is taken out at the end
pub but_last : {A : Type 0} (xs ys all : List A) → all ≡ xs ++ ys → length ys ≡ 1 → xs ≡ take (length all - 1) all
but_last xs ys all e one =
    let n : length all - 1 ≡ length xs = omega (arith, ap length e, length-append xs ys, one) in
    sym (ap (λ k. take k all) n ∙ ap (λ l. take (length xs) l) e ∙ take-append_seam xs ys)
