-- Where a text has its first line feed.
use Rattle.std.proofs.Common.{◌≡◌, ℕ, suc, ◌+◌, ◌<◌, ◌≤◌, eqb, true, false, List, [], ◌∷◌, ◌++◌, length, take, drop, get_or, refl, ap, sym, ◌∙◌, arith}
use Rattle.std.specs.List.{list_any}
use Rattle.std.proofs.lemmas.List.{take-append-drop, drop_more, take_all}
use Rattle.std.proofs.lemmas.Bool.{eqb-true}
use Rattle.kl1_lines.specs.Places.{place_of, has_byte, IsSplit}

-- no line feed stands before the place of the first
none_before : (bs : List ℕ) → has_byte 10 (take (place_of 10 bs) bs) ≡ false
none_before [] = refl
none_before (b ∷ bs) =
    elim (eqb b 10) as (λ v. eqb b 10 ≡ v → has_byte 10 (take (elim v [ true ↦ 0 | false ↦ suc (place_of 10 bs) ]) (b ∷ bs)) ≡ false) [
      | true ↦ λ e. refl
      | false ↦ λ e. rw (e, list_any) (none_before bs)
    ] refl

-- a line feed stands at that place, if the text has one
feed_there : (bs : List ℕ) → place_of 10 bs < length bs → get_or bs (place_of 10 bs) 0 ≡ 10
feed_there [] h = absurd (omega arith)
feed_there (b ∷ bs) h =
    elim (eqb b 10) as (λ v. eqb b 10 ≡ v → elim v [ true ↦ 0 | false ↦ suc (place_of 10 bs) ] < suc (length bs) → get_or (b ∷ bs) (elim v [ true ↦ 0 | false ↦ suc (place_of 10 bs) ]) 0 ≡ 10) [
      | true ↦ λ e less. eqb-true b 10 e
      | false ↦ λ e less. feed_there bs (omega (arith, less))
    ] refl h

-- a text is split at its first line feed
split_front : (bs : List ℕ) → place_of 10 bs < length bs → IsSplit bs (take (place_of 10 bs) bs) (drop (place_of 10 bs + 1) bs)
split_front bs h = record {
  is = sym (take-append-drop (place_of 10 bs) bs) ∙ ap (λ x. take (place_of 10 bs) bs ++ x) (drop_more bs (place_of 10 bs) 0 h ∙ ap (λ b. b ∷ drop (place_of 10 bs + 1) bs) (feed_there bs h));
  none = none_before bs;
}

pub split_there : (bs after : List ℕ) (n : ℕ) → n ≡ place_of 10 bs → n < length bs → after ≡ drop (n + 1) bs → IsSplit bs (take n bs) after
split_there bs after n e h d =
    let less : place_of 10 bs < length bs = rw e at h in
    rw (d, e) (split_front bs less)

-- a text without a place for one has none
pub split_nowhere : (bs : List ℕ) → length bs ≤ place_of 10 bs → has_byte 10 bs ≡ false
split_nowhere bs h = ap (has_byte 10) (sym (take_all (place_of 10 bs) bs h)) ∙ none_before bs
