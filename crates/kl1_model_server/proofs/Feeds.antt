-- Line feeds in texts, and what stands before and after them.
use Rattle.std.proofs.Common.{◌≡◌, ℕ, zero, suc, ◌+◌, ◌<◌, ◌≤◌, ◌⊎◌, inl, inr, eqb, Bool, true, false, ◌||◌, List, [], ◌∷◌, ◌++◌, length, take, if◌then◌else◌, refl, ap, ◌∙◌, arith}
use Rattle.std.specs.List.{list_any}
use Rattle.std.proofs.lemmas.List.{append-nil}
use Rattle.std.proofs.lemmas.Bool.{true≢false, eqb-true}
use Rattle.kl1_model.specs.Line.{before_feed, behind_feed, without_return}
use Rattle.kl1_model_server.specs.Cut.{has_feed}

-- what is after a line feed is no longer than the text
pub behind_shorter : (bs : List ℕ) → length (behind_feed bs) ≤ length bs
behind_shorter [] = omega arith
behind_shorter (b ∷ bs) =
    elim (eqb b 10) as (λ v. let rest : List ℕ = elim v [ true ↦ bs | false ↦ behind_feed bs ] in length rest ≤ suc (length bs)) [ true ↦ omega arith | false ↦ omega (arith, behind_shorter bs) ]

-- and shorter if the text has a byte
pub behind_less : (bs : List ℕ) → 0 < length bs → length (behind_feed bs) < length bs
behind_less [] h = absurd (omega arith)
behind_less (b ∷ bs) h =
    elim (eqb b 10) as (λ v. let rest : List ℕ = elim v [ true ↦ bs | false ↦ behind_feed bs ] in length rest < suc (length bs)) [ true ↦ omega arith | false ↦ omega (arith, behind_shorter bs) ]

-- without a line feed, what follows decides
pub before_append : (p q : List ℕ) → has_feed p ≡ false → before_feed (p ++ q) ≡ p ++ before_feed q
before_append [] q h = refl
before_append (b ∷ bs) q h =
    elim (eqb b 10) as (λ v. ((v || has_feed bs) ≡ false) → (let rest : List ℕ = elim v [ true ↦ [] | false ↦ b ∷ before_feed (bs ++ q) ] in rest ≡ b ∷ (bs ++ before_feed q))) [
      | true ↦ λ e. absurd (true≢false e)
      | false ↦ λ e. ap (λ x. b ∷ x) (before_append bs q e)
    ] h

pub behind_append : (p q : List ℕ) → has_feed p ≡ false → behind_feed (p ++ q) ≡ behind_feed q
behind_append [] q h = refl
behind_append (b ∷ bs) q h =
    elim (eqb b 10) as (λ v. ((v || has_feed bs) ≡ false) → (let rest : List ℕ = elim v [ true ↦ bs ++ q | false ↦ behind_feed (bs ++ q) ] in rest ≡ behind_feed q)) [
      | true ↦ λ e. absurd (true≢false e)
      | false ↦ λ e. behind_append bs q e
    ] h

pub feed_append : (p q : List ℕ) → has_feed p ≡ false → has_feed (p ++ q) ≡ has_feed q
feed_append [] q h = refl
feed_append (b ∷ bs) q h =
    elim (eqb b 10) as (λ v. ((v || has_feed bs) ≡ false) → ((v || has_feed (bs ++ q)) ≡ has_feed q)) [
      | true ↦ λ e. absurd (true≢false e)
      | false ↦ λ e. feed_append bs q e
    ] h

-- the front of a text without a line feed has none
pub feed_front : (n : ℕ) (p : List ℕ) → has_feed p ≡ false → has_feed (take n p) ≡ false
feed_front zero p h = refl
feed_front (suc n) [] h = refl
feed_front (suc n) (b ∷ bs) h =
    elim (eqb b 10) as (λ v. ((v || has_feed bs) ≡ false) → ((v || has_feed (take n bs)) ≡ false)) [
      | true ↦ λ e. absurd (true≢false e)
      | false ↦ λ e. feed_front n bs e
    ] h

-- a text at its first line feed
pub record Fed (text : List ℕ) : Type 0 where
  pub line : List ℕ
  pub behind : List ℕ
  pub is : text ≡ line ++ 10 ∷ behind
  pub none : has_feed line ≡ false

fed_at : (b : ℕ) (bs : List ℕ) → b ≡ 10 → Fed (b ∷ bs)
fed_at b bs e = record { line = []; behind = bs; is = ap (λ x. x ∷ bs) e; none = refl }

fed_more : (b : ℕ) (bs : List ℕ) → eqb b 10 ≡ false → Fed bs → Fed (b ∷ bs)
fed_more b bs e f = record { line = b ∷ f.line; behind = f.behind; is = ap (λ x. b ∷ x) f.is; none = rw (e, list_any) f.none }

fed_by : (v : Bool) (b : ℕ) (bs : List ℕ) → eqb b 10 ≡ v → (has_feed bs ≡ false) ⊎ Fed bs → (has_feed (b ∷ bs) ≡ false) ⊎ Fed (b ∷ bs)
fed_by true b bs e next = inr (fed_at b bs (eqb-true b 10 e))
fed_by false b bs e (inl none) = inl (rw (e, list_any) none)
fed_by false b bs e (inr f) = inr (fed_more b bs e f)

-- a text has a first line feed, or none
pub fed_or : (text : List ℕ) → (has_feed text ≡ false) ⊎ Fed text
fed_or [] = inl refl
fed_or (b ∷ bs) = fed_by (eqb b 10) b bs refl (fed_or bs)

-- what stands before and after the line feed of such a text
pub before_at : (a b : List ℕ) → has_feed a ≡ false → before_feed (a ++ 10 ∷ b) ≡ a
before_at a b h = before_append a (10 ∷ b) h ∙ append-nil a

pub behind_at : (a b : List ℕ) → has_feed a ≡ false → behind_feed (a ++ 10 ∷ b) ≡ b
behind_at a b h = behind_append a (10 ∷ b) h

pub feed_at : (a b : List ℕ) → has_feed a ≡ false → has_feed (a ++ 10 ∷ b) ≡ true
feed_at a b h = feed_append a (10 ∷ b) h

-- a line loses at most one byte at its end
pub return_length : (bs : List ℕ) → length bs ≤ length (without_return bs) + 1
return_length [] = omega arith
return_length (b ∷ []) = elim (eqb b 13) as (λ v. length (b ∷ []) ≤ length (if v then [] else b ∷ []) + 1) [ true ↦ omega arith | false ↦ omega arith ]
return_length (b ∷ c ∷ bs) = omega (arith, return_length (c ∷ bs))

pub return_front : (n : ℕ) (bs : List ℕ) → n < length bs → take n (without_return bs) ≡ take n bs
return_front zero bs h = refl
return_front (suc n) [] h = absurd (omega arith)
return_front (suc n) (b ∷ []) h = absurd (omega arith)
return_front (suc n) (b ∷ c ∷ bs) h = ap (λ x. b ∷ x) (return_front n (c ∷ bs) (omega arith))
