-- Reasons one after another.
use Rattle.std.specs.Prelude.{◌≡◌, ℕ, zero, suc, ◌-◌, ◌<◌, List, [], ◌∷◌, ◌++◌, Option, Some, None}
use Rattle.std.proofs.Common.{refl, subst, sym, arith, append_assoc, append-nil}
use Rattle.kl1_reasons.specs.declared.reason.Reason.{Reason}
use Rattle.kl1_reasons.specs.Reasons.{IsNext, Explain}
use Rattle.kl1_reasons_items.specs.Items.{front_behind}

-- the next reason, and those for what is after its item, are those for what was left
more_reasons : (left : ℕ) (text : List ℕ) (front : Option ℕ) (r : Reason) (rs : List Reason) → 0 < left → IsNext text front (Some r) → Explain (left - 1) text (Some (front_behind text r.end)) rs → Explain left text front (r ∷ rs)
more_reasons zero text front r rs some next more = absurd (omega arith)
more_reasons (suc left) text front r rs some next more =
    let less : suc left - 1 ≡ left = omega arith in
    (next, subst (λ n. Explain n text (Some (front_behind text r.end)) rs) less more)

no_reasons : (left : ℕ) (text : List ℕ) (front : Option ℕ) → IsNext text front None → Explain left text front []
no_reasons zero text front next = refl
no_reasons (suc left) text front next = next

-- the reasons so far, for a text of which at most `most` are wanted: with those for what is left they are those for the whole
pub AreSoFar : ℕ → List ℕ → ℕ → Option ℕ → List Reason → Type 0
AreSoFar most text left front reasons = (rs : List Reason) → Explain left text front rs → Explain most text None (reasons ++ rs)

-- none are so far those of the whole
pub so_far_begins : (most : ℕ) (text : List ℕ) (reasons : List Reason) → reasons ≡ [] → AreSoFar most text most None reasons
unfolding AreSoFar
so_far_begins most text reasons is rs more = subst (λ xs. Explain most text None (xs ++ rs)) (sym is) more

-- one more
pub so_far_more : (most : ℕ) (text : List ℕ) (left : ℕ) (front : Option ℕ) (reasons : List Reason) (r : Reason) → 0 < left → IsNext text front (Some r) → AreSoFar most text left front reasons → AreSoFar most text (left - 1) (Some (front_behind text r.end)) (reasons ++ r ∷ [])
unfolding AreSoFar
so_far_more most text left front reasons r some next before rs more =
    subst (Explain most text None) (sym (append_assoc reasons (r ∷ []) rs)) (before (r ∷ rs) (more_reasons left text front r rs some next more))

-- they are all if none is next
pub so_far_none : (most : ℕ) (text : List ℕ) (left : ℕ) (front : Option ℕ) (reasons : List Reason) → IsNext text front None → AreSoFar most text left front reasons → Explain most text None reasons
unfolding AreSoFar
so_far_none most text left front reasons next before = subst (Explain most text None) (append-nil reasons) (before [] (no_reasons left text front next))

-- they are all if no more are wanted
pub so_far_full : (most : ℕ) (text : List ℕ) (front : Option ℕ) (reasons : List Reason) → AreSoFar most text 0 front reasons → Explain most text None reasons
unfolding AreSoFar
so_far_full most text front reasons before = subst (Explain most text None) (append-nil reasons) (before [] refl)
