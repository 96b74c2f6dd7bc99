-- Who gives way in a lobby, place by place.
use Rattle.std.proofs.Common.{◌≡◌, ℕ, ◌+◌, ◌<◌, ◌≤◌, Bool, true, false, List, length, get_or, Some, None, refl, sym, ap, subst, ◌∙◌, arith, below_more, ltb-true, ltb-false}
use Rattle.std.specs.Prelude.{Option, cond, nat_lt, slice_get, slice_set, MatchOption}
use Rattle.std.specs.declared.net.socket_addr.SocketAddr.{SocketAddr}
use Rattle.std.proofs.lemmas.Option.{slice_get-get_or}
use Rattle.kl1_host_work.specs.declared.place.Visitor.{Visitor}
use Rattle.kl1_host_work.specs.declared.place.Place.{Place}
use Rattle.kl1_host_work.specs.Places.{rank_of, address_of, told}
use Rattle.kl1_host_work.specs.Visitors.{better, first_of, IsFirstToGo, NobodyGoes, OneGoes}

-- what is nothing is none
not_both : {X A : Type 0} (o : Option X) (x : X) → o ≡ None → o ≡ Some x → A
not_both o x none some = absurd (let e : ⊥ = cc in e)

one_is : {X : Type 0} (o : Option X) (x y : X) → o ≡ Some x → o ≡ Some y → x ≡ y
one_is o x y a b = cc

module _ {S : Type 0} where
  -- a place doesn't depend on what is taken if there is none
  same_at : (places : List (Place S)) (n : ℕ) (d p : Place S) → n < length places → get_or places n d ≡ get_or places n p
  same_at places n d p few = one_is (slice_get places n) (get_or places n d) (get_or places n p) (slice_get-get_or places n d few) (slice_get-get_or places n p few)

  rank_at : (before : ℕ) (places : List (Place S)) (n : ℕ) (d p : Place S) → n < length places → p ≡ get_or places n p → rank_of before (get_or places n d).visitor ≡ rank_of before p.visitor
  rank_at before places n d p few is = ap (λ (q : Place S). rank_of before q.visitor) (same_at places n d p few ∙ sym is)

  -- one more place, whose visitor doesn't give way
  skipped : (before : ℕ) (places : List (Place S)) (n : ℕ) (p : Place S) (found : Option (ℕ × ℕ)) → n < length places → p ≡ get_or places n p → rank_of before p.visitor ≡ None → IsFirstToGo before places n found → IsFirstToGo before places (n + 1) found
  skipped before places n p None few is none so =
      below_more (λ k. (d : Place S) → rank_of before (get_or places k d).visitor ≡ None) n so (λ d. rank_at before places n d p few is ∙ none)
  skipped before places n p (Some f) few is none so = (
    omega (arith, so.0),
    so.1,
    below_more (λ k. (d : Place S) (rank : ℕ) → rank_of before (get_or places k d).visitor ≡ Some rank → f.1 ≤ rank) n so.2 (λ d rank at. not_both (rank_of before p.visitor) rank none (sym (rank_at before places n d p few is) ∙ at)),
  )

  -- one more, whose visitor does
  first : (before : ℕ) (places : List (Place S)) (n : ℕ) (p : Place S) (rank : ℕ) → n < length places → p ≡ get_or places n p → rank_of before p.visitor ≡ Some rank → ((k : ℕ) → k < n → (d : Place S) (r : ℕ) → rank_of before (get_or places k d).visitor ≡ Some r → rank ≤ r) → IsFirstToGo before places (n + 1) (Some (n, rank))
  first before places n p rank few is some least = (
    omega arith,
    λ d. rank_at before places n d p few is ∙ some,
    below_more (λ k. (d : Place S) (r : ℕ) → rank_of before (get_or places k d).visitor ≡ Some r → rank ≤ r) n least (λ d r at.
        let e : rank ≡ r = one_is (rank_of before p.visitor) rank r some (sym (rank_at before places n d p few is) ∙ at) in
        omega (arith, e)),
  )

  better_by : (before : ℕ) (places : List (Place S)) (n : ℕ) (p : Place S) (rank : ℕ) (f : ℕ × ℕ) (b : Bool) → n < length places → p ≡ get_or places n p → rank_of before p.visitor ≡ Some rank → nat_lt rank f.1 ≡ b → IsFirstToGo before places n (Some f) → IsFirstToGo before places (n + 1) (cond b (Some (n, rank)) (Some f))
  better_by before places n p rank f true few is some less so =
      let less : rank < f.1 = ltb-true rank f.1 less in
      first before places n p rank few is some (λ k within d r at. let later : f.1 ≤ r = so.2 k within d r at in omega (arith, less, later))
  better_by before places n p rank f false few is some less so =
      let more : f.1 ≤ rank = ltb-false rank f.1 less in (
        omega (arith, so.0),
        so.1,
        below_more (λ k. (d : Place S) (r : ℕ) → rank_of before (get_or places k d).visitor ≡ Some r → f.1 ≤ r) n so.2 (λ d r at.
            let e : rank ≡ r = one_is (rank_of before p.visitor) rank r some (sym (rank_at before places n d p few is) ∙ at) in
            omega (arith, e, more)),
      )

  ranked : (before : ℕ) (places : List (Place S)) (n : ℕ) (p : Place S) (rank : ℕ) (found : Option (ℕ × ℕ)) → n < length places → p ≡ get_or places n p → rank_of before p.visitor ≡ Some rank → IsFirstToGo before places n found → IsFirstToGo before places (n + 1) (better found n rank)
  ranked before places n p rank None few is some so = first before places n p rank few is some (λ k within d r at. not_both (rank_of before (get_or places k d).visitor) r (so k within d) at)
  ranked before places n p rank (Some f) few is some so = better_by before places n p rank f (nat_lt rank f.1) few is some refl so

  one_by : (before : ℕ) (places : List (Place S)) (n : ℕ) (p : Place S) (rank : Option ℕ) (found : Option (ℕ × ℕ)) → n < length places → p ≡ get_or places n p → rank_of before p.visitor ≡ rank → IsFirstToGo before places n found → IsFirstToGo before places (n + 1) (first_of found n rank)
  one_by before places n p None found few is at so = skipped before places n p found few is at so
  one_by before places n p (Some rank) found few is at so = ranked before places n p rank found few is at so

  -- one more place
  pub one_more : (before : ℕ) (places : List (Place S)) (n : ℕ) (p : Place S) (rank : Option ℕ) (found after : Option (ℕ × ℕ)) → n < length places → p ≡ get_or places n p → rank ≡ rank_of before p.visitor → after ≡ first_of found n rank → IsFirstToGo before places n found → IsFirstToGo before places (n + 1) after
  one_more before places n p rank found after few is at then so =
      subst (IsFirstToGo before places (n + 1)) (sym then) (one_by before places n p rank found few is (sym at) so)

  goes_by : (before : ℕ) (places : List (Place S)) (f : ℕ × ℕ) (p : Place S) (v : Option Visitor) → p ≡ get_or places f.0 p → IsFirstToGo before places (length places) (Some f) → p.visitor ≡ v → MatchOption (address_of v) (NobodyGoes before places (slice_set places f.0 (told p))) (λ _. OneGoes before places (slice_set places f.0 (told p)))
  goes_by before places f p None is so who = not_both (rank_of before p.visitor) f.1 (ap (rank_of before) who) (ap (λ (q : Place S). rank_of before q.visitor) is ∙ so.1 p)
  goes_by before places f p (Some v) is so who = (
    f,
    so,
    λ d. ap (λ (q : Place S). slice_set places f.0 (told q)) (is ∙ same_at places f.0 p d so.0),
  )

  -- the first that gives way is told to end
  pub one_goes : (before : ℕ) (places read : List (Place S)) (f : ℕ × ℕ) (found : Option (ℕ × ℕ)) (p after : Place S) (address : Option SocketAddr) → read ≡ places → found ≡ Some f → IsFirstToGo before read (length read) found → p ≡ get_or places f.0 p → address ≡ address_of p.visitor → after ≡ told p → MatchOption address (NobodyGoes before places (slice_set places f.0 after)) (λ _. OneGoes before places (slice_set places f.0 after))
  one_goes before places read f found p after address same one so is from ended =
      let P : Option SocketAddr → Type 0 = λ a. MatchOption a (NobodyGoes before places (slice_set places f.0 after)) (λ _. OneGoes before places (slice_set places f.0 after)) in
      let Q : Place S → Type 0 = λ q. MatchOption (address_of p.visitor) (NobodyGoes before places (slice_set places f.0 q)) (λ _. OneGoes before places (slice_set places f.0 q)) in
      let R : List (Place S) → Type 0 = λ ps. IsFirstToGo before ps (length ps) (Some f) in
      let first : IsFirstToGo before read (length read) (Some f) = subst (IsFirstToGo before read (length read)) one so in
      subst P (sym from) (subst Q (sym ended) (goes_by before places f p p.visitor is (subst R same first) refl))
