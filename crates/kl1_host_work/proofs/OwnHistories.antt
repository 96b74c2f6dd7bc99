-- Which history each account has.
use Rattle.std.proofs.Common.{arith, ◌≡◌, ℕ, zero, suc, ◌<◌, List, [], ◌∷◌, ◌++◌, length, get_or, Some, ap, refl, sym, ◌∙◌}
use Rattle.std.specs.Prelude.{Option, option_to_list}
use Rattle.std.proofs.lemmas.List.{get_or_push, get_or_append_left, length_push}
use Rattle.kl1_host_journals.specs.Books.{Books}
use Rattle.kl1_host_journals.specs.FreshHistories.{books_of}
use Rattle.kl1_host_journals.specs.declared.fresh_history.FreshHistory.{FreshHistory}
use Rattle.kl1_host_work.specs.OwnHistories.{books_at, AreFresh}

-- each has the history at its place, if that is how they are picked
pub are_fresh : (hs : List FreshHistory) → AreFresh (books_at hs) hs
are_fresh [] k d few = absurd (omega (arith, few))
are_fresh (h ∷ hs) zero d few = refl
are_fresh (h ∷ hs) (suc k) d few = are_fresh hs k d (omega (arith, few))

module _ (books : ℕ → Books) (all hs : List FreshHistory) (taken : Option FreshHistory) (h : FreshHistory) (is : all ≡ hs ++ option_to_list taken) (some : taken ≡ Some h) (fresh : AreFresh books all) where
  parts : all ≡ hs ++ h ∷ []
  parts = is ∙ ap (λ (t : Option FreshHistory). hs ++ option_to_list t) some

  -- the last is that of the account whose number is how many are left
  pub last_is_own : (n : ℕ) → n ≡ length hs → books_of h ≡ books n
  last_is_own n long =
      let few : length hs < length all = omega (arith, ap length parts, length_push hs h) in
      sym (ap books_of (ap (λ (x : List FreshHistory). get_or x (length hs) h) parts ∙ get_or_push hs h h (length hs) refl)) ∙ fresh (length hs) h few ∙ ap books (sym long)

  -- those that are left are the first accounts'
  pub others_are_own : AreFresh books hs
  others_are_own k d few =
      let in_all : k < length all = omega (arith, ap length parts, length_push hs h, few) in
      sym (ap books_of (ap (λ (x : List FreshHistory). get_or x k d) parts ∙ get_or_append_left hs (h ∷ []) d k few)) ∙ fresh k d in_all
