-- Lists in which the same variables stand.
use Rattle.std.proofs.Common.{◌≡◌, ℕ, List, [], ◌∷◌, ◌++◌, refl, arith, ◌⊎◌, inl, inr}
use Rattle.std.proofs.lemmas.List.Elements.{Contains-append_left, Contains-append_right, Contains-append_cases}
use Rattle.kl1_match.specs.Waiting.{AreSame}

pub same_as_itself : (vs : List ℕ) → AreSame vs vs
same_as_itself vs = record { each = λ v. ((λ c. c), (λ c. c)) }

either : {A B C : Type 0} → A ⊎ B → (A → C) → (B → C) → C
either (inl a) f g = f a
either (inr b) f g = g b

pub more_same : (vs ws more others : List ℕ) → AreSame vs ws → AreSame more others → AreSame (vs ++ more) (ws ++ others)
more_same vs ws more others s t = record {
  each = λ v. (
    (λ c. either (Contains-append_cases vs more v c) (λ k. Contains-append_left ws others v ((s.each v).0 k)) (λ k. Contains-append_right ws others v ((t.each v).0 k))),
    (λ c. either (Contains-append_cases ws others v c) (λ k. Contains-append_left vs more v ((s.each v).1 k)) (λ k. Contains-append_right vs more v ((t.each v).1 k))),
  );
}

-- a list in which just those of no list stand is empty
pub none_same : (vs : List ℕ) → AreSame [] vs → vs ≡ []
none_same [] s = refl
none_same (v ∷ vs) s = let c = (s.each v).1 (0, omega arith, refl) in absurd (omega (arith, c.1))
