-- Two seats at rest that were made one.
use Rattle.std.proofs.Common.{◌≡◌, ℕ, List, [], ◌∷◌, Some, sym, ap, ◌∙◌, subst, inl, inr}
use Rattle.kl1_text.specs.BuiltIns.{place_of, built_in_of}
use Rattle.kl1_atoms.specs.declared.known.Known.{Known}
use Rattle.kl1_atoms.specs.declared.face.View.{View}
use Rattle.kl1_atoms.specs.Names.{number_by}
use Rattle.kl1_atoms.specs.Knowing.{option_cases}
use Rattle.kl1_atoms.specs.Plays.{own, others_of, Agreed, EachAgrees}
use Rattle.kl1_atoms.specs.Seats.{view_in, face_in, resting, joint_view}

-- what two accounts that agree know a text by, built in or not
pub one_number_by : (ks ls : List Known) (t : List ℕ) → Agreed ks ls → (m n : ℕ) → number_by ks t ≡ Some m → number_by ls t ≡ Some n → m ≡ n
one_number_by ks ls t agreed m n e d = elim (option_cases (built_in_of t)) [
  | inl none ↦ agreed t m n (rw none at e) (rw none at d)
  | inr some ↦
      let is : Some (place_of some.0) ≡ Some m = rw some.1 at e in
      let its : Some (place_of some.0) ≡ Some n = rw some.1 at d in
      let same : Some m ≡ Some n = sym is ∙ its in cc
]

-- the only view of a seat at rest
at_rest : (views taken : List View) (v : View) → taken ≡ views → taken ≡ v ∷ [] → views ≡ resting (face_in views) → v ≡ record { faces = face_in views ∷ [] }
at_rest views taken v was one rests = ap view_in (sym one ∙ was ∙ rests)

-- the two accounts of a joint seat agree
pub joint_agreed : (views taken others_views others_taken : List View) (v w u : View) → taken ≡ views → taken ≡ v ∷ [] → views ≡ resting (face_in views) → others_taken ≡ others_views → others_taken ≡ w ∷ []
    → others_views ≡ resting (face_in others_views) → u ≡ joint_view v w → EachAgrees (own u).knows (others_of u.faces) → Agreed (face_in views).knows (face_in others_views).knows
joint_agreed views taken others_views others_taken v w u was one rests others_were others_one others_rest joint agrees =
    let ev = at_rest views taken v was one rests in
    let ew = at_rest others_views others_taken w others_were others_one others_rest in
    let eu : u ≡ record { faces = face_in views ∷ face_in others_views ∷ [] } = joint ∙ ap (λ x. joint_view x w) ev ∙ ap (joint_view record { faces = face_in views ∷ [] }) ew in
    (subst (λ (x : View). EachAgrees (own x).knows (others_of x.faces)) eu agrees).0
