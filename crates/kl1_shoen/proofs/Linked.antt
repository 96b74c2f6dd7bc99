-- A tree's lists of children, since its event began.
use Rattle.std.proofs.Common.{◌≡◌, ℕ, List, [], ◌∷◌, ◌++◌, length, take, refl, sym, ap, ◌∙◌, arith, subst}
use Rattle.std.proofs.lemmas.List.{take_all, take-append-le, length-take, length-map}
use Rattle.kl1_shoen_paths.specs.declared.shoen.Shoen.{Shoen}
use Rattle.kl1_shoen_paths.specs.Below.{Links, AreLinked}
use Rattle.kl1_shoen.specs.Shoens.{parents_in, AreLinkedSince}
use Rattle.kl1_shoen.proofs.Charges.{parents_after}

linked_as : (ps qs first next xs ys : List ℕ) → AreLinked ps first next → qs ≡ ps → xs ≡ first → ys ≡ next → AreLinked qs xs ys
linked_as ps qs first next xs ys a p f n =
    subst (λ (l : List ℕ). AreLinked l xs ys) (sym p) (subst (λ (l : List ℕ). AreLinked ps l ys) (sym f) (subst (λ (l : List ℕ). AreLinked ps first l) (sym n) a))

-- no shoens
pub linked_start : {N : Type 0} (ss kept : List (Shoen N)) (l : Links) → ss ≡ [] → kept ≡ [] → AreLinked [] l.first l.next → AreLinked [] l.kept_first l.kept_next → AreLinkedSince ss kept l
linked_start ss kept l e f a b = record {
  now = linked_as [] (parents_in ss) l.first l.next l.first l.next a (ap (λ (hs : List (Shoen _)). parents_in hs) e) refl refl;
  kept = linked_as [] (parents_in kept) l.kept_first l.kept_next l.kept_first l.kept_next b (ap (λ (hs : List (Shoen _)). parents_in hs) f) refl refl;
  grown = ap (λ (hs : List (Shoen _)). parents_in hs) f ∙ sym (ap (λ (hs : List (Shoen _)). take (length kept) (parents_in hs)) e ∙ take_all (length kept) [] (omega arith));
}

-- an event begins
pub linked_begin : {N : Type 0} (ss kept ts : List (Shoen N)) (l m : Links) → AreLinkedSince ss kept l → ts ≡ ss → m.first ≡ l.first → m.next ≡ l.next → m.kept_first ≡ l.first → m.kept_next ≡ l.next → AreLinkedSince ts ts m
linked_begin {N = N} ss kept ts l m a e f n k o =
    let same : parents_in ts ≡ parents_in ss = ap (λ (hs : List (Shoen N)). parents_in hs) e in
    record {
      now = linked_as (parents_in ss) (parents_in ts) l.first l.next m.first m.next a.now same f n;
      kept = linked_as (parents_in ss) (parents_in ts) l.first l.next m.kept_first m.kept_next a.now same k o;
      grown = sym (take_all (length ts) (parents_in ts) (let len = length-map ts (λ (h : Shoen N). h.parent) in omega (arith, len)));
    }

-- it is taken back
pub linked_back : {N : Type 0} (ss kept ts ks : List (Shoen N)) (l m : Links) → AreLinkedSince ss kept l → ts ≡ kept → ks ≡ kept → m.first ≡ l.kept_first → m.next ≡ l.kept_next → m.kept_first ≡ l.kept_first → m.kept_next ≡ l.kept_next →
    AreLinkedSince ts ks m
linked_back {N = N} ss kept ts ks l m a e g f n k o =
    let same : parents_in ts ≡ parents_in kept = ap (λ (hs : List (Shoen N)). parents_in hs) e in
    let stay : parents_in ks ≡ parents_in kept = ap (λ (hs : List (Shoen N)). parents_in hs) g in
    record {
      now = linked_as (parents_in kept) (parents_in ts) l.kept_first l.kept_next m.first m.next a.kept same f n;
      kept = linked_as (parents_in kept) (parents_in ks) l.kept_first l.kept_next m.kept_first m.kept_next a.kept stay k o;
      grown = stay ∙ sym same ∙ sym (take_all (length ks) (parents_in ts) (let len = length-map ts (λ (h : Shoen N). h.parent) in let c = ap (λ (hs : List (Shoen N)). length hs) e in let d = ap (λ (hs : List (Shoen N)). length hs) g in omega (arith, len, c, d)));
    }

-- shoens are changed, and no parent
pub linked_changed : {N : Type 0} (ss kept ts ks : List (Shoen N)) (l : Links) → AreLinkedSince ss kept l → parents_in ts ≡ parents_in ss → ks ≡ kept → AreLinkedSince ts ks l
linked_changed {N = N} ss kept ts ks l a e g =
    let stay : parents_in ks ≡ parents_in kept = ap (λ (hs : List (Shoen N)). parents_in hs) g in
    record {
      now = linked_as (parents_in ss) (parents_in ts) l.first l.next l.first l.next a.now e refl refl;
      kept = linked_as (parents_in kept) (parents_in ks) l.kept_first l.kept_next l.kept_first l.kept_next a.kept stay refl refl;
      grown = stay ∙ a.grown ∙ ap (λ (ps : List ℕ). take (length kept) ps) (sym e) ∙ ap (λ (hs : List (Shoen N)). take (length hs) (parents_in ts)) (sym g);
    }

-- a shoen is opened
pub linked_open : {N : Type 0} (ss kept ts ks : List (Shoen N)) (s : Shoen N) (l m : Links) → AreLinkedSince ss kept l → ts ≡ ss ++ s ∷ [] → ks ≡ kept → ((ps : List ℕ) → AreLinked ps l.first l.next → AreLinked (ps ++ s.parent ∷ []) m.first m.next) →
    m.kept_first ≡ l.kept_first → m.kept_next ≡ l.kept_next → AreLinkedSince ts ks m
linked_open {N = N} ss kept ts ks s l m a e g push k o =
    let more : parents_in ts ≡ parents_in ss ++ s.parent ∷ [] = ap (λ (hs : List (Shoen N)). parents_in hs) e ∙ parents_after ss s in
    let stay : parents_in ks ≡ parents_in kept = ap (λ (hs : List (Shoen N)). parents_in hs) g in
    let len = length-map kept (λ (h : Shoen N). h.parent) in
    let taken = length-take (length kept) (parents_in ss) in
    let grown = ap (λ (ps : List ℕ). length ps) a.grown in
    record {
      now = linked_as (parents_in ss ++ s.parent ∷ []) (parents_in ts) m.first m.next m.first m.next (push (parents_in ss) a.now) more refl refl;
      kept = linked_as (parents_in kept) (parents_in ks) l.kept_first l.kept_next m.kept_first m.kept_next a.kept stay k o;
      grown = stay ∙ a.grown ∙ sym (ap (λ (hs : List (Shoen N)). take (length hs) (parents_in ts)) g ∙ ap (λ (ps : List ℕ). take (length kept) ps) more ∙ take-append-le (length kept) (parents_in ss) (s.parent ∷ []) (omega (arith, len, taken, grown)));
    }
