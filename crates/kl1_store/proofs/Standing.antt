-- Equations that stand for others, whatever is replaced.
use Rattle.std.proofs.Common.{◌≡◌, ℕ, suc, ◌==◌, ◌&&◌, ◌||◌, ◌⊎◌, inl, inr, List, [], ◌∷◌, ◌++◌, refl, sym, ap, ◌∙◌, subst, append_assoc}
use Rattle.std.specs.Prelude.{◌↔◌, bytes_eq}
use Rattle.std.proofs.lemmas.List.{map-append}
use Rattle.kl1_model.specs.Term.{Term, Terms, none, more, count_of, Replacement}
use Rattle.kl1_model.specs.Unify.{Equation, argument_equations}
use Rattle.kl1_model.specs.code.Comparing.{clash, awaited}
use Rattle.kl1_model.specs.code.Unifying.{replaced}
use Rattle.kl1_model.proofs.Clashes.{no_clash}
use Rattle.kl1_store.specs.Compares.{clash_among, awaited_among}
use Rattle.kl1_store.specs.Done.{IsOf}
use Rattle.kl1_store.specs.Resting.{replaced_among, StandFor}
use Rattle.kl1_store.proofs.Replacing.{replaced_each, replaced-append, replaced-structure, replaced_each-none, replaced_each-more}
use Rattle.kl1_store.proofs.Comparing.{or-group, awaited_self, Structures, clash-structures, awaited-structures, clash_among-arguments, awaited_among-arguments, of_split, of_first, of_second}

-- an equation in front of others
abbrev side_by_side : Term → Term → List Equation → List Equation
side_by_side t u es = record { left = t; right = u } ∷ es

pub replaced_by_none : (es : List Equation) → replaced_among [] es ≡ es
replaced_by_none [] = refl
replaced_by_none (e ∷ es) = ap (λ (l : List Equation). e ∷ l) (replaced_by_none es)

pub replaced_twice : (rs qs : List Replacement) (es : List Equation) → replaced_among qs (replaced_among rs es) ≡ replaced_among (rs ++ qs) es
replaced_twice rs qs [] = refl
replaced_twice rs qs (e ∷ es) =
    ap (λ t. side_by_side t (replaced qs (replaced rs e.right)) (replaced_among qs (replaced_among rs es))) (sym (replaced-append rs qs e.left))
    ∙ ap (λ u. side_by_side (replaced (rs ++ qs) e.left) u (replaced_among qs (replaced_among rs es))) (sym (replaced-append rs qs e.right))
    ∙ ap (side_by_side (replaced (rs ++ qs) e.left) (replaced (rs ++ qs) e.right)) (replaced_twice rs qs es)

pub clash_beside : (es fs : List Equation) → clash_among (es ++ fs) ≡ (clash_among es || clash_among fs)
clash_beside [] fs = refl
clash_beside (e ∷ es) fs = ap (λ b. clash e.left e.right || b) (clash_beside es fs) ∙ sym (or-group (clash e.left e.right) (clash_among es) (clash_among fs))

pub awaited_beside : (es fs : List Equation) → awaited_among (es ++ fs) ≡ awaited_among es ++ awaited_among fs
awaited_beside [] fs = refl
awaited_beside (e ∷ es) fs = ap (λ l. awaited e.left e.right ++ l) (awaited_beside es fs) ∙ sym (append_assoc (awaited e.left e.right) (awaited_among es) (awaited_among fs))

clash_parts : (rs : List Replacement) (es fs : List Equation) → clash_among (replaced_among rs (es ++ fs)) ≡ (clash_among (replaced_among rs es) || clash_among (replaced_among rs fs))
clash_parts rs es fs = ap clash_among (map-append _ es fs) ∙ clash_beside (replaced_among rs es) (replaced_among rs fs)

awaited_parts : (rs : List Replacement) (es fs : List Equation) → awaited_among (replaced_among rs (es ++ fs)) ≡ awaited_among (replaced_among rs es) ++ awaited_among (replaced_among rs fs)
awaited_parts rs es fs = ap awaited_among (map-append _ es fs) ∙ awaited_beside (replaced_among rs es) (replaced_among rs fs)

pub stand_same : (es : List Equation) → StandFor es es
stand_same es = record { clash = λ rs. refl; awaited = λ rs v. (λ a. a, λ a. a) }

pub stand_equal : (es fs : List Equation) → es ≡ fs → StandFor es fs
stand_equal es fs e = let P : List Equation → Type 0 = λ l. StandFor es l in subst P e (stand_same es)

pub stand_trans : (es fs gs : List Equation) → StandFor es fs → StandFor fs gs → StandFor es gs
stand_trans es fs gs p q = record {
  clash = λ rs. p.clash rs ∙ q.clash rs;
  awaited = λ rs v. (λ a. (q.awaited rs v).0 ((p.awaited rs v).0 a), λ a. (p.awaited rs v).1 ((q.awaited rs v).1 a));
}

-- replacements keep it
pub stand_replaced : (es fs : List Equation) (qs : List Replacement) → StandFor es fs → StandFor (replaced_among qs es) (replaced_among qs fs)
stand_replaced es fs qs s = record {
  clash = λ rs. ap clash_among (replaced_twice qs rs es) ∙ s.clash (qs ++ rs) ∙ ap clash_among (sym (replaced_twice qs rs fs));
  awaited = λ rs v.
      let O : List Equation → Type 0 = λ l. IsOf v (awaited_among l) in
      (λ a. subst O (sym (replaced_twice qs rs fs)) ((s.awaited (qs ++ rs) v).0 (subst O (replaced_twice qs rs es) a)), λ a. subst O (sym (replaced_twice qs rs es)) ((s.awaited (qs ++ rs) v).1 (subst O (replaced_twice qs rs fs) a)));
}

of_parts : (v : ℕ) (xs ys zs ws : List ℕ) → (IsOf v xs → IsOf v zs) → (IsOf v ys → IsOf v ws) → IsOf v (xs ++ ys) → IsOf v (zs ++ ws)
of_parts v xs ys zs ws p q a = by_part (of_split v xs ys a)
  where
    by_part : IsOf v xs ⊎ IsOf v ys → IsOf v (zs ++ ws)
    by_part (inl b) = of_first v zs ws (p b)
    by_part (inr b) = of_second v zs ws (q b)

-- side by side
pub stand_beside : (es fs gs hs : List Equation) → StandFor es gs → StandFor fs hs → StandFor (es ++ fs) (gs ++ hs)
stand_beside es fs gs hs p q = record {
  clash = λ rs.
      clash_parts rs es fs ∙ ap (λ b. b || clash_among (replaced_among rs fs)) (p.clash rs) ∙ ap (λ b. clash_among (replaced_among rs gs) || b) (q.clash rs)
      ∙ sym (clash_parts rs gs hs);
  awaited = λ rs v.
      let O : List ℕ → Type 0 = λ l. IsOf v l in
      let A : List Equation → List ℕ = λ l. awaited_among (replaced_among rs l) in (
        λ a. subst O (sym (awaited_parts rs gs hs)) (of_parts v (A es) (A fs) (A gs) (A hs) (p.awaited rs v).0 (q.awaited rs v).0 (subst O (awaited_parts rs es fs) a)),
        λ a. subst O (sym (awaited_parts rs es fs)) (of_parts v (A gs) (A hs) (A es) (A fs) (p.awaited rs v).1 (q.awaited rs v).1 (subst O (awaited_parts rs gs hs) a)),
      );
}

-- equal sides are dropped
pub stand_dropped : (e : Equation) (es : List Equation) → e.left ≡ e.right → StandFor (e ∷ es) es
stand_dropped e es same = record {
  clash = λ rs. ap (λ b. b || clash_among (replaced_among rs es)) (ap (λ t. clash (replaced rs t) (replaced rs e.right)) same ∙ no_clash (replaced rs e.right));
  awaited = λ rs v.
      let O : List ℕ → Type 0 = λ l. IsOf v l in
      let empty : awaited_among (replaced_among rs (e ∷ es)) ≡ awaited_among (replaced_among rs es) =
      ap (λ l. l ++ awaited_among (replaced_among rs es)) (ap (λ t. awaited (replaced rs t) (replaced rs e.right)) same ∙ awaited_self (replaced rs e.right)) in
      (λ a. subst O empty a, λ a. subst O (sym empty) a);
}

count_replaced : (rs : List Replacement) (ts : Terms) → count_of (replaced_each rs ts) ≡ count_of ts
count_replaced rs none = ap count_of (replaced_each-none rs)
count_replaced rs (more t ts) = ap count_of (replaced_each-more rs t ts) ∙ ap suc (count_replaced rs ts)

replaced_arguments : (rs : List Replacement) (ts us : Terms) (es : List Equation) → replaced_among rs (argument_equations ts us es) ≡ argument_equations (replaced_each rs ts) (replaced_each rs us) (replaced_among rs es)
replaced_arguments rs none us es = ap (λ k. argument_equations k (replaced_each rs us) (replaced_among rs es)) (sym (replaced_each-none rs))
replaced_arguments rs (more t ts) none es =
    ap (λ k. argument_equations k none (replaced_among rs es)) (sym (replaced_each-more rs t ts))
    ∙ ap (λ k. argument_equations (replaced_each rs (more t ts)) k (replaced_among rs es)) (sym (replaced_each-none rs))
replaced_arguments rs (more t ts) (more u us) es =
    ap (side_by_side (replaced rs t) (replaced rs u)) (replaced_arguments rs ts us es)
    ∙ ap (λ k. argument_equations k (more (replaced rs u) (replaced_each rs us)) (replaced_among rs es)) (sym (replaced_each-more rs t ts))
    ∙ ap (λ k. argument_equations (replaced_each rs (more t ts)) k (replaced_among rs es)) (sym (replaced_each-more rs u us))

structures_replaced : (rs : List Replacement) (t u : Term) (ts us : Terms) → Structures t u ts us → Structures (replaced rs t) (replaced rs u) (replaced_each rs ts) (replaced_each rs us)
structures_replaced rs t u ts us s = record {
  left_name = s.left_name;
  right_name = s.right_name;
  left = ap (replaced rs) s.left ∙ replaced-structure rs s.left_name ts;
  right = ap (replaced rs) s.right ∙ replaced-structure rs s.right_name us;
  one =
      ap (λ n. bytes_eq s.left_name s.right_name && n == count_of (replaced_each rs us)) (count_replaced rs ts)
      ∙ ap (λ n. bytes_eq s.left_name s.right_name && count_of ts == n) (count_replaced rs us) ∙ s.one;
}

-- structures of one name and one number of arguments make way for their arguments
pub stand_opened : (t u : Term) (ts us : Terms) (es : List Equation) → Structures t u ts us → StandFor (record { left = t; right = u } ∷ es) (argument_equations ts us es)
stand_opened t u ts us es s = record {
  clash = λ rs.
      ap (λ b. b || clash_among (replaced_among rs es)) (clash-structures (replaced rs t) (replaced rs u) (replaced_each rs ts) (replaced_each rs us) (structures_replaced rs t u ts us s))
      ∙ sym (ap clash_among (replaced_arguments rs ts us es) ∙ clash_among-arguments (replaced_each rs ts) (replaced_each rs us) (replaced_among rs es));
  awaited = λ rs v.
      let O : List ℕ → Type 0 = λ l. IsOf v l in
      let same : awaited_among (replaced_among rs (record { left = t; right = u } ∷ es)) ≡ awaited_among (replaced_among rs (argument_equations ts us es)) =
      ap (λ l. l ++ awaited_among (replaced_among rs es)) (awaited-structures (replaced rs t) (replaced rs u) (replaced_each rs ts) (replaced_each rs us) (structures_replaced rs t u ts us s))
      ∙ sym (ap awaited_among (replaced_arguments rs ts us es) ∙ awaited_among-arguments (replaced_each rs ts) (replaced_each rs us) (replaced_among rs es)) in
      (λ a. subst O same a, λ a. subst O (sym same) a);
}

-- as they are, nothing replaced
pub stand_clash : (es fs : List Equation) → StandFor es fs → clash_among es ≡ clash_among fs
stand_clash es fs s = sym (ap clash_among (replaced_by_none es)) ∙ s.clash [] ∙ ap clash_among (replaced_by_none fs)

pub stand_awaited : (es fs : List Equation) (v : ℕ) → StandFor es fs → IsOf v (awaited_among es) ↔ IsOf v (awaited_among fs)
stand_awaited es fs v s =
    let O : List Equation → Type 0 = λ l. IsOf v (awaited_among l) in
    (λ a. subst O (replaced_by_none fs) ((s.awaited [] v).0 (subst O (sym (replaced_by_none es)) a)), λ a. subst O (replaced_by_none es) ((s.awaited [] v).1 (subst O (sym (replaced_by_none fs)) a)))
