-- Pairs of structures on the way, each inside the one before it.
use Rattle.std.proofs.Common.{◌≡◌, ℕ, zero, suc, List, [], ◌∷◌, ◌++◌, refl, sym, ap, ◌∙◌, arith, subst}
use Rattle.std.specs.Prelude.{Some}
use Rattle.kl1_model.specs.Term.{Term, Terms, none, more, count_of}
use Rattle.kl1_model.specs.laws.Clashes.{argument_at}
use Rattle.kl1_store.specs.declared.frame.Frame.{Frame}
use Rattle.kl1_store.specs.Onward.{onward}
use Rattle.kl1_store.specs.Nested.{Alike, LooksAt, Under, Expects, Equal}

alike_more : (R : Term → Term → Type 0) (n : ℕ) (ts us : Terms) (t u : Term) → Alike R n ts us → argument_at ts n ≡ Some t → argument_at us n ≡ Some u → R t u → Alike R (suc n) ts us
alike_more R n none us t u a p q r = absurd (cc)
alike_more R zero (more x ts) none t u a p q r = absurd (cc)
alike_more R (suc n) (more x ts) none t u a p q r = absurd (cc)
alike_more R zero (more x ts) (more y us) t u a p q r =
    let e : x ≡ t = cc in
    let k : y ≡ u = cc in
    let P : Term → Type 0 = λ z. R z y in
    let Q : Term → Type 0 = λ z. R t z in
    (subst P (sym e) (subst Q (sym k) r), tt)
alike_more R (suc n) (more x ts) (more y us) t u a p q r = (a.0, alike_more R n ts us t u a.1 p q r)

alike_next : (R : Term → Term → Type 0) (ts us : Terms) (n : ℕ) (t u : Term) → LooksAt R ts us n t u → R t u → Alike R n ts us
alike_next R ts us n t u l r = let P : ℕ → Type 0 = λ k. Alike R k ts us in subst P (sym l.is_next) (alike_more R l.before ts us t u l.alike l.left l.right r)

moved : (R : Term → Term → Type 0) (t u x y : Term) → t ≡ x → u ≡ y → R x y → R t u
moved R t u x y p q r =
    let P : Term → Type 0 = λ z. R z u in
    let Q : Term → Type 0 = λ z. R x z in
    subst P (sym p) (subst Q (sym q) r)

-- what was still to be related is related
pub expected_done : (R : Term → Term → Type 0) (S : ℕ → Term) (P : ℕ → Terms) (t u : Term) (ps : List Frame) (x y : Term) → Expects R S P t u ps x y → R x y → Under R S P t u ps
expected_done R S P t u [] x y e r = moved R t u x y e.0 e.1 r
expected_done R S P t u (p ∷ []) x y e r =
    let i = e.2 in
    (e.0, e.1, alike_next R (P p.left) (P p.right) p.next i.0 i.1.0 i.1.1.0 (moved R i.0 i.1.0 x y i.1.1.1.0 i.1.1.1.1 r))
expected_done R S P t u (p ∷ q ∷ ps) x y e r =
    let i = e.2 in
    (e.0, e.1, (i.0, (i.1.0, (i.1.1.0, expected_done R S P i.0 i.1.0 (q ∷ ps) x y i.1.1.1 r))))

-- what was still to be related are two structures, which are looked at next
pub expected_opens : (R : Term → Term → Type 0) (S : ℕ → Term) (P : ℕ → Terms) (t u : Term) (ps : List Frame) (x y : Term) (q : Frame) → Expects R S P t u ps x y → x ≡ S q.left → y ≡ S q.right → q.next ≡ 0 →
    Under R S P t u (ps ++ q ∷ [])
expected_opens R S P t u [] x y q e l r z =
    let A : ℕ → Type 0 = λ n. Alike R n (P q.left) (P q.right) in
    (e.0 ∙ l, e.1 ∙ r, subst A (sym z) tt)
expected_opens R S P t u (p ∷ []) x y q e l r z =
    let i = e.2 in
    (e.0, e.1, (i.0, (i.1.0, (i.1.1.0, expected_opens R S P i.0 i.1.0 [] x y q i.1.1.1 l r z))))
expected_opens R S P t u (p ∷ o ∷ ps) x y q e l r z =
    let i = e.2 in
    (e.0, e.1, (i.0, (i.1.0, (i.1.1.0, expected_opens R S P i.0 i.1.0 (o ∷ ps) x y q i.1.1.1 l r z))))

-- the next arguments of the innermost pair are to be related
pub under_turn : (R : Term → Term → Type 0) (S : ℕ → Term) (P : ℕ → Terms) (t u : Term) (ps : List Frame) (p : Frame) (x y : Term) → Under R S P t u (ps ++ p ∷ []) →
    argument_at (P p.left) p.next ≡ Some x → argument_at (P p.right) p.next ≡ Some y → Expects R S P t u (ps ++ onward p ∷ []) x y
under_turn R S P t u [] p x y d l r = (d.0, d.1, (x, (y, (record { before = p.next; is_next = omega arith; alike = d.2; left = l; right = r }, (refl, refl)))))
under_turn R S P t u (q ∷ []) p x y d l r =
    let i = d.2 in
    (d.0, d.1, (i.0, (i.1.0, (i.1.1.0, under_turn R S P i.0 i.1.0 [] p x y i.1.1.1 l r))))
under_turn R S P t u (q ∷ o ∷ ps) p x y d l r =
    let i = d.2 in
    (d.0, d.1, (i.0, (i.1.0, (i.1.1.0, under_turn R S P i.0 i.1.0 (o ∷ ps) p x y i.1.1.1 l r))))

-- what was looked at of the innermost pair
pub under_top : (R : Term → Term → Type 0) (S : ℕ → Term) (P : ℕ → Terms) (t u : Term) (ps : List Frame) (p : Frame) → Under R S P t u (ps ++ p ∷ []) → Alike R p.next (P p.left) (P p.right)
under_top R S P t u [] p d = d.2
under_top R S P t u (q ∷ []) p d = let i = d.2 in under_top R S P i.0 i.1.0 [] p i.1.1.1
under_top R S P t u (q ∷ o ∷ ps) p d = let i = d.2 in under_top R S P i.0 i.1.0 (o ∷ ps) p i.1.1.1

-- the innermost pair is related
pub under_pop : (R : Term → Term → Type 0) (S : ℕ → Term) (P : ℕ → Terms) (t u : Term) (ps : List Frame) (p : Frame) → Under R S P t u (ps ++ p ∷ []) → R (S p.left) (S p.right) → Under R S P t u ps
under_pop R S P t u [] p d r = moved R t u (S p.left) (S p.right) d.0 d.1 r
under_pop R S P t u (q ∷ []) p d r =
    let i = d.2 in
    (d.0, d.1, alike_next R (P q.left) (P q.right) q.next i.0 i.1.0 i.1.1.0 (under_pop R S P i.0 i.1.0 [] p i.1.1.1 r))
under_pop R S P t u (q ∷ o ∷ ps) p d r =
    let i = d.2 in
    (d.0, d.1, (i.0, (i.1.0, (i.1.1.0, under_pop R S P i.0 i.1.0 (o ∷ ps) p i.1.1.1 r))))

-- ---- equal terms

pub equal_arguments : (n : ℕ) (ts us : Terms) → Alike Equal n ts us → count_of ts ≡ n → count_of us ≡ n → ts ≡ us
equal_arguments zero none none a p q = refl
equal_arguments zero none (more u us) a p q = absurd (omega (arith, q))
equal_arguments zero (more t ts) us a p q = absurd (omega (arith, p))
equal_arguments (suc n) none us a p q = absurd (omega (arith, p))
equal_arguments (suc n) (more t ts) none a p q = absurd (omega (arith, q))
equal_arguments (suc n) (more t ts) (more u us) a p q = ap (λ x. more x ts) a.0 ∙ ap (more u) (equal_arguments n ts us a.1 (omega (arith, p)) (omega (arith, q)))

-- ---- all terms changed alike, or more related

-- arguments changed one by one
pub record Changes (g : Term → Term) (gs : Terms → Terms) : Type 0 where
  pub none_is : gs none ≡ none
  pub more_is : (t : Term) (ts : Terms) → gs (more t ts) ≡ more (g t) (gs ts)

alike_changed : (R Q : Term → Term → Type 0) (g : Term → Term) (gs : Terms → Terms) → Changes g gs → ((t u : Term) → R t u → Q (g t) (g u)) → (n : ℕ) (ts us : Terms) → Alike R n ts us → Alike Q n (gs ts) (gs us)
alike_changed R Q g gs c k zero ts us a = tt
alike_changed R Q g gs c k (suc n) none us a = absurd a
alike_changed R Q g gs c k (suc n) (more t ts) none a = absurd a
alike_changed R Q g gs c k (suc n) (more t ts) (more u us) a =
    let A : Terms → Type 0 = λ l. Alike Q (suc n) l (gs (more u us)) in
    let B : Terms → Type 0 = λ l. Alike Q (suc n) (more (g t) (gs ts)) l in
    subst A (sym (c.more_is t ts)) (subst B (sym (c.more_is u us)) (k t u a.0, alike_changed R Q g gs c k n ts us a.1))

argument_changed : (g : Term → Term) (gs : Terms → Terms) → Changes g gs → (ts : Terms) (n : ℕ) (t : Term) → argument_at ts n ≡ Some t → argument_at (gs ts) n ≡ Some (g t)
argument_changed g gs c none n t e = absurd (cc)
argument_changed g gs c (more x ts) zero t e = let q : x ≡ t = cc in ap (λ l. argument_at l 0) (c.more_is x ts) ∙ ap (λ z. Some (g z)) q
argument_changed g gs c (more x ts) (suc n) t e = ap (λ l. argument_at l (suc n)) (c.more_is x ts) ∙ argument_changed g gs c ts n t e

pub expected_changed : (R Q : Term → Term → Type 0) (g : Term → Term) (gs : Terms → Terms) (S Z : ℕ → Term) (P O : ℕ → Terms) → Changes g gs → ((t u : Term) → R t u → Q (g t) (g u)) →
    ((s : ℕ) → Z s ≡ g (S s)) → ((s : ℕ) → O s ≡ gs (P s)) → (t u : Term) (ps : List Frame) (x y : Term) → Expects R S P t u ps x y → Expects Q Z O (g t) (g u) ps (g x) (g y)
expected_changed R Q g gs S Z P O c k zs os t u [] x y e = (ap g e.0, ap g e.1)
expected_changed R Q g gs S Z P O c k zs os t u (p ∷ ps) x y e =
    let i = e.2 in
    let A : Terms → Terms → Type 0 = λ l m. LooksAt Q l m p.next (g i.0) (g i.1.0) in
    let B : Terms → Type 0 = λ l. A l (O p.right) in
    let C : Terms → Type 0 = λ l. A (gs (P p.left)) l in
    let looks = i.1.1.0 in
    let changed : LooksAt Q (O p.left) (O p.right) p.next (g i.0) (g i.1.0) =
    subst B (sym (os p.left)) (subst C (sym (os p.right)) (record {
      before = looks.before;
      is_next = looks.is_next;
      alike = alike_changed R Q g gs c k looks.before (P p.left) (P p.right) looks.alike;
      left = argument_changed g gs c (P p.left) looks.before i.0 looks.left;
      right = argument_changed g gs c (P p.right) looks.before i.1.0 looks.right;
    })) in
    (ap g e.0 ∙ sym (zs p.left), ap g e.1 ∙ sym (zs p.right), (g i.0, (g i.1.0, (changed, expected_changed R Q g gs S Z P O c k zs os i.0 i.1.0 ps x y i.1.1.1))))
