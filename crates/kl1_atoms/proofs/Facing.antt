-- What sound words show: a table of names, no text twice, and no more names than entries.
use Rattle.std.proofs.Common.{◌≡◌, ◌≢◌, ℕ, zero, suc, ◌+◌, ◌-◌, ◌*◌, ◌<◌, ◌≤◌, List, [], ◌∷◌, length, Option, Some, None, slice_index, refl, sym, ap, ◌∙◌, subst, inl, inr, arith, eqb, true, false}
use Rattle.std.specs.List.{IsDistinct, AllByRecursion, list_any}
use Rattle.std.proofs.lemmas.Bool.{cases_order, ne_eqb, eqb-true, or_cases}
use Rattle.std.proofs.lemmas.Map.Steps.{length-le_from_distinct_below}
use Rattle.kl1_model.specs.declared.limits.TheConstants.{FIRST_NUMBER}
use Rattle.kl1_text.proofs.Words.{one_name}
use Rattle.atomic_table.proofs.Lists.{one_turn}
use Rattle.kl1_atoms.specs.declared.face.Face.{Face}
use Rattle.kl1_atoms.specs.declared.face.Heard.{Heard}
use Rattle.kl1_atoms.specs.Names.{number_in, IsTable}
use Rattle.kl1_atoms.specs.Knowing.{are_names}
use Rattle.kl1_atoms.specs.Way.{start, further}
use Rattle.kl1_atoms.specs.Rule.{Stands, At, Others, Reaches, Sound, AllStand, Fits, Listed}
use Rattle.kl1_atoms.specs.Plays.{In, Passed, Agreed, EachAgrees, NoneKnows, Meets}
use mathlib.Core.Option.{some}
use lib.ListN.{get_elem?}

-- an entry has one text
pub one_text_of : (n : ℕ) (ws : List ℕ) (i j e : ℕ) (t u : List ℕ) → Stands n ws i e t → Stands n ws j e u → t ≡ u
one_text_of n ws i j e t u st su = one_name u t su.name st.name (λ k h l. sym (st.shows k l) ∙ su.shows k h)

-- a bucket points to one entry
pub one_entry_of : (n : ℕ) (ws : List ℕ) (i e d : ℕ) (t u : List ℕ) → Stands n ws i e t → Stands n ws i d u → e ≡ d
one_entry_of n ws i e d t u st su = let p : suc e ≡ suc d = sym st.points ∙ su.points in omega arith

-- a bucket has one text
pub one_text_at : (n : ℕ) (ws : List ℕ) (i e d : ℕ) (t u : List ℕ) → Stands n ws i e t → Stands n ws i d u → t ≡ u
one_text_at n ws i e d t u st su = one_text_of n ws i i e t u st (subst (λ x. Stands n ws i x u) (sym (one_entry_of n ws i e d t u st su)) su)

-- the bucket of a published text is reached on that text's way
pub reached : (n : ℕ) (ws : List ℕ) (i e : ℕ) (t : List ℕ) → Sound n ws → Stands n ws i e t → Reaches n ws t i
reached n ws i e t sound st =
    let s = sound.stands i e st.bucket st.points in
    subst (λ u. Reaches n ws u i) (one_text_of n ws i i e s.0 t s.1 st) s.2

-- no text is published twice
pub no_text_twice : (n : ℕ) (ws : List ℕ) (i j e d : ℕ) (t : List ℕ) → Sound n ws → Stands n ws i e t → Stands n ws j d t → i ≡ j
no_text_twice n ws i j e d t sound st su =
    let r = reached n ws i e t sound st in
    let q = reached n ws j d t sound su in
    elim (cases_order r.0 q.0) [
      | inl same ↦ r.1 ∙ ap (further n t) same ∙ sym q.1
      | inr other ↦ elim other [
        | inl before ↦
            let o = q.2 r.0 before in
            absurd (o.3 (sym (one_text_at n ws i e o.0 t o.1 st (subst (λ x. Stands n ws x o.0 o.1) (sym r.1) o.2))))
        | inr after ↦
            let o = r.2 q.0 after in
            absurd (o.3 (sym (one_text_at n ws j d o.0 t o.1 su (subst (λ x. Stands n ws x o.0 o.1) (sym q.1) o.2))))
      ]
    ]

-- the words show a table of names
pub is_table : (n : ℕ) (ws : List ℕ) → Sound n ws → IsTable (At n ws)
is_table n ws sound = record {
  names = λ t m at. at.3.name;
  not_built_in = λ t m at. at.3.own;
  from_64 = λ t m at. let e = at.2 in omega arith;
  one_text = λ t u m at by.
      let same : at.0 ≡ by.0 = (let e = at.2 in let d = by.2 in omega arith) in
      one_text_of n ws at.1 by.1 at.0 t u at.3 (subst (λ x. Stands n ws by.1 x u) (sym same) by.3);
  one_number = λ t l m at by.
      let same = no_text_twice n ws at.1 by.1 at.0 by.0 t sound at.3 by.3 in
      at.2 ∙ ap (λ x. FIRST_NUMBER + x) (one_entry_of n ws by.1 at.0 by.0 t t (subst (λ x. Stands n ws x at.0 t) same at.3) by.3) ∙ sym by.2;
}

-- what an account knows is one to one
pub knows_names : (n : ℕ) (ws : List ℕ) (f : Face) → Sound n ws → Fits n ws f → Listed f.entries f.knows
knows_names n ws f sound fits = record {
  names = are_names (At n ws) f.knows (is_table n ws sound) fits.known;
  entries = λ t m e.
      let a = fits.known.by_number t m e in
      ((let q = a.2 in omega arith), subst (λ k. m < FIRST_NUMBER + k) (sym fits.entries) (let q = a.2 in let r = a.3.entry in omega arith));
}

-- a sighting is so
pub seen_stands : (n : ℕ) (ws : List ℕ) (hs : List Heard) (h : Heard) → AllStand n ws hs → In hs h → Stands n ws h.bucket h.entry h.text
seen_stands n ws [] h all is = absurd is
seen_stands n ws (x ∷ hs) h all is = elim is [ inl here ↦ subst (λ (y : Heard). Stands n ws y.bucket y.entry y.text) here all.0 | inr there ↦ seen_stands n ws hs h all.1 there ]

-- what was passed does point to other texts
pub passed_others : (n : ℕ) (ws : List ℕ) (f : Face) (t : List ℕ) (d : ℕ) → Fits n ws f → Passed f t d → Others n ws t d
passed_others n ws f t d fits passed = λ c h.
    let p = passed c h in
    let way : p.0.bucket ≡ further n t c = p.2 ∙ ap (λ m. further m t c) fits.entries in
    (p.0.entry, p.0.text, subst (λ x. Stands n ws x p.0.entry p.0.text) way (seen_stands n ws f.heard p.0 fits.heard p.1), p.3)

-- a free bucket at the end of a text's way shows that the text isn't known
pub not_known : (n : ℕ) (ws : List ℕ) (f : Face) (t : List ℕ) (i d : ℕ) → Sound n ws → Fits n ws f → slice_index ws i ≡ 0 → i ≡ further n t d → Others n ws t d → number_in f.knows t ≡ None
not_known n ws f t i d sound fits free way others = none_of (number_in f.knows t) (λ m e.
    let at = fits.known.by_text t m e in
    let r = reached n ws at.1 at.0 t sound at.3 in
    elim (cases_order d r.0) [
      | inl same ↦
          let p : slice_index ws i ≡ suc at.0 = subst (λ x. slice_index ws x ≡ suc at.0) (r.1 ∙ ap (further n t) (sym same) ∙ sym way) at.3.points in
          absurd (omega arith)
      | inr other ↦ elim other [
        | inl before ↦
            let o = r.2 d before in
            let p : slice_index ws i ≡ suc o.0 = subst (λ x. slice_index ws x ≡ suc o.0) (sym way) o.2.points in
            absurd (omega arith)
        | inr after ↦
            let o = others r.0 after in
            absurd (o.3 (sym (one_text_at n ws at.1 at.0 o.0 t o.1 at.3 (subst (λ x. Stands n ws x o.0 o.1) (sym r.1) o.2))))
      ]
    ]) where
      none_of : (o : Option ℕ) → ((m : ℕ) → o ≡ Some m → ⊥) → o ≡ None
      none_of None never = refl
      none_of (Some m) never = absurd (never m refl)

-- accounts of one table agree
pub agreed : (n : ℕ) (ws : List ℕ) (f g : Face) → Sound n ws → Fits n ws f → Fits n ws g → Agreed f.knows g.knows
agreed n ws f g sound fits its = λ t l m e d. (is_table n ws sound).one_number t l m (fits.known.by_text t l e) (its.known.by_text t m d)

each_agrees : (n : ℕ) (ws : List ℕ) (f : Face) (fs : List Face) → Sound n ws → Fits n ws f → ((k : ℕ) (g : Face) → get_elem? fs k ≡ some g → Fits n ws g) → EachAgrees f.knows fs
each_agrees n ws f [] sound fits all = tt
each_agrees n ws f (g ∷ gs) sound fits all = (agreed n ws f g sound fits (all 0 g refl), each_agrees n ws f gs sound fits (λ k h e. all (suc k) h e))

none_knows : (n : ℕ) (ws : List ℕ) (t : List ℕ) (i d : ℕ) (fs : List Face) → Sound n ws → slice_index ws i ≡ 0 → i ≡ further n t d → Others n ws t d → ((k : ℕ) (g : Face) → get_elem? fs k ≡ some g → Fits n ws g)
    → NoneKnows fs t
none_knows n ws t i d [] sound free way others all = tt
none_knows n ws t i d (g ∷ gs) sound free way others all = (not_known n ws g t i d sound (all 0 g refl) free way others, none_knows n ws t i d gs sound free way others (λ k h e. all (suc k) h e))

-- what a look tells of the accounts after a seat's own
pub meets : (n : ℕ) (ws : List ℕ) (f : Face) (fs : List Face) (i : ℕ) → Sound n ws → Fits n ws f → ((k : ℕ) (g : Face) → get_elem? fs k ≡ some g → Fits n ws g) → Meets f fs i (slice_index ws i)
meets n ws f fs i sound fits all = record {
  agree = each_agrees n ws f fs sound fits all;
  unknown = λ zero_ t d way passed. none_knows n ws t i d fs sound zero_ (way ∙ ap (λ m. further m t d) fits.entries) (passed_others n ws f t d fits passed) all;
}

-- the first values of a function, the last in front
values : (ℕ → ℕ) → ℕ → List ℕ
values e zero = []
values e (suc d) = e d ∷ values e d

length-values : (e : ℕ → ℕ) (d : ℕ) → length (values e d) ≡ d
unfolding values
length-values e zero = refl
length-values e (suc d) = ap suc (length-values e d)

values_below : (e : ℕ → ℕ) (m d : ℕ) → ((c : ℕ) → c < d → e c < m) → (q : ℕ) → list_any (eqb q) (values e d) ≡ true → q < m
unfolding values
values_below e m zero below q any = cc
values_below e m (suc d) below q any = elim (or_cases (eqb q (e d)) (list_any (eqb q) (values e d)) any) [
  | inl here ↦ let is : q ≡ e d = eqb-true q (e d) here in let b : e d < m = below d (omega arith) in omega arith
  | inr there ↦ values_below e m d (λ c h. below c (omega arith)) q there
]

all_differ : (e : ℕ → ℕ) (x d : ℕ) → ((c : ℕ) → c < d → x ≢ e c) → AllByRecursion (λ y. eqb x y ≡ false) (values e d)
unfolding values
all_differ e x zero differ = tt
all_differ e x (suc d) differ = (ne_eqb x (e d) (differ d (omega arith)), all_differ e x d (λ c h. differ c (omega arith)))

values_distinct : (e : ℕ → ℕ) (d : ℕ) → ((b c : ℕ) → b < c → c < d → e c ≢ e b) → IsDistinct eqb (values e d)
unfolding values IsDistinct
values_distinct e zero differ = tt
values_distinct e (suc d) differ = (all_differ e (e d) d (λ c h. differ c d h (omega arith)), values_distinct e d (λ b c h l. differ b c h (omega arith)))

-- distinct values below m are at most m
at_most : (e : ℕ → ℕ) (m d : ℕ) → ((c : ℕ) → c < d → e c < m) → ((b c : ℕ) → b < c → c < d → e c ≢ e b) → d ≤ m
at_most e m d below differ = subst (λ l. l ≤ m) (length-values e d) (length-le_from_distinct_below (values e d) m (values_distinct e d differ) (values_below e m d below))

-- no more buckets of a way point to other texts than there are entries
pub few_others : (n : ℕ) (ws : List ℕ) (t : List ℕ) (d : ℕ) → Sound n ws → d ≤ 2 * n → Others n ws t d → d ≤ n
few_others n ws t d sound within others =
    at_most (λ c. slice_index ws (further n t c) - 1) (n) d
    (λ c h. let o = others c h in let p : slice_index ws (further n t c) ≡ suc o.0 = o.2.points in let q = o.2.entry in omega arith)
    (λ b c before h e.
    let o = others b (omega arith) in
    let p = others c h in
    let same : o.0 ≡ p.0 = (let x : slice_index ws (further n t b) ≡ suc o.0 = o.2.points in let y : slice_index ws (further n t c) ≡ suc p.0 = p.2.points in omega arith) in
    let place = sound.once (further n t b) (further n t c) o.0 o.2.bucket p.2.bucket o.2.points (p.2.points ∙ ap suc (sym same)) in
    let turn : start n t + b ≡ start n t + c = one_turn (start n t + b) (start n t + c) (2 * n) (omega arith) (omega arith) place in
    absurd (omega arith))
