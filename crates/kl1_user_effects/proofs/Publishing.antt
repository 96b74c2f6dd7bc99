-- Texts looked up one after another in a table of names.
use Rattle.kl1_user_effects.proofs.Words.{◌≡◌, ℕ, ◌+◌, ◌<◌, ◌≤◌, ◌^◌, List, [], ◌∷◌, ◌++◌, length, map, take, get_or, refl, sym, ap, ap₂, ◌∙◌, subst, inl, inr, arith, length-map, map-append, length_push, AtomNo, CellName, Known, number_by, added, Adds, HasRoom, option_cases, publishes_same, publishes_then, with_text, with_texts, with_none, texts_of, AreSmall, AreNumbersOf, Grows, Keeps, Fits, Reading}
use Rattle.std.proofs.Common.{Some}
use Rattle.kl1_user_effects.proofs.KnownTexts.{added_new, no_text, next_text, put_more, not_there}
use Rattle.kl1_user_effects.proofs.Lists.{all_append}

-- the first of some texts are looked up: the names that are known now have the texts put to those of the first names, and the
-- row has the texts' numbers
pub record Published (first : List Known) (texts : List (List ℕ)) (i : ℕ) (now : List Known) (row : List CellName) : Type 0 where
  pub texts_are : texts_of now ≡ with_texts (texts_of first) (take i texts)
  pub numbered : AreNumbersOf now (take i texts) row
  pub small : AreSmall now
  pub grows : Grows first now

pub published_none : (first : List Known) (texts : List (List ℕ)) (row : List CellName) → AreSmall first → row ≡ [] → Published first texts 0 first row
published_none first texts row small empty = record {
  texts_are = sym (with_none (texts_of first));
  numbered = λ f fits. ap (map f) empty;
  small = small;
  grows = λ t n e. e;
}

-- numbers stay small
pub small_more : (now : List Known) (t : List ℕ) (a : AtomNo) → a.number < 2 ^ 32 → AreSmall now → AreSmall (added now t a)
small_more now t a low small = elim (option_cases (number_by now t)) [
  | inl none ↦ subst AreSmall (sym (added_new now t a none)) (all_append (λ (k : Known). k.number.number < 2 ^ 32) now (record { text = t; number = a } ∷ []) small (low, tt))
  | inr some ↦ let same : now ≡ added now t a = rw some.1 refl in subst AreSmall same small
]

-- what fits more names fits the first ones
pub fits_less : (old new : List Known) → Grows old new → (f : Reading) → Fits new f → Fits old f
fits_less old new g f fits = record { reads = fits.reads; texts = λ t n e. fits.texts t n (g t n e) }

-- a number more
pub numbered_more : (now new : List Known) (texts : List (List ℕ)) (row : List CellName) (t : List ℕ) (c : CellName) → Grows now new → number_by new t ≡ Some c.number → AreNumbersOf now texts row → AreNumbersOf new (texts ++ t ∷ []) (row ++ c ∷ [])
numbered_more now new texts row t c grows own numbered f fits =
    map-append f row (c ∷ []) ∙ ap₂ (λ (xs : List (List ℕ)) (x : List ℕ). xs ++ x ∷ []) (numbered f (fits_less now new grows f fits)) (fits.texts t c.number own)

-- there is room for the next text, if there is room for all
pub has_room : (room : ℕ) (first : List Known) (texts : List (List ℕ)) (i : ℕ) (now : List Known) (row : List CellName) (t : List ℕ) → i < length texts → t ≡ get_or texts i t → length (with_texts (texts_of first) texts) ≤ room → Published first texts i now row → HasRoom room now t
has_room room first texts i now row t within is few p = elim (option_cases (number_by now t)) [
  | inl none ↦
      let n = no_text now t none in
      let next : with_texts (texts_of first) (take (i + 1) texts) ≡ texts_of now ++ t ∷ [] =
      next_text (texts_of first) texts i t within is ∙ ap (λ (l : List (List ℕ)). with_text l t) (sym p.texts_are) ∙ not_there (texts_of now) t n.0 n.1 in
      let count : length (with_texts (texts_of first) (take (i + 1) texts)) ≡ length now + 1 =
      ap length next ∙ length_push (texts_of now) t ∙ ap (λ (k : ℕ). k + 1) (length-map now (λ (k : Known). k.text)) in
      let up = put_more (texts_of first) texts (i + 1) in
      inr (omega arith)
  | inr some ↦ inl (rw some.1 refl)
]

-- ---- what calls leave of a table and of a seat

module _ {T S : Type 0} (is_of : T → S → Type 0) (place : S → (ℕ × ℕ) × ℕ) (knows : S → List Known) (published : S → ℕ) where
  pub keeps_same : (table : T) (seat : S) → is_of table seat → Keeps is_of place knows published table table seat seat
  keeps_same table seat of = record { of = of; stays = refl; others = λ other o ne. o; grows = λ t n e. e; publishes = publishes_same (published seat) (knows seat) }

  -- two calls, one after the other
  pub keeps_then : (old mid new : T) (before seat after : S) → Keeps is_of place knows published old mid before seat → Keeps is_of place knows published mid new seat after → Keeps is_of place knows published old new before after
  keeps_then old mid new before seat after one two = record {
    of = two.of;
    stays = two.stays ∙ one.stays;
    others = λ other o ne. two.others other (one.others other o ne) (λ e. ne (e ∙ one.stays));
    grows = λ t n e. two.grows t n (one.grows t n e);
    publishes = publishes_then (published before) (published seat) (published after) (knows before) (knows seat) (knows after) one.publishes two.publishes;
  }

module _ {S : Type 0} (knows : S → List Known) where
  -- what the names of an account are told of a look-up
  pub adds_to : (seat after : S) (now learned : List Known) (t : List ℕ) (a : AtomNo) → knows seat ≡ now → learned ≡ added now t a → Adds (knows seat) t a (knows after) → (knows after ≡ learned) × Adds now t a learned
  adds_to seat after now learned t a same is adds =
      let e : knows after ≡ learned = adds.known ∙ ap (λ (l : List Known). added l t a) same ∙ sym is in
      (e, record { known = is; number = ap (λ (l : List Known). number_by l t) (sym e) ∙ adds.number })
