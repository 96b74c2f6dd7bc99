-- What is so of the shared table's words stays so.
use Rattle.std.proofs.Common.{◌≡◌, ◌≢◌, ℕ, zero, suc, ◌+◌, ◌*◌, ◌<◌, ◌⊎◌, List, [], ◌∷◌, ◌++◌, length, slice_index, slice_set, refl, sym, ap, ◌∙◌, subst, inl, inr, arith}
use Rattle.std.proofs.lemmas.Bool.{cases_eq}
use Rattle.std.proofs.lemmas.List.{length-set, get_or-set_same, get_or-set_other}
use Rattle.std.proofs.Math.ListN.{length-append}
use mathlib.Core.Option.{some}
use lib.ListN.{get_elem?}
use Rattle.atomic_table.proofs.Lists.{at_set}
use Rattle.kl1_text.specs.Words.{name_words}
use Rattle.kl1_text.proofs.Words.{few_words}
use Rattle.kl1_atoms.specs.declared.face.Face.{Face}
use Rattle.kl1_atoms.specs.declared.face.Heard.{Heard}
use Rattle.kl1_atoms.specs.declared.face.View.{View}
use Rattle.kl1_atoms.specs.Knowing.{stand_on}
use Rattle.kl1_atoms.specs.Way.{further}
use Rattle.kl1_atoms.specs.Rule.{word_place, Stands, At, Others, Reaches, Sound, AllStand, own_entry, Fits, Mine, Overlap, Kept}

-- words after others: buckets that point to an entry still do, and the entry's words are the same
pub record Grows (n : ℕ) (ws vs : List ℕ) : Type 0 where
  pub buckets : (i e : ℕ) → i < 2 * n → slice_index ws i ≡ suc e → slice_index vs i ≡ suc e
  pub entries : (i e k : ℕ) → i < 2 * n → slice_index ws i ≡ suc e → k < name_words → slice_index vs (word_place n e k) ≡ slice_index ws (word_place n e k)

pub stands_on : (n : ℕ) (ws vs : List ℕ) (i e : ℕ) (t : List ℕ) → Grows n ws vs → Stands n ws i e t → Stands n vs i e t
stands_on n ws vs i e t grows st = record {
  bucket = st.bucket;
  points = grows.buckets i e st.bucket st.points;
  entry = st.entry;
  shows = λ k h. grows.entries i e k st.bucket st.points (let f = few_words t st.name in omega arith) ∙ st.shows k h;
  name = st.name;
  own = st.own;
}

pub others_on : (n : ℕ) (ws vs : List ℕ) (t : List ℕ) (d : ℕ) → Grows n ws vs → Others n ws t d → Others n vs t d
others_on n ws vs t d grows others = λ c h. let o = others c h in (o.0, o.1, stands_on n ws vs (further n t c) o.0 o.1 grows o.2, o.3)

pub reaches_on : (n : ℕ) (ws vs : List ℕ) (t : List ℕ) (i : ℕ) → Grows n ws vs → Reaches n ws t i → Reaches n vs t i
reaches_on n ws vs t i grows r = (r.0, r.1, others_on n ws vs t r.0 grows r.2)

pub at_on : (n : ℕ) (ws vs : List ℕ) → Grows n ws vs → (t : List ℕ) (m : ℕ) → At n ws m t → At n vs m t
at_on n ws vs grows t m at = (at.0, at.1, at.2, stands_on n ws vs at.1 at.0 t grows at.3)

pub all_on : (n : ℕ) (ws vs : List ℕ) (hs : List Heard) → Grows n ws vs → AllStand n ws hs → AllStand n vs hs
all_on n ws vs [] grows all = tt
all_on n ws vs (h ∷ hs) grows all = (stands_on n ws vs h.bucket h.entry h.text grows all.0, all_on n ws vs hs grows all.1)

-- the last of a list, and those before it
last_is : (xs : List ℕ) (v k : ℕ) → k ≡ length xs → slice_index (xs ++ v ∷ []) k ≡ v
last_is [] v k e = rw e refl
last_is (x ∷ xs) v zero e = absurd (omega arith)
last_is (x ∷ xs) v (suc k) e = last_is xs v k (omega arith)

front_is : (xs : List ℕ) (v k : ℕ) → k < length xs → slice_index (xs ++ v ∷ []) k ≡ slice_index xs k
front_is [] v k h = absurd (omega arith)
front_is (x ∷ xs) v zero h = refl
front_is (x ∷ xs) v (suc k) h = front_is xs v k (omega arith)

-- whose face it is after a step of the seat id, whose first face becomes f'
module _ (views : List View) (id : ℕ) (f f' : Face) (fs : List Face) (at : get_elem? views id ≡ some record { faces = f ∷ fs }) where
  first_was : Mine views id 0 f
  first_was = (record { faces = f ∷ fs }, at, refl)

  first_or_other : (k : ℕ) (g : Face) → get_elem? (f' ∷ fs) k ≡ some g → ((k ≡ 0) × (f' ≡ g)) ⊎ ((k ≢ 0) × (get_elem? (f ∷ fs) k ≡ some g))
  first_or_other zero g e = inl (refl, (let s : some f' ≡ some g = e in cc))
  first_or_other (suc k) g e = inr ((λ z. omega arith), e)

  mine_after : (j k : ℕ) (g : Face) → Mine (slice_set views id record { faces = f' ∷ fs }) j k g → ((j ≡ id) × (k ≡ 0) × (f' ≡ g)) ⊎ (Mine views j k g × ((j ≡ id) → (k ≡ 0) → ⊥))
  mine_after j k g mine = elim (at_set views id j record { faces = f' ∷ fs } mine.0 mine.1) [
    | inl here ↦
        let e : get_elem? (f' ∷ fs) k ≡ some g = subst (λ (v : View). get_elem? v.faces k ≡ some g) (sym here.1) mine.2 in
        elim (first_or_other k g e) [
          | inl first ↦ inl (here.0, first.0, first.1)
          | inr other ↦ inr ((record { faces = f ∷ fs }, (subst (λ i. get_elem? views i ≡ some record { faces = f ∷ fs }) (sym here.0) at), other.1), (λ same z. other.0 z))
        ]
    | inr there ↦ inr ((mine.0, there.1, mine.2), (λ same z. there.0 same))
  ]

  -- the first face has the entries that it had
  like_first : (g h : Face) → g ≡ f' → (f'.first ≡ f.first) × (f'.room ≡ f.room) → Overlap g h → Overlap f h
  like_first g h is same o =
      let a : g.first ≡ f.first = ap (λ (x : Face). x.first) is ∙ same.0 in
      let b : g.room ≡ f.room = ap (λ (x : Face). x.room) is ∙ same.1 in
      (rw (← a) o.0, rw (← a, ← b) o.1)

  like_second : (g h : Face) → h ≡ f' → (f'.first ≡ f.first) × (f'.room ≡ f.room) → Overlap g h → Overlap g f
  like_second g h is same o = let p = like_first h g is same (o.1, o.0) in (p.1, p.0)

  -- a step that changes the first face keeps the rule, if it keeps the words sound and what other accounts know
  pub step_kept : (n : ℕ) (ws vs : List ℕ) → Sound n vs → ((j k : ℕ) (g : Face) → Mine views j k g → Fits n ws g)
      → ((i j k l : ℕ) (g h : Face) → Mine views i k g → Mine views j l h → Overlap g h → (i ≡ j) × (k ≡ l))
      → (f'.first ≡ f.first) × (f'.room ≡ f.room) → ((g : Face) → (Overlap g f → ⊥) → Fits n ws g → Fits n vs g) → Fits n vs f'
      → (homes : List _) → Kept n record { words = vs; homes = homes; views = slice_set views id record { faces = f' ∷ fs } }
  step_kept n ws vs sound fits apart same keeps own homes = record {
    sound = sound;
    fits = λ j k g mine. elim (mine_after j k g mine) [
      | inl first ↦ subst (λ (h : Face). Fits n vs h) first.2 own
      | inr other ↦ keeps g (λ e. let p = apart j id k 0 g f other.0 first_was e in other.1 p.0 p.1) (fits j k g other.0)
    ];
    apart = λ i j k l g h mine its e. elim (mine_after i k g mine) [
      | inl first ↦ elim (mine_after j l h its) [
        | inl second ↦ (first.0 ∙ sym second.0, first.1 ∙ sym second.1)
        | inr other ↦
            let p = apart id j 0 l f h first_was other.0 (like_first g h (sym first.2) same e) in (first.0 ∙ p.0, first.1 ∙ p.1)
      ]
      | inr one ↦ elim (mine_after j l h its) [
        | inl second ↦
            let p = apart i id k 0 g f one.0 first_was (like_second g h (sym second.2) same e) in (p.0 ∙ sym second.0, p.1 ∙ sym second.1)
        | inr other ↦ apart i j k l g h one.0 other.0 e
      ]
    ];
  }

-- a word of an account's own unpublished entry is stored
module _ (n : ℕ) (ws : List ℕ) (f : Face) (k v : ℕ) (sound : Sound n ws) (fits : Fits n ws f) (room : f.used < f.room) (within : k < name_words) where
  stored : List ℕ
  stored = slice_set ws (word_place n (own_entry f) k) v

  bucket_same : (i : ℕ) → i < 2 * n → slice_index (slice_set ws (word_place n (own_entry f) k) v) i ≡ slice_index ws i
  bucket_same i h = get_or-set_other ws (word_place n (own_entry f) k) i v 0 (λ e. omega arith)

  word_same : (e l : ℕ) → l < name_words → (e ≡ own_entry f → ⊥) → slice_index (slice_set ws (word_place n (own_entry f) k) v) (word_place n e l) ≡ slice_index ws (word_place n e l)
  word_same e l h other = get_or-set_other ws (word_place n (own_entry f) k) (word_place n e l) v 0 (λ same. other (omega arith))

  pub grows_store : Grows n ws (slice_set ws (word_place n (own_entry f) k) v)
  grows_store = record {
    buckets = λ i e h points. bucket_same i h ∙ points;
    entries = λ i e l h points small. word_same e l small (λ same. fits.free f.used (omega arith) room i h (points ∙ ap suc same));
  }

  pub sound_store : Sound n (slice_set ws (word_place n (own_entry f) k) v)
  sound_store = record {
    size = length-set ws (word_place n (own_entry f) k) v ∙ sound.size;
    stands = λ i e h points.
        let was = sound.stands i e h (sym (bucket_same i h) ∙ points) in
        (was.0, stands_on n ws (slice_set ws (word_place n (own_entry f) k) v) i e was.0 grows_store was.1, reaches_on n ws (slice_set ws (word_place n (own_entry f) k) v) was.0 i grows_store was.2);
    once = λ i j e h l points point. sound.once i j e h l (sym (bucket_same i h) ∙ points) (sym (bucket_same j l) ∙ point);
  }

  pub fits_store_other : (g : Face) → (Overlap g f → ⊥) → Fits n ws g → Fits n (slice_set ws (word_place n (own_entry f) k) v) g
  fits_store_other g differ its = record {
    entries = its.entries;
    range = its.range;
    used_up = its.used_up;
    free = λ j low high i h points. its.free j low high i h (sym (bucket_same i h) ∙ points);
    known = stand_on (At n ws) (At n (slice_set ws (word_place n (own_entry f) k) v)) g.knows (at_on n ws (slice_set ws (word_place n (own_entry f) k) v) grows_store) its.known;
    heard = all_on n ws (slice_set ws (word_place n (own_entry f) k) v) g.heard grows_store its.heard;
    drafted = λ l h.
        let d = its.drafted l h in
        let apart : own_entry g ≡ own_entry f → ⊥ = λ same. (let r = room in let q = d.1 in differ (omega arith, omega arith)) in
        (d.0, d.1, word_same (own_entry g) l d.0 apart ∙ d.2);
  }

  pub fits_store_own : k ≡ length f.draft → Fits n (slice_set ws (word_place n (own_entry f) k) v) record f { draft = f.draft ++ v ∷ [] }
  fits_store_own next = record {
    entries = fits.entries;
    range = fits.range;
    used_up = fits.used_up;
    free = λ j low high i h points. fits.free j low high i h (sym (bucket_same i h) ∙ points);
    known = stand_on (At n ws) (At n (slice_set ws (word_place n (own_entry f) k) v)) f.knows (at_on n ws (slice_set ws (word_place n (own_entry f) k) v) grows_store) fits.known;
    heard = all_on n ws (slice_set ws (word_place n (own_entry f) k) v) f.heard grows_store fits.heard;
    drafted = λ l h. elim (cases_eq l k) [
      | inl same ↦
          let inside : word_place n (own_entry f) k < length ws = (let s = sound.size in let a = fits.range in omega arith) in
          ((omega arith), room, rw same (get_or-set_same ws (word_place n (own_entry f) k) v 0 inside ∙ sym (last_is f.draft v k next)))
      | inr other ↦
          let before : l < length f.draft = (let m : l < length f.draft + 1 = subst (λ m. l < m) (length-append f.draft (v ∷ [])) h in let q = next in omega arith) in
          let d = fits.drafted l before in
          (d.0, d.1, get_or-set_other ws (word_place n (own_entry f) k) (word_place n (own_entry f) l) v 0 (λ same. other (omega arith)) ∙ d.2 ∙ sym (front_is f.draft v l before))
    ];
  }
