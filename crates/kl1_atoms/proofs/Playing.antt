-- Each step of a look-up keeps the rule of the shared table, and tells its play.
use Rattle.std.proofs.Common.{◌≡◌, ℕ, suc, ◌+◌, ◌-◌, ◌*◌, ◌<◌, ◌≤◌, ◌⊎◌, List, [], ◌∷◌, length, Some, slice_index, slice_set, IsTrue, is_some, refl, sym, ap, ◌∙◌, subst, inl, inr, arith, eqb}
use Rattle.std.proofs.lemmas.Bool.{cases_eq, cases_Bool, false≢true}
use Rattle.std.proofs.lemmas.List.{set-get_or}
use Rattle.std.proofs.Math.ListN.{length-append}
use mathlib.Core.Option.{some, none}
use lib.ListN.{get_elem?}
use Rattle.kl1_model.specs.declared.limits.TheConstants.{FIRST_NUMBER}
use Rattle.kl1_text.specs.Words.{name_words, bytes_of, word_count, words_to_end}
use Rattle.kl1_text.proofs.Words.{length-words_of, word_of, ended_hold}
use prog.Atomic.{either}
use Rattle.std.proofs.lemmas.Bool.{eq-eqb, ne_eqb}
use Rattle.kl1_model.specs.Text.{is_text}
use Rattle.atomic_table.specs.Table.{State, step, keeps, Allows}
use Rattle.kl1_atoms.specs.declared.known.Known.{Known}
use Rattle.kl1_atoms.specs.declared.face.Face.{Face}
use Rattle.kl1_atoms.specs.declared.face.Heard.{Heard}
use Rattle.kl1_atoms.specs.declared.face.View.{View}
use Rattle.kl1_atoms.specs.Names.{number_by, number_in, StandIn, added}
use Rattle.kl1_atoms.specs.Knowing.{stand_more, option_cases, number_in-last}
use Rattle.kl1_atoms.specs.Way.{further}
use Rattle.kl1_atoms.specs.Rule.{word_place, Shows, Stands, At, Sound, own_entry, Fits, Kept}
use Rattle.kl1_atoms.specs.Plays.{IsReady, has_first, own, In, heard_more, Sees, Looks, drafted_more, published_by, learned, LooksAt, ReadsAt, DraftsAt, PublishesAt, LearnsAt}
use Rattle.kl1_atoms.proofs.Growing.{step_kept, sound_store, fits_store_other, fits_store_own}
use Rattle.kl1_atoms.proofs.Publishing.{face_after, sound_publish, fits_publish_other, fits_publish_own}
use Rattle.kl1_atoms.proofs.Facing.{is_table, one_entry_of, knows_names, seen_stands, passed_others, not_known, few_others, one_text_at, meets}

-- what holds of each view that has a first face holds of a view that has one
pub by_first : (P : View → Type 0) → ((f : Face) (fs : List Face) → P record { faces = f ∷ fs }) → (fs : List Face) → IsTrue (has_first fs) → P record { faces = fs }
by_first P each [] there = absurd (false≢true there)
by_first P each (f ∷ fs) there = each f fs

-- the state, as a step sees it
module _ (n id : ℕ) (s : State (Unit {0}) View) (kept : Kept n s) (f : Face) (fs : List Face) (at : get_elem? s.views id ≡ some record { faces = f ∷ fs }) where
  own_fits : Fits n s.words f
  own_fits = kept.fits id 0 f (record { faces = f ∷ fs }, at, refl)

  other_fits : (k : ℕ) (g : Face) → get_elem? fs k ≡ some g → Fits n s.words g
  other_fits k g e = kept.fits id (suc k) g (record { faces = f ∷ fs }, at, e)

  -- a load leaves the words
  load_kept : (i : ℕ) (g : Face) (homes : List (mathlib.Core.Option.Option (Unit {0}))) → (g.first ≡ f.first) × (g.room ≡ f.room) → Fits n s.words g
      → Kept n record { words = slice_set s.words i (slice_index s.words i); homes = homes; views = slice_set s.views id record { faces = g ∷ fs } }
  load_kept i g homes same fits =
      subst (λ (ws : List ℕ). Kept n record { words = ws; homes = homes; views = slice_set s.views id record { faces = g ∷ fs } }) (sym (set-get_or s.words i 0))
      (step_kept s.views id f g fs at n s.words s.words kept.sound kept.fits kept.apart same (λ h differ its. its) fits homes)

-- a face with one more sighting
see_fits : (n : ℕ) (ws : List ℕ) (f : Face) (h : Heard) → Fits n ws f → Stands n ws h.bucket h.entry h.text → Fits n ws (heard_more f h)
see_fits n ws f h fits st = record {
  entries = fits.entries;
  range = fits.range;
  used_up = fits.used_up;
  free = fits.free;
  known = fits.known;
  heard = (st, fits.heard);
  drafted = fits.drafted;
}

-- what a look tells besides what it found
looks : (n : ℕ) (ws : List ℕ) (f g : Face) (i : ℕ) → Sound n ws → Fits n ws f → ((slice_index ws i ≡ 0) × (g ≡ f)) ⊎ Sees f g i (slice_index ws i) → Looks f g i (slice_index ws i)
looks n ws f g i sound fits change = record {
  names = knows_names n ws f sound fits;
  few = λ t d within passed.
      let limit : d ≤ 2 * n = subst (λ m. d ≤ 2 * m) fits.entries within in
      subst (λ m. d ≤ m) (sym fits.entries) (few_others n ws t d sound limit (passed_others n ws f t d fits passed));
  unknown = λ zero_ t d way passed.
      not_known n ws f t i d sound fits zero_ (way ∙ ap (λ m. further m t d) fits.entries) (passed_others n ws f t d fits passed);
  change = change;
}

-- a bucket that isn't free has a sighting
sighting : (n : ℕ) (ws : List ℕ) (i : ℕ) → Sound n ws → i < 2 * n → (slice_index ws i ≡ 0 → ⊥) → (h : Heard) × (slice_index ws i ≡ suc h.entry) × (h.bucket ≡ i) × Stands n ws h.bucket h.entry h.text
sighting n ws i sound within full =
    let points : slice_index ws i ≡ suc (slice_index ws i - 1) = omega arith in
    let s = sound.stands i (slice_index ws i - 1) within points in
    (record { bucket = i; entry = slice_index ws i - 1; text = s.0 }, points, refl, s.1)

pub allows_look : (n slots id i : ℕ) (v : View) (c : List (ℕ × Unit {0})) → IsTrue (has_first v.faces) → i < 2 * n
    → Allows (Kept n) slots id (v, c) i (λ m. m) (LooksAt (step slots i 0 0 none) (v, c))
allows_look n slots id i v c first within = by_first (λ (u : View). Allows (Kept n) slots id (u, c) i (λ m. m) (LooksAt (step slots i 0 0 none) (u, c)))
    (λ f fs s kept len at small.
    let fits = own_fits n id s kept f fs at in
    elim (cases_eq (slice_index s.words i) 0) [
      | inl free ↦ (
        record { faces = f ∷ fs },
        keeps,
        tt,
        load_kept n id s kept f fs at i f s.homes (refl, refl) fits,
        (
          record { slots = refl; faces = refl; tells = looks n s.words f f i kept.sound fits (inl (free, refl)) },
          meets n s.words f fs i kept.sound fits (other_fits n id s kept f fs at),
        ),
      )
      | inr full ↦
          let h = sighting n s.words i kept.sound within full in (
            record { faces = heard_more f h.0 ∷ fs },
            keeps,
            tt,
            load_kept n id s kept f fs at i (heard_more f h.0) s.homes (refl, refl) (see_fits n s.words f h.0 fits h.3),
            (
              record {
                slots = refl;
                faces = refl;
                tells = looks n s.words f (heard_more f h.0) i kept.sound fits (inr (h.0, h.1, h.2, subst (λ m. h.0.entry < m) (sym fits.entries) h.3.entry, h.3.name, refl));
              },
              meets n s.words f fs i kept.sound fits (other_fits n id s kept f fs at),
            ),
          )
    ])
    v.faces first

pub allows_read : (n slots id i : ℕ) (v : View) (c : List (ℕ × Unit {0})) → IsTrue (has_first v.faces)
    → Allows (Kept n) slots id (v, c) i (λ m. m) (ReadsAt (step slots i 0 0 none) (v, c))
allows_read n slots id i v c first = by_first (λ (u : View). Allows (Kept n) slots id (u, c) i (λ m. m) (ReadsAt (step slots i 0 0 none) (u, c)))
    (λ f fs s kept len at small.
    let fits = own_fits n id s kept f fs at in (
      record { faces = f ∷ fs },
      keeps,
      tt,
      load_kept n id s kept f fs at i f s.homes (refl, refl) fits,
      (
        refl,
        record {
          seen = λ h k is few place.
              ap (slice_index s.words) (place ∙ ap (λ m. word_place m h.entry k) fits.entries) ∙ (seen_stands n s.words f.heard h fits.heard is).shows k few;
          known = λ t e k e_is few place.
              let a = fits.known.by_number t (FIRST_NUMBER + e) e_is in
              let same : e ≡ a.0 = (let q = a.2 in omega arith) in
              ap (slice_index s.words) (place ∙ ap (λ m. word_place m e k) fits.entries ∙ ap (λ x. word_place n x k) same) ∙ a.3.shows k few;
          names = λ t e e_is. (fits.known.by_number t (FIRST_NUMBER + e) e_is).3.name;
        },
      ),
    ))
    v.faces first

pub allows_draft : (n slots id i w : ℕ) (v : View) (c : List (ℕ × Unit {0})) → IsTrue (has_first v.faces) → (own v).used < (own v).room → length (own v).draft < name_words
    → i ≡ word_place (own v).entries (own_entry (own v)) (length (own v).draft)
    → Allows (Kept n) slots id (v, c) i (λ m. w) (λ m. DraftsAt (step slots i w 0 none) (v, c) w)
allows_draft n slots id i w v c first = by_first
    (λ (u : View). (own u).used < (own u).room → length (own u).draft < name_words → i ≡ word_place (own u).entries (own_entry (own u)) (length (own u).draft) → Allows (Kept n) slots id (u, c) i (λ m. w) (λ m. DraftsAt (step slots i w 0 none) (u, c) w))
    (λ f fs room few place s kept len at small.
    let fits = own_fits n id s kept f fs at in
    let here : i ≡ word_place n (own_entry f) (length f.draft) = place ∙ ap (λ m. word_place m (own_entry f) (length f.draft)) fits.entries in
    let vs : List ℕ = slice_set s.words (word_place n (own_entry f) (length f.draft)) w in (
      record { faces = drafted_more f w ∷ fs },
      keeps,
      tt,
      subst (λ p. Kept n record { words = slice_set s.words p w; homes = s.homes; views = slice_set s.views id record { faces = drafted_more f w ∷ fs } }) (sym here)
          (step_kept s.views id f (drafted_more f w) fs at n s.words (slice_set s.words (word_place n (own_entry f) (length f.draft)) w)
          (sound_store n s.words f (length f.draft) w kept.sound fits room few) kept.fits kept.apart (refl, refl)
          (λ h differ its. fits_store_other n s.words f (length f.draft) w kept.sound fits room few h differ its)
          (fits_store_own n s.words f (length f.draft) w kept.sound fits room few refl) s.homes),
      record { slots = refl; faces = refl; tells = refl },
    ))
    v.faces first

-- the entry that a face has drafted shows its text
draft_shows : (n : ℕ) (ws : List ℕ) (f : Face) (t : List ℕ) → Fits n ws f → f.draft ≡ words_to_end t → Shows n ws (own_entry f) t
draft_shows n ws f t fits e = λ k h.
    let d = fits.drafted k (let l : length f.draft ≡ word_count t = ap length e ∙ length-words_of (word_count t) t in omega arith) in
    d.2 ∙ ap (λ xs. slice_index xs k) e ∙ word_of (word_count t) k t h

-- publishing by the draft is publishing by the text
published_same : (f : Face) (t : List ℕ) → f.draft ≡ words_to_end t → IsTrue (is_text t) → face_after f t ≡ published_by f
published_same f t e name = ap (face_after f) (sym (ended_hold t name) ∙ ap bytes_of (sym e))

pub allows_publish : (n slots id i e : ℕ) (v : View) (c : List (ℕ × Unit {0})) (t : List ℕ) (d : ℕ) → IsTrue (has_first v.faces) → IsReady (own v) t d i → e ≡ own_entry (own v) → i < 2 * n
    → Allows (Kept n) slots id (v, c) i (λ m. either (eqb m 0) (suc e) m) (PublishesAt (step slots i 0 (suc e) none) (v, c))
allows_publish n slots id i e v c t d first = by_first
    (λ (u : View). IsReady (own u) t d i → e ≡ own_entry (own u) → i < 2 * n → Allows (Kept n) slots id (u, c) i (λ m. either (eqb m 0) (suc e) m) (PublishesAt (step slots i 0 (suc e) none) (u, c)))
    (λ f fs ready mine within s kept len at small.
    let fits = own_fits n id s kept f fs at in
    elim (cases_eq (slice_index s.words i) 0) [
      | inl free ↦
          let way : i ≡ further n t d = ready.way ∙ ap (λ m. further m t d) fits.entries in
          let others = passed_others n s.words f t d fits ready.passed in
          let shows = draft_shows n s.words f t fits ready.draft in
          let same = published_same f t ready.draft ready.name in
          let sound = sound_publish n s.words f i t kept.sound fits ready.room within free shows ready.name ready.other d way others in
          let own_after = fits_publish_own n s.words f i t kept.sound fits ready.room within free shows ready.name ready.other d way others in
          let after : Fits n (slice_set s.words i (suc (own_entry f))) (published_by f) = subst (λ (g : Face). Fits n (slice_set s.words i (suc (own_entry f))) g) same own_after in
          let kept_after : Kept n record { words = slice_set s.words i (suc (own_entry f)); homes = s.homes; views = slice_set s.views id record { faces = published_by f ∷ fs } } =
          step_kept s.views id f (published_by f) fs at n s.words (slice_set s.words i (suc (own_entry f))) sound kept.fits kept.apart (refl, refl)
          (λ h differ its. fits_publish_other n s.words f i t kept.sound fits ready.room within free shows ready.name ready.other d way others h differ its) after s.homes
          in (
            record { faces = published_by f ∷ fs },
            keeps,
            tt,
            subst (λ b. Kept n record { words = slice_set s.words i (either b (suc e) (slice_index s.words i)); homes = s.homes; views = slice_set s.views id record { faces = published_by f ∷ fs } }) (sym (eq-eqb (slice_index s.words i) 0 free))
                (subst (λ x. Kept n record { words = slice_set s.words i (suc x); homes = s.homes; views = slice_set s.views id record { faces = published_by f ∷ fs } }) (sym mine) kept_after),
            record { slots = refl; faces = refl; tells = inl (free, refl, knows_names n (slice_set s.words i (suc (own_entry f))) (published_by f) sound after) },
          )
      | inr full ↦
          let h = sighting n s.words i kept.sound within full in (
            record { faces = heard_more f h.0 ∷ fs },
            keeps,
            tt,
            subst (λ b. Kept n record { words = slice_set s.words i (either b (suc e) (slice_index s.words i)); homes = s.homes; views = slice_set s.views id record { faces = heard_more f h.0 ∷ fs } }) (sym (ne_eqb (slice_index s.words i) 0 full))
                (load_kept n id s kept f fs at i (heard_more f h.0) s.homes (refl, refl) (see_fits n s.words f h.0 fits h.3)),
            record {
              slots = refl;
              faces = refl;
              tells = inr (h.0, h.1, h.2, subst (λ m. h.0.entry < m) (sym fits.entries) h.3.entry, h.3.name, refl);
            },
          )
    ])
    v.faces first

-- what is known after a look-up stands
stand_added : (n : ℕ) (ws : List ℕ) (ks : List Known) (i e : ℕ) (t : List ℕ) → StandIn (At n ws) ks → Stands n ws i e t → StandIn (At n ws) (added ks t record { number = FIRST_NUMBER + e })
stand_added n ws ks i e t stand st = elim (cases_Bool (is_some (number_by ks t))) [
  | inl known ↦ rw known stand
  | inr other ↦ rw other (stand_more (At n ws) ks record { text = t; number = record { number = FIRST_NUMBER + e } } stand (e, i, refl, st))
]

-- and is no fewer
pub no_fewer : (ks : List Known) (t : List ℕ) (number : ℕ) → length ks ≤ length (added ks t record { number = number })
no_fewer ks t number = elim (cases_Bool (is_some (number_by ks t))) [ inl known ↦ rw known (omega arith) | inr other ↦ rw other (simp length-append (omega arith)) ]

learn_fits : (n : ℕ) (ws : List ℕ) (f : Face) (h : Heard) → Fits n ws f → Stands n ws h.bucket h.entry h.text → Fits n ws (learned f h)
learn_fits n ws f h fits st = record {
  entries = fits.entries;
  range = fits.range;
  used_up = (let u = fits.used_up in let l = no_fewer f.knows h.text (FIRST_NUMBER + h.entry) in omega arith);
  free = fits.free;
  known = stand_added n ws f.knows h.bucket h.entry h.text fits.known st;
  heard = tt;
  drafted = λ k l. absurd (omega arith);
}

-- the number of a text that was learned
number_learned : (n : ℕ) (ws : List ℕ) (f : Face) (h : Heard) → Sound n ws → Fits n ws f → Stands n ws h.bucket h.entry h.text → number_by (learned f h).knows h.text ≡ Some (FIRST_NUMBER + h.entry)
number_learned n ws f h sound fits st = elim (option_cases (number_in f.knows h.text)) [
  | inl none_yet ↦ rw (st.own, none_yet) (number_in-last f.knows record { text = h.text; number = record { number = FIRST_NUMBER + h.entry } } none_yet)
  | inr known ↦
      let same = (is_table n ws sound).one_number h.text known.0 (FIRST_NUMBER + h.entry) (fits.known.by_text h.text known.0 known.1) (h.entry, h.bucket, refl, st) in
      rw (st.own, known.1) (known.1 ∙ ap (λ m. Some m) same)
]

pub allows_learn : (n slots id i : ℕ) (v : View) (c : List (ℕ × Unit {0})) (h : Heard) → IsTrue (has_first v.faces) → In (own v).heard h → h.bucket ≡ i
    → Allows (Kept n) slots id (v, c) i (λ m. m) (LearnsAt (step slots i 0 0 none) (v, c))
allows_learn n slots id i v c h first = by_first
    (λ (u : View). In (own u).heard h → h.bucket ≡ i → Allows (Kept n) slots id (u, c) i (λ m. m) (LearnsAt (step slots i 0 0 none) (u, c)))
    (λ f fs is bucket s kept len at small.
    let fits = own_fits n id s kept f fs at in
    let st = seen_stands n s.words f.heard h fits.heard is in
    let after = learn_fits n s.words f h fits st in (
      record { faces = learned f h ∷ fs },
      keeps,
      tt,
      load_kept n id s kept f fs at i (learned f h) s.homes (refl, refl) after,
      record {
        slots = refl;
        faces = refl;
        tells = record {
          names = knows_names n s.words (learned f h) kept.sound after;
          number = λ g its place.
              let su = seen_stands n s.words f.heard g fits.heard its in
              let same = learned_same n s.words f h g (bucket ∙ sym place) st su in
              subst (λ (x : Face). number_by x.knows g.text ≡ Some (FIRST_NUMBER + g.entry)) (sym same) (number_learned n s.words f g kept.sound fits su);
          change = λ g its place. learned_same n s.words f h g (bucket ∙ sym place) st (seen_stands n s.words f.heard g fits.heard its);
        };
      },
    ))
    v.faces first where
      learned_same : (n : ℕ) (ws : List ℕ) (f : Face) (h g : Heard) → h.bucket ≡ g.bucket → Stands n ws h.bucket h.entry h.text → Stands n ws g.bucket g.entry g.text → learned f h ≡ learned f g
      learned_same n ws f h g same st su =
          let its : Stands n ws h.bucket g.entry g.text = subst (λ x. Stands n ws x g.entry g.text) (sym same) su in
          let e = one_entry_of n ws h.bucket h.entry g.entry h.text g.text st its in
          let t = one_text_at n ws h.bucket h.entry g.entry h.text g.text st its in
          ap (λ x. learned f record { bucket = h.bucket; entry = x; text = h.text }) e ∙ ap (λ x. learned f record { bucket = h.bucket; entry = g.entry; text = x }) t
