-- An account's own drafted entry is published in a free bucket.
use Rattle.std.proofs.Common.{◌≡◌, ℕ, suc, ◌+◌, ◌*◌, ◌<◌, ◌⊎◌, List, [], ◌∷◌, ◌++◌, length, None, slice_index, slice_set, IsTrue, refl, sym, ap, ◌∙◌, subst, inl, inr, arith}
use Rattle.std.proofs.lemmas.Bool.{cases_eq}
use Rattle.std.proofs.lemmas.List.{length-set, get_or-set_same, get_or-set_other}
use Rattle.std.proofs.Math.ListN.{length-append}
use Rattle.kl1_model.specs.declared.limits.TheConstants.{FIRST_NUMBER}
use Rattle.kl1_text.specs.BuiltIns.{built_in_of}
use Rattle.kl1_model.specs.Text.{is_text}
use Rattle.kl1_atoms.specs.declared.known.Known.{Known}
use Rattle.kl1_atoms.specs.declared.face.Face.{Face}
use Rattle.kl1_atoms.specs.Knowing.{stand_on, stand_more}
use Rattle.kl1_atoms.specs.Way.{further}
use Rattle.kl1_atoms.specs.Rule.{word_place, Shows, Stands, At, Others, Reaches, Sound, own_entry, Fits, Overlap}
use Rattle.kl1_atoms.proofs.Growing.{Grows, stands_on, others_on, reaches_on, at_on, all_on}

-- the pair that is published
abbrev pub published : Face → List ℕ → Known
published f t = record { text = t; number = record { number = FIRST_NUMBER + own_entry f } }

-- what an account knows once it has published
abbrev pub face_after : Face → List ℕ → Face
face_after f t = record { entries = f.entries; first = f.first; room = f.room; used = f.used + 1; knows = f.knows ++ published f t ∷ []; heard = []; draft = [] }

module _ (n : ℕ) (ws : List ℕ) (f : Face) (i : ℕ) (t : List ℕ) (sound : Sound n ws) (fits : Fits n ws f) (room : f.used < f.room) (within : i < 2 * n) (free : slice_index ws i ≡ 0)
    (shows : Shows n ws (own_entry f) t) (name : IsTrue (is_text t)) (own : built_in_of t ≡ None) (d : ℕ) (way : i ≡ further n t d) (others : Others n ws t d) where
  inside : i < length ws
  inside = let s = sound.size in omega arith

  here : slice_index (slice_set ws i (suc (own_entry f))) i ≡ suc (own_entry f)
  here = get_or-set_same ws i (suc (own_entry f)) 0 inside

  there : (j : ℕ) → (j ≡ i → ⊥) → slice_index (slice_set ws i (suc (own_entry f))) j ≡ slice_index ws j
  there j differ = get_or-set_other ws i j (suc (own_entry f)) 0 differ

  points_elsewhere : (j e : ℕ) → slice_index ws j ≡ suc e → j ≡ i → ⊥
  points_elsewhere j e points same = let z : slice_index ws i ≡ suc e = subst (λ l. slice_index ws l ≡ suc e) same points in absurd (omega arith)

  word_there : (e k : ℕ) → slice_index (slice_set ws i (suc (own_entry f))) (word_place n e k) ≡ slice_index ws (word_place n e k)
  word_there e k = there (word_place n e k) (λ same. omega arith)

  pub grows_publish : Grows n ws (slice_set ws i (suc (own_entry f)))
  grows_publish = record {
    buckets = λ j e h points. there j (points_elsewhere j e points) ∙ points;
    entries = λ j e k h points small. word_there e k;
  }

  own_stands : Stands n (slice_set ws i (suc (own_entry f))) i (own_entry f) t
  own_stands = record {
    bucket = within;
    points = here;
    entry = (let a = fits.range in omega arith);
    shows = λ k h. word_there (own_entry f) k ∙ shows k h;
    name = name;
    own = own;
  }

  -- a bucket that points somewhere did so before, or is the one written
  points_before : (j e : ℕ) → slice_index (slice_set ws i (suc (own_entry f))) j ≡ suc e → ((j ≡ i) × (own_entry f ≡ e)) ⊎ (slice_index ws j ≡ suc e)
  points_before j e points = elim (cases_eq j i) [
    | inl same ↦ inl (same, (let p : suc (own_entry f) ≡ suc e = sym here ∙ subst (λ l. slice_index (slice_set ws i (suc (own_entry f))) l ≡ suc e) same points in omega arith))
    | inr other ↦ inr (sym (there j other) ∙ points)
  ]

  pub sound_publish : Sound n (slice_set ws i (suc (own_entry f)))
  sound_publish = record {
    size = length-set ws i (suc (own_entry f)) ∙ sound.size;
    stands = λ j e h points. elim (points_before j e points) [
      | inl is ↦ (
        t,
        subst (λ l. Stands n (slice_set ws i (suc (own_entry f))) l e t) (sym is.0) (subst (λ x. Stands n (slice_set ws i (suc (own_entry f))) i x t) is.1 own_stands),
        subst (λ l. Reaches n (slice_set ws i (suc (own_entry f))) t l) (sym is.0) (d, way, others_on n ws (slice_set ws i (suc (own_entry f))) t d grows_publish others),
      )
      | inr was ↦
          let old = sound.stands j e h was in
          (old.0, stands_on n ws (slice_set ws i (suc (own_entry f))) j e old.0 grows_publish old.1, reaches_on n ws (slice_set ws i (suc (own_entry f))) old.0 j grows_publish old.2)
    ];
    once = λ j l e h g points point. elim (points_before j e points) [
      | inl is ↦ elim (points_before l e point) [
        | inl are ↦ is.0 ∙ sym are.0
        | inr was ↦ absurd (fits.free f.used (omega arith) room l g (was ∙ ap suc (sym is.1)))
      ]
      | inr was ↦ elim (points_before l e point) [
        | inl are ↦ absurd (fits.free f.used (omega arith) room j h (was ∙ ap suc (sym are.1)))
        | inr were ↦ sound.once j l e h g was were
      ]
    ];
  }

  pub fits_publish_other : (g : Face) → (Overlap g f → ⊥) → Fits n ws g → Fits n (slice_set ws i (suc (own_entry f))) g
  fits_publish_other g differ its = record {
    entries = its.entries;
    range = its.range;
    used_up = its.used_up;
    free = λ j low high l h points. elim (points_before l (g.first + j) points) [
      | inl is ↦ let e = is.1 in let r = room in differ (omega arith, omega arith)
      | inr was ↦ its.free j low high l h was
    ];
    known = stand_on (At n ws) (At n (slice_set ws i (suc (own_entry f)))) g.knows (at_on n ws (slice_set ws i (suc (own_entry f))) grows_publish) its.known;
    heard = all_on n ws (slice_set ws i (suc (own_entry f))) g.heard grows_publish its.heard;
    drafted = λ l h. let q = its.drafted l h in (q.0, q.1, word_there (own_entry g) l ∙ q.2);
  }

  pub fits_publish_own : Fits n (slice_set ws i (suc (own_entry f))) (face_after f t)
  fits_publish_own = record {
    entries = fits.entries;
    range = fits.range;
    used_up = rw (length-append f.knows (published f t ∷ [])) (let u = fits.used_up in omega arith);
    free = λ j low high l h points. elim (points_before l (f.first + j) points) [
      | inl is ↦ let e = is.1 in absurd (omega arith)
      | inr was ↦ fits.free j (omega arith) high l h was
    ];
    known =
        stand_more (At n (slice_set ws i (suc (own_entry f)))) f.knows (published f t)
        (stand_on (At n ws) (At n (slice_set ws i (suc (own_entry f)))) f.knows (at_on n ws (slice_set ws i (suc (own_entry f))) grows_publish) fits.known)
        (own_entry f, i, refl, own_stands);
    heard = tt;
    drafted = λ k h. absurd (omega arith);
  }
