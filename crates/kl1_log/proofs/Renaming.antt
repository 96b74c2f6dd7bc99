-- What a crash leaves while a file is begun anew.
use Rattle.std.proofs.Common.{◌≡◌, ◌⊎◌, ℕ, true, List, [], refl, sym, ap, ◌∙◌, subst, inl, inr}
use Rattle.std.specs.Prelude.{Option, Some, None, option_map}
use Rattle.std.proofs.lemmas.Option.{same_Some}
use Rattle.kl1_log.specs.Files.{Bytes, content, settled, FileState, IsLeftOf, IsBroughtBack, NextWritten, NextTouched, NextSynced, Renamed, FolderSynced, HasNext, Known, Does, MayDo, IfKnown, Leaves, AtAnyMoment, is_at_rest}
use Rattle.kl1_log.specs.Batches.{text_of, IsOldOrNew}
use Rattle.kl1_log.proofs.Moments.{Facts, does_facts, may_facts, known_facts, begun, went_on, may_go_on, known_text, IsRest, rest_facts, rests_again, left_settled, rest_leaves}

-- what a crash leaves of a file that is begun anew
abbrev Either : List ℕ → List ℕ → List ℕ → Type 0
Either text bytes c = (c ≡ text) ⊎ (c ≡ bytes)

-- the new file stands beside the old
abbrev IsBeside : List ℕ → List ℕ → FileState → Type 0
IsBeside text bytes s = IsRest text s × (s.next ≡ Some (record { synced = []; pending = bytes }))

-- and is on the disk
abbrev IsReady : List ℕ → List ℕ → FileState → Type 0
IsReady text bytes s = IsRest text s × (s.next ≡ Some (settled bytes))

-- it has the name, which a crash may undo
abbrev IsRenamed : List ℕ → List ℕ → FileState → Type 0
IsRenamed text bytes s = (s.now ≡ settled bytes) × (s.before ≡ Some (settled text))

beside : (text bytes : List ℕ) (s t : FileState) → IsRest text s → NextWritten bytes s t → IsBeside text bytes t
beside text bytes s t r h = ((ap (λ (x : FileState). x.now) h ∙ r.0, ap (λ (x : FileState). x.before) h ∙ r.1), ap (λ (x : FileState). x.next) h)

touched : (text : List ℕ) (s t : FileState) → IsRest text s → NextTouched s t → IsRest text t
touched text s t r h = (ap (λ (x : FileState). x.now) h.1 ∙ r.0, ap (λ (x : FileState). x.before) h.1 ∙ r.1)

ready : (text bytes : List ℕ) (s t : FileState) → IsBeside text bytes s → NextSynced s t → IsReady text bytes t
ready text bytes s t r h =
    let same : h.0 ≡ record { synced = []; pending = bytes } = same_Some h.0 (record { synced = []; pending = bytes }) (sym h.1 ∙ r.1) in
    ((ap (λ (x : FileState). x.now) h.2 ∙ r.0.0, ap (λ (x : FileState). x.before) h.2 ∙ r.0.1), ap (λ (x : FileState). x.next) h.2 ∙ ap (λ (b : Bytes). let o : Option Bytes = Some (settled (content b)) in o) same)

renamed : (text bytes : List ℕ) (s t : FileState) → IsReady text bytes s → Renamed s t → IsRenamed text bytes t
renamed text bytes s t r h =
    let same : h.0 ≡ settled bytes = same_Some h.0 (settled bytes) (sym h.1 ∙ r.1) in
    (ap (λ (x : FileState). x.now) h.2 ∙ same, ap (λ (x : FileState). x.before) h.2 ∙ ap (λ (b : Bytes). let o : Option Bytes = Some b in o) r.0.0)

kept : (text bytes : List ℕ) (s t : FileState) → IsRenamed text bytes s → FolderSynced s t → IsRest bytes t
kept text bytes s t r h = (ap (λ (x : FileState). x.now) h ∙ r.0, ap (λ (x : FileState). x.before) h)

renamed_leaves : (text bytes : List ℕ) (s : FileState) → IsRenamed text bytes s → Leaves (Either text bytes) s
renamed_leaves text bytes s r c (inl l) = inr (left_settled bytes c (subst (λ (b : Bytes). IsLeftOf b c) r.0 l))
renamed_leaves text bytes s r c (inr back) = inl (left_settled text c (subst (λ (o : Option Bytes). IsBroughtBack o c) r.1 back))

old_leaves : (text bytes : List ℕ) (s : FileState) → IsRest text s → Leaves (Either text bytes) s
old_leaves text bytes s r = rest_leaves text (Either text bytes) s (inl refl) r

new_leaves : (text bytes : List ℕ) (s : FileState) → IsRest bytes s → Leaves (Either text bytes) s
new_leaves text bytes s r = rest_leaves bytes (Either text bytes) s (inr refl) r

as_begun : (k m : Known) (bytes : List ℕ) → AtAnyMoment k m (Either (known_text k) bytes) → AtAnyMoment k m (IsOldOrNew k bytes)
as_begun None m bytes so = so
as_begun (Some c) m bytes so = so

-- the calls so far, each of which did what it is for
module _ (k : Known) (bytes : List ℕ) (rest : is_at_rest k ≡ true) where
  abbrev P : List ℕ → Type 0
  P = Either (known_text k) bytes

  pub write_failed : (l : Known) → MayDo NextTouched k l → AtAnyMoment k l (IsOldOrNew k bytes)
  write_failed l h =
      let f = may_facts NextTouched (IsRest (known_text k)) k l (touched (known_text k)) (rest_facts k rest) h in
      as_begun k l bytes (may_go_on k k l NextTouched P (begun k P) h (λ c is. old_leaves (known_text k) bytes c.now (f c is)))

  module _ (l : Known) (one : Does (NextWritten bytes) k l) where
    beside_facts : Facts l (IsBeside (known_text k) bytes)
    beside_facts = does_facts (NextWritten bytes) (IsRest (known_text k)) (IsBeside (known_text k) bytes) k l (beside (known_text k) bytes) (rest_facts k rest) one

    beside_so : AtAnyMoment k l P
    beside_so = went_on k k l (NextWritten bytes) P (begun k P) one (λ c is. old_leaves (known_text k) bytes c.now (beside_facts c is).0)

    pub beside_next : IfKnown l HasNext
    beside_next = known_facts l HasNext (λ c is. (record { synced = []; pending = bytes }, (beside_facts c is).1))

    pub sync_failed : (m : Known) → m ≡ l → AtAnyMoment k m (IsOldOrNew k bytes)
    sync_failed m same = subst (λ (x : Known). AtAnyMoment k x (IsOldOrNew k bytes)) (sym same) (as_begun k l bytes beside_so)

    module _ (m : Known) (two : Does NextSynced l m) where
      ready_facts : Facts m (IsReady (known_text k) bytes)
      ready_facts = does_facts NextSynced (IsBeside (known_text k) bytes) (IsReady (known_text k) bytes) l m (ready (known_text k) bytes) beside_facts two

      ready_so : AtAnyMoment k m P
      ready_so = went_on k l m NextSynced P beside_so two (λ c is. old_leaves (known_text k) bytes c.now (ready_facts c is).0)

      pub ready_next : IfKnown m HasNext
      ready_next = known_facts m HasNext (λ c is. (settled bytes, (ready_facts c is).1))

      pub ready_before : IfKnown m (λ s. s.before ≡ None)
      ready_before = known_facts m (λ s. s.before ≡ None) (λ c is. (ready_facts c is).0.1)

      renamed_so : (n : Known) → Does Renamed m n → AtAnyMoment k n P
      renamed_so n three =
          let f = does_facts Renamed (IsReady (known_text k) bytes) (IsRenamed (known_text k) bytes) m n (renamed (known_text k) bytes) ready_facts three in
          went_on k m n Renamed P ready_so three (λ c is. renamed_leaves (known_text k) bytes c.now (f c is))

      pub rename_failed : (n : Known) → MayDo Renamed m n → AtAnyMoment k n (IsOldOrNew k bytes)
      rename_failed n (inl d) = as_begun k n bytes (renamed_so n d)
      rename_failed n (inr same) = subst (λ (x : Known). AtAnyMoment k x (IsOldOrNew k bytes)) (sym same) (as_begun k m bytes ready_so)

      module _ (n : Known) (three : Does Renamed m n) where
        renamed_facts : Facts n (IsRenamed (known_text k) bytes)
        renamed_facts = does_facts Renamed (IsReady (known_text k) bytes) (IsRenamed (known_text k) bytes) m n (renamed (known_text k) bytes) ready_facts three

        pub folder_failed : (o : Known) → o ≡ n → AtAnyMoment k o (IsOldOrNew k bytes)
        folder_failed o same = subst (λ (x : Known). AtAnyMoment k x (IsOldOrNew k bytes)) (sym same) (as_begun k n bytes (renamed_so n three))

        module _ (o : Known) (four : Does FolderSynced n o) where
          kept_facts : Facts o (IsRest bytes)
          kept_facts = does_facts FolderSynced (IsRenamed (known_text k) bytes) (IsRest bytes) n o (kept (known_text k) bytes) renamed_facts four

          kept_so : AtAnyMoment k o P
          kept_so = went_on k n o FolderSynced P (renamed_so n three) four (λ c is. new_leaves (known_text k) bytes c.now (kept_facts c is))

          pub begun_moments : AtAnyMoment k o (IsOldOrNew k bytes)
          begun_moments = as_begun k o bytes kept_so

          pub begun_rests : (is_at_rest o ≡ true) × (text_of o ≡ option_map (λ (x : List ℕ). bytes) (text_of k))
          begun_rests = rests_again k o P (λ (x : List ℕ). bytes) kept_so kept_facts
