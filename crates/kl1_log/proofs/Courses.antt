-- The states of a file in memory, one after another.
use Rattle.std.proofs.Common.{◌≡◌, ℕ, List, [], ◌∷◌, ◌++◌, map, reverse, take, refl, sym, ap, ◌∙◌, subst}
use Rattle.std.specs.Prelude.{Option, Some, Result, Ok, Err, OnOk}
use Rattle.std.proofs.lemmas.List.{map-append, reverse-append}
use Rattle.kl1_log.specs.Files.{Bytes, content, settled, FileState, Loosened, CutTo, Cuts, Course, states}
use Rattle.kl1_log.specs.declared.snapshot.Snapshot.{Snapshot}
use Rattle.kl1_log.specs.Memories.{state_of}
use Rattle.kl1_log.proofs.Restoring.{loose_bytes}

-- one state more
pub one_more : (past : List Snapshot) (s : Snapshot) → reverse (map state_of (past ++ s ∷ [])) ≡ state_of s ∷ reverse (map state_of past)
one_more past s = ap reverse (map-append state_of past (s ∷ [])) ∙ reverse-append (map state_of past) (state_of s ∷ [])

-- a file is being cut, and then is
cuts : (c b m d : Course) (n : ℕ) (s t : FileState) → b ≡ c → Loosened n b.now s → m ≡ record { now = s; past = states b } → CutTo n b.now t → d ≡ record { now = t; past = states m } → Cuts n (Some c) (Some d)
cuts c b m d n s t same loose is cut so =
    let from : Loosened n c.now s = subst (λ (x : Course). Loosened n x.now s) same loose in
    let here : CutTo n c.now t = subst (λ (x : Course). CutTo n x.now t) same cut in (
      s,
      from,
      ap (λ (x : Course). x.now) so ∙ here ∙ sym (cut_from from),
      ap (λ (x : Course). x.past) so ∙ ap states is ∙ ap (λ (x : Course). s ∷ states x) same,
    )
  where
    cut_from : Loosened n c.now s → record s { now = settled (take n (content s.now)) } ≡ record c.now { now = settled (take n (content c.now.now)) }
    cut_from from =
        ap (λ (x : FileState). let y : FileState = record x { now = settled (take n (content x.now)) } in y) from
        ∙ ap (λ (x : List ℕ). let y : FileState = record c.now { now = settled (take n x) } in y) (loose_bytes c.now.now n)

pub cuts_if_ok : {T E : Type 0} (r : Result T E) (c b m d : Course) (n : ℕ) (s t : FileState) → b ≡ c → Loosened n b.now s → m ≡ record { now = s; past = states b } → CutTo n b.now t → OnOk r (d ≡ record { now = t; past = states m }) → OnOk r (Cuts n (Some c) (Some d))
cuts_if_ok (Ok x) c b m d n s t same loose is cut so = cuts c b m d n s t same loose is cut so
cuts_if_ok (Err e) c b m d n s t same loose is cut so = tt

-- states of the same bytes
pub same_states : (a b : Bytes) (o p q r : Option Bytes) → a ≡ b → o ≡ p → q ≡ r → (let s : FileState = record { now = a; before = o; next = q } in s) ≡ record { now = b; before = p; next = r }
same_states a b o p q r x y z = rw (x, y, z) refl
