-- The bound on the lines of a text is out of reach: records go on by the rule alone.
use Rattle.std.proofs.Common.{◌≡◌, ℕ, zero, suc, ◌<◌, ◌≤◌, eqb, Bool, true, false, List, [], ◌∷◌, length, drop, refl, ap, ◌∙◌, arith, Option, Some, None}
use Rattle.std.proofs.lemmas.List.{length-drop}
use Rattle.kl1_model.specs.Line.{is_blank_line, behind_feed, line_in, before_space, behind_space}
use Rattle.kl1_model.specs.Record.{Records, records_by, records_within, records_of, source_bytes_in}

-- what is after a line is no longer than the text
pub behind_shorter : (bs : List ℕ) → length (behind_feed bs) ≤ length bs
behind_shorter [] = omega arith
behind_shorter (b ∷ bs) =
    elim (eqb b 10) as (λ v. let rest : List ℕ = elim v [ true ↦ bs | false ↦ behind_feed bs ] in length rest ≤ suc (length bs)) [ true ↦ omega arith | false ↦ omega (arith, behind_shorter bs) ]

-- and shorter if the text has a byte
pub behind_less : (bs : List ℕ) → 0 < length bs → length (behind_feed bs) < length bs
behind_less [] h = absurd (omega arith)
behind_less (b ∷ bs) h =
    elim (eqb b 10) as (λ v. let rest : List ℕ = elim v [ true ↦ bs | false ↦ behind_feed bs ] in length rest < suc (length bs)) [ true ↦ omega arith | false ↦ omega (arith, behind_shorter bs) ]

-- two ways to go on that agree on texts no longer than the rest make the same records of a line
pub same_by : (f g : List ℕ → Records) (name line rest : List ℕ) (source : Option ℕ) → ((bs : List ℕ) → length bs ≤ length rest → f bs ≡ g bs) → records_by f name line rest source ≡ records_by g name line rest source
same_by f g name line rest None h = rw (h rest (omega arith)) refl
same_by f g name line rest (Some n) h =
    let less : length (behind_feed (drop n rest)) ≤ length rest = omega (arith, behind_shorter (drop n rest), length-drop n rest) in
    rw (h (behind_feed (drop n rest)) less) refl

-- any two bounds above the length give the same
pub same_within : (n m : ℕ) (bs : List ℕ) → length bs < n → length bs < m → records_within n bs ≡ records_within m bs
unfolding records_within
same_within zero m bs h k = absurd (omega arith)
same_within (suc n) zero bs h k = absurd (omega arith)
same_within (suc n) (suc m) [] h k = refl
same_within (suc n) (suc m) (b ∷ bs) h k =
    let less : length (behind_feed (b ∷ bs)) ≤ length bs = omega (arith, behind_less (b ∷ bs) (omega arith)) in
    let each : (cs : List ℕ) → length cs ≤ length (behind_feed (b ∷ bs)) → records_within n cs ≡ records_within m cs = λ cs l. same_within n m cs (omega arith) (omega arith) in
    elim (is_blank_line (line_in (b ∷ bs))) as (λ v. elim v [ true ↦ records_within n (behind_feed (b ∷ bs)) | false ↦ records_by (records_within n) (before_space (line_in (b ∷ bs))) (behind_space (line_in (b ∷ bs))) (behind_feed (b ∷ bs)) (source_bytes_in (behind_space (line_in (b ∷ bs)))) ] ≡ elim v [ true ↦ records_within m (behind_feed (b ∷ bs)) | false ↦ records_by (records_within m) (before_space (line_in (b ∷ bs))) (behind_space (line_in (b ∷ bs))) (behind_feed (b ∷ bs)) (source_bytes_in (behind_space (line_in (b ∷ bs)))) ]) [
      | true ↦ each (behind_feed (b ∷ bs)) (omega arith)
      | false ↦ same_by (records_within n) (records_within m) (before_space (line_in (b ∷ bs))) (behind_space (line_in (b ∷ bs))) (behind_feed (b ∷ bs)) (source_bytes_in (behind_space (line_in (b ∷ bs)))) each
    ]

-- the records of a text in which this says whether its first line is blank
by_first : (n b : ℕ) (bs : List ℕ) (v : Bool) → is_blank_line (line_in (b ∷ bs)) ≡ v → records_within (suc n) (b ∷ bs) ≡ elim v [ true ↦ records_within n (behind_feed (b ∷ bs)) | false ↦ records_by (records_within n) (before_space (line_in (b ∷ bs))) (behind_space (line_in (b ∷ bs))) (behind_feed (b ∷ bs)) (source_bytes_in (behind_space (line_in (b ∷ bs)))) ]
unfolding records_within
by_first n b bs v e =
    ap (λ w. let rs : Records = elim w [ true ↦ records_within n (behind_feed (b ∷ bs)) | false ↦ records_by (records_within n) (before_space (line_in (b ∷ bs))) (behind_space (line_in (b ∷ bs))) (behind_feed (b ∷ bs)) (source_bytes_in (behind_space (line_in (b ∷ bs)))) ] in rs) e

-- nothing has no records
pub records_none : (bs : List ℕ) → length bs < 1 → records_of bs ≡ record { list = []; is_truncated = false }
unfolding records_within
records_none [] h = refl
records_none (b ∷ bs) h = absurd (omega arith)

-- a blank line in front is skipped
pub records_skip : (bs : List ℕ) → 0 < length bs → is_blank_line (line_in bs) ≡ true → records_of bs ≡ records_of (behind_feed bs)
records_skip [] h e = absurd (omega arith)
records_skip (b ∷ bs) h e =
    by_first (suc (length bs)) b bs true e ∙ same_within (suc (length bs)) (suc (length (behind_feed (b ∷ bs)))) (behind_feed (b ∷ bs)) (behind_less (b ∷ bs) (omega arith)) (omega arith)

-- another line makes a record
pub records_more : (bs : List ℕ) → 0 < length bs → is_blank_line (line_in bs) ≡ false → records_of bs ≡ records_by records_of (before_space (line_in bs)) (behind_space (line_in bs)) (behind_feed bs) (source_bytes_in (behind_space (line_in bs)))
records_more [] h e = absurd (omega arith)
records_more (b ∷ bs) h e =
    let less : length (behind_feed (b ∷ bs)) ≤ length bs = omega (arith, behind_less (b ∷ bs) (omega arith)) in
    let each : (cs : List ℕ) → length cs ≤ length (behind_feed (b ∷ bs)) → records_within (suc (length bs)) cs ≡ records_of cs = λ cs l. same_within (suc (length bs)) (suc (length cs)) cs (omega arith) (omega arith) in
    by_first (suc (length bs)) b bs false e ∙ same_by (records_within (suc (length bs))) records_of (before_space (line_in (b ∷ bs))) (behind_space (line_in (b ∷ bs))) (behind_feed (b ∷ bs)) (source_bytes_in (behind_space (line_in (b ∷ bs)))) each
