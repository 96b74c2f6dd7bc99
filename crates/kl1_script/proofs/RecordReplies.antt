-- What is written for a record that is done, and for those after it.
use Rattle.std.proofs.Common.{◌≡◌, ℕ, ◌+◌, ◌<◌, suc, Bool, List, [], ◌∷◌, ◌++◌, length, refl, ap, sym, ◌∙◌, subst, arith}
use Rattle.std.specs.List.{concat}
use Rattle.kl1_model.specs.Record.{Record, Records, record_first, records_of}
use Rattle.kl1_model_server.specs.Script.{written_for, written_from, written_records}
use Rattle.kl1_journal.specs.Keeping.{Held}
use Rattle.kl1_lines.specs.Replies.{PutsFirst, Written, all_of}
use Rattle.kl1_script.specs.Alone.{AreAlone}
use Rattle.kl1_script.specs.Scripts.{WritesRecords, replies_from, script_end, written_after}

-- all replies are what is written
replies_all : (accounts : List (List ℕ)) (before rs : List Record) → concat (replies_from accounts before rs) ≡ written_from accounts before rs
replies_all accounts before [] = refl
replies_all accounts before (r ∷ rs) = ap (λ x. written_for accounts before r ++ x) (replies_all accounts (before ++ r ∷ []) rs)

-- so is what is written for the records of a text
pub written_all : (accounts : List (List ℕ)) (rs : Records) → all_of (written_after accounts [] rs) ≡ written_records accounts rs
written_all accounts rs = ap (λ x. x ++ script_end rs.is_truncated) (replies_all accounts [] rs.list)

-- no record is done yet
pub writes_all : (accounts : List (List ℕ)) (world : List Held) (text : List ℕ) → AreAlone accounts world [] → WritesRecords accounts world text (written_after accounts [] (records_of text))
writes_all accounts world text fresh = record { before = []; alone = fresh; is = refl }

-- a record more is done
pub record_put : (accounts : List (List ℕ)) (old new : List Held) (text rest out put : List ℕ) (r : Record) → record_first r (records_of rest) ≡ records_of text → ((before : List Record) → AreAlone accounts old before → AreAlone accounts new (before ++ r ∷ [])) → ((before : List Record) → AreAlone accounts old before → put ≡ out ++ written_for accounts before r) → (w : Written) → WritesRecords accounts old text w → PutsFirst (WritesRecords accounts new rest) w out put
record_put accounts old new text rest out put r is alone told w h =
    let others = replies_from accounts (h.before ++ r ∷ []) (records_of rest).list in
    let with_last : List ℕ → Written = λ x. record { each = others; last = x } in
    let same : w ≡ written_after accounts h.before (record_first r (records_of rest)) = h.is ∙ ap (written_after accounts h.before) (sym is) in
    record {
      reply = written_for accounts h.before r;
      others = others;
      each = ap (λ (v : Written). v.each) same;
      put = told h.before h.alone;
      rest = record {
        before = h.before ++ r ∷ [];
        alone = alone h.before h.alone;
        is = ap with_last (ap (λ (v : Written). v.last) same);
      };
    }

-- no record is left
pub record_end : (accounts : List (List ℕ)) (world : List Held) (text bytes : List ℕ) (v : Bool) → record { list = []; is_truncated = v } ≡ records_of text → bytes ≡ script_end v → (w : Written) → WritesRecords accounts world text w → all_of w ≡ bytes
record_end accounts world text bytes v is e w h =
    ap all_of (h.is ∙ ap (written_after accounts h.before) (sym is)) ∙ sym e

-- there is a reply to a record
pub record_some : (accounts : List (List ℕ)) (world : List Held) (text rest : List ℕ) (r : Record) → record_first r (records_of rest) ≡ records_of text → (w : Written) → WritesRecords accounts world text w → 0 < length w.each
record_some accounts world text rest r is w h =
    let same : w ≡ written_after accounts h.before (record_first r (records_of rest)) = h.is ∙ ap (written_after accounts h.before) (sym is) in
    let P : Written → Type 0 = λ v. 0 < length v.each in
    subst P (sym same) (omega arith)

-- a record fewer is left
pub record_fewer : (text rest : List ℕ) (r : Record) → record_first r (records_of rest) ≡ records_of text → length (records_of text).list ≡ length (records_of rest).list + 1
record_fewer text rest r is =
    let e : suc (length (records_of rest).list) ≡ length (records_of text).list = ap (λ (rs : Records). length rs.list) is in
    omega (arith, e)
