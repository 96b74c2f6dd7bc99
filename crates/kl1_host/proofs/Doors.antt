-- To which account a name and a key let in, whose sum is compared.
use Rattle.std.proofs.Common.{◌≡◌, ℕ, suc, ◌+◌, Bool, true, false, List, [], ◌∷◌, Some, None, bytes_eq, ap, refl, ◌∙◌, arith}
use Rattle.std.specs.Prelude.{Option, if◌then◌else◌}
use Rattle.std.proofs.lemmas.Slice.Eq.{bytes_eq-Decides}
use Rattle.kl1_session.specs.Files.{Entry, found, found_from}
use Rattle.kl1_host_front.specs.Sums.{sum_of, opened_by_sum}
use Rattle.kl1_host_door.specs.Doors.{mark_at}
use Rattle.kl1_host_work.specs.Fronts.{OpensByName, names_in}
use Rattle.kl1_host_work.proofs.OpenedByName.{found_by_name}

-- to no account but the one that is called so
pub opened_by_name : (es : List Entry) → OpensByName (opened_by_sum es) (names_in es)
opened_by_name es name key account at = found_by_name es name (sum_of key) account at

-- the key stands at that place of the entries, counted from `n`
abbrev IsMarkedThere : ℕ → List Entry → List ℕ → ℕ → Type 0
IsMarkedThere n es key account = (k : ℕ) × (account ≡ n + k) × (mark_at es k ≡ key)

abbrev found_at : Bool → Bool → ℕ → Option ℕ → Option ℕ
found_at same right n later = if same then (if right then Some n else None) else later

marked_by : (n : ℕ) (e : Entry) (es : List Entry) (name key : List ℕ) (account : ℕ) (same right : Bool) → bytes_eq e.key key ≡ right → (found_from (suc n) es name key ≡ Some account → IsMarkedThere (suc n) es key account) → found_at same right n (found_from (suc n) es name key) ≡ Some account → IsMarkedThere n (e ∷ es) key account
marked_by n e es name key account true true is later at =
    let is_n : n ≡ account = cc in
    (0, omega (is_n, arith), (bytes_eq-Decides e.key key).0 is)
marked_by n e es name key account true false is later at = absurd (let e : ⊥ = cc in e)
marked_by n e es name key account false right is later at =
    let there = later at in
    (suc there.0, omega (there.1, arith), there.2)

marked_from : (n : ℕ) (es : List Entry) (name key : List ℕ) (account : ℕ) → found_from n es name key ≡ Some account → IsMarkedThere n es key account
marked_from n [] name key account at = absurd (let e : ⊥ = cc in e)
marked_from n (e ∷ es) name key account at = marked_by n e es name key account (bytes_eq e.name name) (bytes_eq e.key key) refl (marked_from (suc n) es name key account) at

-- the key by which an account is found stands there
pub found_by_mark : (es : List Entry) (name key : List ℕ) (account : ℕ) → found es name key ≡ Some account → mark_at es account ≡ key
found_by_mark es name key account at =
    let there = marked_from 0 es name key account at in
    let is : account ≡ there.0 = omega (there.1, arith) in
    ap (mark_at es) is ∙ there.2
