-- Accounts that stand in one table of names, each at its own place.
use Rattle.std.specs.Prelude.{◌≡◌, ◌≤◌, ℕ, List, [], slice_get, Some}
use Rattle.kl1_model.specs.declared.rules.Rules.{Rules}
use Rattle.kl1_model.specs.Rules.{limits_of}
use Rattle.kl1_codes.specs.Numbered.{ArePlaced}
use Rattle.kl1_atoms.specs.declared.known.Known.{Known}
use Rattle.kl1_journal.specs.Keeping.{Held}

-- each seat is of the table, its place is that of its account, and it has room for as many names as the account's rules allow; and the
-- codes of each account's modules stand in the source
abbrev pub AreSeated : {T S : Type 0} → (T → S → Type 0) → (S → (ℕ × ℕ) × ℕ) → (ℕ × ℕ → Type 0) → T → List (S × Held) → Type 0
AreSeated {T} {S} is_of place has names accounts = (k : ℕ) (x : S × Held) → slice_get accounts k ≡ Some x → is_of names x.0 × ((place x.0).1 ≡ k) × ArePlaced has x.1.0.modules × ((limits_of x.1.0.rules).names ≤ (place x.0).0.1)

-- each of these seats is of the table, stands at its own place, knows the built-in names alone, and has room for as many names as the rules
-- allow
abbrev pub AreNewSeats : {T S : Type 0} → (T → S → Type 0) → (S → (ℕ × ℕ) × ℕ) → (S → List Known) → Rules → T → List S → Type 0
AreNewSeats {T} {S} is_of place knows rules names seats = (k : ℕ) (x : S) → slice_get seats k ≡ Some x → is_of names x × ((place x).1 ≡ k) × (knows x ≡ []) × ((limits_of rules).names ≤ (place x).0.1)
