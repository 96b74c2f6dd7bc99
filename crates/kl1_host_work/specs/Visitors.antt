-- The places of a lobby: who is let in, and who gives way.
use Rattle.std.specs.Prelude.{◌≡◌, ◌<◌, ◌≤◌, ◌-◌, ◌^◌, ℕ, List, length, slice_index_or, slice_set, count_by, position, Bool, true, false, cond, ◌||◌, nat_le, nat_lt, Option, Some, None}
use Rattle.kl1_host_work.specs.declared.lobby.Admission.{Admission}
use Rattle.kl1_host_work.specs.declared.lobby.Admission.TheVariants.{Open, TurnedAway, Closing, Awaits, Waits}
use Rattle.kl1_host_work.specs.declared.place.Place.{Place}
use Rattle.kl1_host_work.specs.declared.visitors.Visitors.{Visitors}
use Rattle.kl1_host_work.specs.Places.{is_from, is_stranger_from, is_free, rank_of, told, IsLooked, IsGiven}

-- of two places with ranks, that of the least; at the same the first
abbrev pub better : Option (ℕ × ℕ) → ℕ → ℕ → Option (ℕ × ℕ)
better None place rank = Some (place, rank)
better (Some f) place rank = cond (nat_lt rank f.1) (Some (place, rank)) (Some f)

-- one more place, whose visitor may give way
abbrev pub first_of : Option (ℕ × ℕ) → ℕ → Option ℕ → Option (ℕ × ℕ)
first_of found place None = found
first_of found place (Some rank) = better found place rank

module _ {S : Type 0} where
  -- whether as many connections are open from a network as may be, or as many that have shown no key
  abbrev pub are_too_many : ℕ → ℕ → ℕ → List (Place S) → Bool
  are_too_many network each waiting places = nat_le each (count_by (λ p. is_from network p.visitor) places) || nat_le waiting (count_by (λ p. is_stranger_from network p.visitor) places)

  -- of the first `n` places, the one whose visitor gives way first to the one of the number `before`, and the rank of that
  abbrev pub IsFirstToGo : ℕ → List (Place S) → ℕ → Option (ℕ × ℕ) → Type 0
  IsFirstToGo before places n None = (k : ℕ) → k < n → (d : Place S) → rank_of before (slice_index_or places k d).visitor ≡ None
  IsFirstToGo before places n (Some f) =
      (f.0 < n)
      × ((d : Place S) → rank_of before (slice_index_or places f.0 d).visitor ≡ Some f.1)
      × ((k : ℕ) → k < n → (d : Place S) (rank : ℕ) → rank_of before (slice_index_or places k d).visitor ≡ Some rank → f.1 ≤ rank)

  -- the first that gives way is told to end, and nobody else
  abbrev pub OneGoes : ℕ → List (Place S) → List (Place S) → Type 0
  OneGoes before places after = (f : ℕ × ℕ) × IsFirstToGo before places (length places) (Some f) × ((d : Place S) → after ≡ slice_set places f.0 (told (slice_index_or places f.0 d)))

  -- nobody gives way
  abbrev pub NobodyGoes : ℕ → List (Place S) → List (Place S) → Type 0
  NobodyGoes before places after = IsFirstToGo before places (length places) None × (after ≡ places)

  -- a connection from a network has a place that was free, of which it has shown no key, and a number of its own
  abbrev pub IsTakenIn : ℕ → ℕ → Visitors S → Visitors S → Type 0
  IsTakenIn network place before after =
      (p : Place S)
      × ((d : Place S) → IsGiven network after.last (slice_index_or before.places.items place d) p)
      × (after.places.items ≡ slice_set before.places.items place p)

  -- what becomes of a connection from a network, of which at most `each` may be open, and `waiting` that have shown no key
  abbrev pub IsAdmitted : ℕ → ℕ → ℕ → Visitors S → Visitors S → Admission → Type 0
  IsAdmitted network each waiting before after Closing = (before.is_closing ≡ true) × (after ≡ before)
  IsAdmitted network each waiting before after TurnedAway = (are_too_many network each waiting before.places.items ≡ true) × (after ≡ before)
  IsAdmitted network each waiting before after (Open place) =
      (before.is_closing ≡ false) × (are_too_many network each waiting before.places.items ≡ false)
      × (position is_free before.places.items ≡ Some place) × IsTakenIn network place before after
  IsAdmitted network each waiting before after (Awaits address) =
      (are_too_many network each waiting before.places.items ≡ false)
      × (position is_free before.places.items ≡ None) × OneGoes (2 ^ 64 - 1) before.places.items after.places.items
  IsAdmitted network each waiting before after Waits =
      (are_too_many network each waiting before.places.items ≡ false)
      × (position is_free before.places.items ≡ None) × NobodyGoes (2 ^ 64 - 1) before.places.items after.places.items

  -- of the first `n` places nothing changes but how far who has them has come
  abbrev pub AreLooked : List (Place S) → List (Place S) → ℕ → Type 0
  AreLooked before after n = (length after ≡ length before) × ((k : ℕ) (d : Place S) → k < n → IsLooked (slice_index_or before k d) (slice_index_or after k d))

  -- so of all places, and nothing else
  abbrev pub IsLookedAt : Visitors S → Visitors S → Type 0
  IsLookedAt before after = AreLooked before.places.items after.places.items (length before.places.items) × (after.is_closing ≡ before.is_closing) × (after.last ≡ before.last)

  -- of the first `n` places, each is told to end
  abbrev pub AreTold : List (Place S) → List (Place S) → ℕ → Type 0
  AreTold before after n = (length after ≡ length before) × ((k : ℕ) (d : Place S) → k < n → slice_index_or after k d ≡ told (slice_index_or before k d))
