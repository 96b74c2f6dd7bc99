-- The next edition of the keys of a host's accounts.
use Rattle.std.specs.Prelude.{◌≡◌, ℕ, ◌+◌, ◌-◌, nat_lt, Bool, true, false, ◌&&◌, not, if◌then◌else◌, List, [], ◌∷◌, ◌++◌, length, take, map, filter, bytes_eq, Option, Some, None, is_some}
use Rattle.kl1_session.specs.Files.{Entry}
use Rattle.kl1_session.specs.Views.{entries_view}
use Rattle.kl1_host.specs.declared.next_keys.NextKeys.{NextKeys}

-- what stands at a place whose account was removed
abbrev pub nobody : Entry
nobody = record { name = []; key = [] }

-- whether an account stands at a place
abbrev pub is_there : Entry → Bool
is_there e = not (bytes_eq e.name [])

-- the entry of a name
abbrev pub named : List Entry → List ℕ → Option Entry
named [] name = None
named (e ∷ es) name = if bytes_eq e.name name then Some e else named es name

-- what stands at a place next: what is wanted of the account that stands there, or nobody
abbrev pub next_at : List Entry → Entry → Entry
next_at wanted e = if is_there e then elim (named wanted e.name) [ None ↦ nobody | Some w ↦ w ] else nobody

-- whether the account of a place is to have another key, or none
abbrev pub is_rekeyed : List Entry → Entry → Bool
is_rekeyed wanted e = is_there e && elim (named wanted e.name) [ None ↦ false | Some w ↦ not (bytes_eq w.key e.key) ]

abbrev pub is_removed : List Entry → Entry → Bool
is_removed wanted e = is_there e && not (is_some (named wanted e.name))

-- those that are wanted and have no place
abbrev pub newcomers : List Entry → List Entry → List Entry
newcomers now wanted = filter (λ w. not (is_some (named now w.name))) wanted

-- the numbers of the places whose entries pass a test, the first of which has this number
abbrev pub places_where : (Entry → Bool) → ℕ → List Entry → List ℕ
places_where test n [] = []
places_where test n (e ∷ es) = if test e then n ∷ places_where test (n + 1) es else places_where test (n + 1) es

-- one number more, if there is
abbrev pub put_if : Bool → ℕ → List ℕ → List ℕ
put_if is n ns = if is then ns ++ n ∷ [] else ns

-- one entry more, if there is
abbrev pub entry_if : Bool → Entry → List Entry → List Entry
entry_if is e es = if is then es ++ e ∷ [] else es

-- what stands at the next place is taken over
pub record IsTakenOver (wanted : List Entry) (e : Entry) (old new : NextKeys) : Type 0 where
  pub keys : entries_view new.keys.items ≡ entries_view old.keys.items ++ next_at wanted e ∷ []
  pub rekeyed : new.rekeyed.items ≡ put_if (is_rekeyed wanted e) (length old.keys.items) old.rekeyed.items
  pub removed : new.removed.items ≡ put_if (is_removed wanted e) (length old.keys.items) old.removed.items
  pub added : new.added.items ≡ old.added.items

-- one comes, if there is a place for it
pub record IsAdded (places : ℕ) (e : Entry) (old new : NextKeys) : Type 0 where
  pub keys : entries_view new.keys.items ≡ entry_if (nat_lt (length old.keys.items) places) e (entries_view old.keys.items)
  pub rekeyed : new.rekeyed.items ≡ old.rekeyed.items
  pub removed : new.removed.items ≡ old.removed.items
  pub added : new.added.items ≡ put_if (nat_lt (length old.keys.items) places) (length old.keys.items) old.added.items

-- one that is wanted comes, or has its place already
abbrev pub IsAddedIf : Bool → ℕ → Entry → NextKeys → NextKeys → Type 0
IsAddedIf true places e old new = IsAdded places e old new
IsAddedIf false places e old new = new ≡ old

-- each account that stays has its place, those that come have the places after them, and nobody has the place of another
pub record AreBrought (now wanted come : List Entry) (next : NextKeys) : Type 0 where
  pub keys : entries_view next.keys.items ≡ map (next_at wanted) now ++ come
  pub rekeyed : next.rekeyed.items ≡ places_where (is_rekeyed wanted) 0 now
  pub removed : next.removed.items ≡ places_where (is_removed wanted) 0 now
  pub added : next.added.items ≡ places_where (λ e. true) (length now) come

-- the next edition, if these accounts are wanted and there are so many places: of those that come, as many as there are places for
abbrev pub IsNext : List Entry → List Entry → ℕ → NextKeys → Type 0
IsNext now wanted places next = AreBrought now wanted (take (places - length now) (newcomers now wanted)) next
