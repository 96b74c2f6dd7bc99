-- Pauses after wrong keys.
use Rattle.std.specs.Prelude.{◌≡◌, ◌≤◌, ◌⊎◌, ℕ, suc, ◌+◌, ◌-◌, ◌==◌, nat_lt, max, if◌then◌else◌, List, [], ◌∷◌, length, take, bytes_eq, Option, Some, None}
use Rattle.kl1_host_front.specs.declared.wrong_keys.TheConstants.{FORGOTTEN_AFTER, LONGEST_PAUSE, MOST_COUNTED, MOST_REMEMBERED}
use Rattle.kl1_host_front.specs.declared.wrong_keys.Wrong.{Wrong}
use Rattle.kl1_host_front.specs.declared.wrong_keys.Pauses.{Pauses}
use Rattle.kl1_host_front.specs.declared.wrong_keys.Trier.{Trier}
use Rattle.kl1_session.specs.Files.{Entry}

-- the wrong keys that are remembered
abbrev pub wrongs_in : Pauses → List Wrong
wrongs_in p = p.wrongs.items

-- how many wrong keys in a row were tried for `who`; those after which for ten minutes no other came are forgotten
abbrev pub count_of : List Wrong → ℕ → ℕ → ℕ
count_of [] who now = 0
count_of (w ∷ ws) who now = if w.who == who then (if nat_lt (now - w.last) FORGOTTEN_AFTER then w.count else 0) else count_of ws who now

-- whoever isn't `who` has as many wrong keys in a row as before
abbrev pub OthersStay : ℕ → List Wrong → List Wrong → Type 0
OthersStay who before after = (other : ℕ) → (now : ℕ) → (other ≡ who → ⊥) → count_of after other now ≡ count_of before other now

-- whoever isn't `who` has as many as before; or, if as many are remembered as can be, all but the last have, whose wrong key is the oldest
abbrev pub OthersMayBeFewer : ℕ → List Wrong → List Wrong → Type 0
OthersMayBeFewer who before after = OthersStay who before after ⊎ ((MOST_REMEMBERED ≤ length before) × OthersStay who (take (length before - 1) before) after)

-- one wrong key more: beyond a number they count as that
abbrev pub one_more : ℕ → ℕ
one_more n = if nat_lt n MOST_COUNTED then n + 1 else MOST_COUNTED

-- the pause after so many wrong keys, in milliseconds: it begins with 100, and doubles up to the longest
abbrev pub pause_after : ℕ → ℕ
pause_after n =
    if n == 0 then 0
    else if n == 1 then 100
    else if n == 2 then 200
    else if n == 3 then 400
    else if n == 4 then 800
    else if n == 5 then 1600
    else if n == 6 then 3200
    else if n == 7 then 6400
    else LONGEST_PAUSE

-- ---- who tries a key: from an address, for an account if the name is one's

-- the number of the account of a name among these, counted from n on
abbrev pub account_from : ℕ → List ℕ → List Entry → Option ℕ
account_from n name [] = None
account_from n name (e ∷ es) = if bytes_eq e.name name then Some n else account_from (suc n) name es

-- who tries a key by a name, from an address, at the accounts with these entries
abbrev pub trier_of : ℕ → List Entry → List ℕ → Trier
trier_of address entries name = record { address = address; account = account_from 0 name entries }

-- how long a trier has to wait: as long as the wrong keys from the address say, or those for the account if that is longer
abbrev pub pause_for : List Wrong → Trier → ℕ → ℕ
pause_for wrongs trier now = elim trier.account [
  | None ↦ pause_after (count_of wrongs trier.address now)
  | Some account ↦ max (pause_after (count_of wrongs trier.address now)) (pause_after (count_of wrongs account now))
]

-- one wrong key more of `who`
pub record IsNoted (who now : ℕ) (before after : List Wrong) : Type 0 where
  pub counted : count_of after who now ≡ one_more (count_of before who now)
  pub others : OthersMayBeFewer who before after

-- the wrong keys of `who` are forgotten
pub record IsForgotten (who : ℕ) (before after : List Wrong) : Type 0 where
  pub forgotten : (now : ℕ) → count_of after who now ≡ 0
  pub others : OthersStay who before after

-- the same of an account, if there is one
abbrev pub IsNotedFor : Option ℕ → ℕ → List Wrong → List Wrong → Type 0
IsNotedFor None now before after = after ≡ before
IsNotedFor (Some account) now before after = IsNoted account now before after

abbrev pub IsForgottenFor : Option ℕ → List Wrong → List Wrong → Type 0
IsForgottenFor None before after = after ≡ before
IsForgottenFor (Some account) before after = IsForgotten account before after

-- a wrong key of a trier counts for the address and for the account, and a good one lets those of both be forgotten
abbrev pub NotesWrong : Trier → ℕ → List Wrong → List Wrong → Type 0
NotesWrong trier now before after = (middle : List Wrong) × IsNoted trier.address now before middle × IsNotedFor trier.account now middle after

abbrev pub Forgives : Trier → List Wrong → List Wrong → Type 0
Forgives trier before after = (middle : List Wrong) × IsForgotten trier.address before middle × IsForgottenFor trier.account middle after
