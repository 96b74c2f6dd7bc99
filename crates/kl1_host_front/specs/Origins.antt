-- Where a page comes from, as a browser tells it.
use Rattle.std.specs.Prelude.{ℕ, ◌==◌, if◌then◌else◌, List, [], ◌∷◌, length, take, drop, codes, bytes_eq, Option, Some, None, option_and_then}
use Rattle.std.specs.List.{list_any}

-- what is behind a front, if that front is there
abbrev pub behind : List ℕ → List ℕ → Option (List ℕ)
behind front text = if bytes_eq (take (length front) text) front then Some (drop (length front) text) else None

-- a name, if something is there, and no `/`
abbrev pub as_name : List ℕ → Option (List ℕ)
as_name [] = None
as_name (b ∷ bs) = if list_any (λ x. x == 47) (b ∷ bs) then None else Some (b ∷ bs)

-- what is behind the scheme of an origin, of which this is what is behind `https://`
abbrev pub behind_scheme : Option (List ℕ) → List ℕ → Option (List ℕ)
behind_scheme None origin = behind (codes "http://") origin
behind_scheme (Some name) origin = Some name

-- the host of an origin: what is behind `https://` or `http://`, if it is a name
abbrev pub host_of : List ℕ → Option (List ℕ)
host_of origin = option_and_then as_name (behind_scheme (behind (codes "https://") origin) origin)
