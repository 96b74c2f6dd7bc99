-- The fields of a request's head.
use Rattle.std.specs.Prelude.{ℕ, Bool, true, ◌&&◌, if◌then◌else◌, List, [], ◌∷◌, map, bytes_eq, codes, Option, Some, None, is_none}
use Rattle.std.specs.Char.{to_ascii_lowercase}
use Rattle.kl1_host_door.specs.declared.field.Field.{Field}

-- whether a field has this name; small and capital letters are the same
abbrev pub is_named : List ℕ → Field → Bool
is_named name f = bytes_eq (map to_ascii_lowercase f.name.items) (map to_ascii_lowercase name)

-- the value of the first field of this name
abbrev pub value_of : List ℕ → List Field → Option (List ℕ)
value_of name [] = None
value_of name (f ∷ fs) = if is_named name f then Some f.value.items else value_of name fs

-- whether at most one field has this name
abbrev pub is_single : List ℕ → List Field → Bool
is_single name [] = true
is_single name (f ∷ fs) = if is_named name f then is_none (value_of name fs) else is_single name fs

-- whether none of the fields by which a request is let in, and by which its body is found, stands twice
abbrev pub are_single : List Field → Bool
are_single fields =
    is_single (codes "host") fields && is_single (codes "origin") fields && is_single (codes "cookie") fields
    && is_single (codes "x-kl1-token") fields && is_single (codes "content-length") fields && is_single (codes "transfer-encoding") fields
