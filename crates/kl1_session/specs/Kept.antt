-- What a session keeps.
use Rattle.std.specs.Prelude.{ℕ, List}
use Rattle.kl1_session.specs.Going.{rest_of, IsKept}
use Rattle.kl1_session.specs.declared.session.Session.TheInside.{Inside}

-- the rest that a session stands for
abbrev pub rest_in : Inside → List ℕ
rest_in s = rest_of s.source s.kept.items

-- what is kept is no more than tells how the stream goes on
abbrev pub IsRest : Inside → Type 0
IsRest s = IsKept s.source s.kept.items
