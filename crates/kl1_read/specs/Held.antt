-- Names in little room.
use Rattle.std.specs.Prelude.{ℕ, List}
use Rattle.kl1_text.specs.Words.{bytes_in, HoldsName}
use Rattle.kl1_read.specs.declared.spelling.Held.{Held}
use Rattle.kl1_read.specs.declared.spelling.Held.TheVariants.{Short, Long}

-- the name that is held
abbrev pub text_held : Held → List ℕ
text_held (Short w) = bytes_in 8 w
text_held (Long b) = b.value

-- what is held holds a name
abbrev pub IsHeld : Held → Type 0
IsHeld (Short w) = HoldsName w
IsHeld (Long b) = Unit {0}
