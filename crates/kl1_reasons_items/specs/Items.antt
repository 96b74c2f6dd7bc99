-- Where an item ends, whatever its bytes are.
use Rattle.std.specs.Prelude.{ℕ, ◌==◌, ◌-◌, ◌&&◌, ◌||◌, nat_eq, Bool, true, false, if◌then◌else◌, List, [], ◌∷◌, length, drop, codes}
use Rattle.std.specs.List.{starts_with}
use Rattle.kl1_model.specs.Token.{is_blank}
use Rattle.kl1_reasons_items.specs.declared.within.Within.{Within}
use Rattle.kl1_reasons_items.specs.declared.within.Within.TheVariants.{Plain, Quotes, Comment}

-- within what the byte after this one stands: a comment ends with its line, and so do quotes that it leaves open
abbrev pub within_behind : Within → ℕ → Within
within_behind Plain b = if b == 39 then Quotes else if b == 37 then Comment else Plain
within_behind Quotes b = if b == 39 || b == 10 then Plain else Quotes
within_behind Comment b = if b == 10 then Plain else Comment

-- whether bytes stand neither in quotes nor in a comment
abbrev pub is_plain : Within → Bool
is_plain Plain = true
is_plain Quotes = false
is_plain Comment = false

-- whether what is after a dot lets it end an item: a blank, a comment, or nothing
abbrev pub ends_before : List ℕ → Bool
ends_before [] = true
ends_before (b ∷ bs) = is_blank b || b == 37

-- what is after an item: it ends with its first dot in no quotes and no comment that may end it, or with the text
abbrev pub behind_item : Within → List ℕ → List ℕ
behind_item w [] = []
behind_item w (b ∷ bs) = if is_plain w && b == 46 && ends_before bs then bs else behind_item (within_behind w b) bs

-- what is after blanks and comments; `remark` says that a comment has begun
abbrev pub behind_blanks : Bool → List ℕ → List ℕ
behind_blanks remark [] = []
behind_blanks true (b ∷ bs) = if b == 10 then behind_blanks false bs else behind_blanks true bs
behind_blanks false (b ∷ bs) = if is_blank b then behind_blanks false bs else if b == 37 then behind_blanks true bs else b ∷ bs

-- what is after an `otherwise.` and blanks before it, if a text begins with them, or else the text
abbrev pub behind_otherwise : List ℕ → List ℕ
behind_otherwise bs =
    let rest = behind_blanks false bs in
    if starts_with nat_eq rest (codes "otherwise.") && ends_before (drop 10 rest) then drop 10 rest else bs

-- how much is given up after a bad item: it, and an `otherwise.` directly after it, since the clause before that one is not known
abbrev pub front_behind : List ℕ → ℕ → ℕ
front_behind text end = length text - length (behind_otherwise (drop end text))
