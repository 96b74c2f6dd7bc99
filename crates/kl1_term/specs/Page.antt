-- Texts that are cut.
use Rattle.std.specs.Prelude.{ℕ, nat_lt, Bool, false, List, ◌++◌, length, Option, Some, None}
use Rattle.kl1_model.specs.Print.{cut_text}
use Rattle.kl1_term.specs.declared.page.Page.{Page}

-- a text cut after `most` bytes, if there is such a number
abbrev pub limited : Option ℕ → List ℕ → List ℕ
limited None text = text
limited (Some most) text = cut_text most text

-- the text of a page on which this is still to be put
abbrev pub page_text : Page → List ℕ → List ℕ
page_text p rest = limited p.most (p.bytes.items ++ rest)

-- whether `n` bytes are more than a text is to have
abbrev pub is_longer : Option ℕ → ℕ → Bool
is_longer None n = false
is_longer (Some most) n = nat_lt most n

-- whether a page has more bytes than its text is to have
abbrev pub is_over : Page → Bool
is_over p = is_longer p.most (length p.bytes.items)
