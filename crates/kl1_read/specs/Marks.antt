-- Signs that part what is read.
use Rattle.std.specs.Prelude.{List, Option}
use Rattle.kl1_model.specs.declared.sign.Sign.{Sign}
use Rattle.kl1_model.specs.declared.sign.Sign.TheVariants as sign
use Rattle.kl1_model.specs.Grammar.{Numbered}
use Rattle.kl1_model.specs.reader.Reader.{behind_comma, behind_open, behind_close, behind_close_list, behind_bar, behind_colon, behind_neck, behind_at}
use Rattle.kl1_read.specs.declared.mark.Mark.{Mark}
use Rattle.kl1_read.specs.declared.mark.Mark.TheVariants.{Comma, Open, Close, CloseList, Bar, Colon, Neck, At}

-- the sign of a mark
abbrev pub sign_of : Mark → Sign
sign_of Comma = sign.Comma
sign_of Open = sign.Open
sign_of Close = sign.Close
sign_of CloseList = sign.CloseList
sign_of Bar = sign.Bar
sign_of Colon = sign.Colon
sign_of Neck = sign.Neck
sign_of At = sign.At

-- what is after a mark in front
abbrev pub behind_mark : Mark → List Numbered → Option (List Numbered)
behind_mark Comma ts = behind_comma ts
behind_mark Open ts = behind_open ts
behind_mark Close ts = behind_close ts
behind_mark CloseList ts = behind_close_list ts
behind_mark Bar ts = behind_bar ts
behind_mark Colon ts = behind_colon ts
behind_mark Neck ts = behind_neck ts
behind_mark At ts = behind_at ts
