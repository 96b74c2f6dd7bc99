-- Terms that were read.
use Rattle.std.specs.Prelude.{List, [], ◌∷◌, Option, Some, None, Vec, map}
use Rattle.std.specs.Borrow.{Bor}
use Rattle.std.specs.declared.alloc.Global.{Global}
use Rattle.kl1_model.specs.Term.{Term}
use Rattle.kl1_model.specs.Grammar as grammar
use Rattle.kl1_model.specs.reader.Reader.{Answer}
use Rattle.kl1_read.specs.declared.numbered.Numbered.{Numbered}
use Rattle.kl1_read.specs.Views.{numbered_token}

-- terms with what is after them
abbrev pub series_view : Option (Vec Term Global × Bor (List Numbered)) → Answer (List Term)
series_view None = None
series_view (Some r) = Some (r.0.items, map numbered_token r.1.now)

-- the only one of terms
abbrev pub only : List Term → Option Term
only [] = None
only (t ∷ []) = Some t
only (t ∷ u ∷ ts) = None

-- the only one of terms, if nothing is after them
abbrev pub only_before : List Term → List grammar.Numbered → Option Term
only_before ts [] = only ts
only_before ts (u ∷ us) = None

-- the only term that was read, if nothing is after it
abbrev pub single : Answer (List Term) → Option Term
single None = None
single (Some r) = only_before r.0 r.1
