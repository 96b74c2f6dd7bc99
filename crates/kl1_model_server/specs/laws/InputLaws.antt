-- What holds of the inputs of a stream: they don't depend on the pieces in which it comes.
use Rattle.std.specs.Prelude.{◌≡◌, ℕ, List, [], ◌∷◌, ◌++◌}
use Rattle.kl1_model.specs.declared.rules.Rules.{Rules}
use Rattle.kl1_model_server.specs.Cut.{Cut, cut_of}
use Rattle.kl1_model_server.specs.Inputs.{inputs, rest}

-- a cut, and then what its rest and more bytes ask for
abbrev pub cut_after : Cut → List ℕ → Cut
cut_after c bytes = record { requests = c.requests ++ (cut_of (c.rest ++ bytes)).requests; rest = (cut_of (c.rest ++ bytes)).rest }

-- the cut of a stream that comes in two pieces is that of the first, and then that of its rest with the second
abbrev pub CutsAnywhere : Type 0
CutsAnywhere = (p q : List ℕ) → cut_of (p ++ q) ≡ cut_after (cut_of p) q

-- a cut, and then what pieces ask for that come one after another
abbrev pub cut_in_pieces : Cut → List (List ℕ) → Cut
cut_in_pieces c [] = c
cut_in_pieces c (p ∷ ps) = cut_in_pieces (cut_after c p) ps

-- pieces, one after another
abbrev pub joined : List (List ℕ) → List ℕ
joined [] = []
joined (p ∷ ps) = p ++ joined ps

-- the cut of a stream is the same in whatever pieces it comes
abbrev pub CutsInPieces : Type 0
CutsInPieces = (pieces : List (List ℕ)) → cut_in_pieces (cut_of []) pieces ≡ cut_of (joined pieces)

-- the inputs of a stream that comes in two pieces are those of the first, and then those of its rest with the second; and so is its rest
pub record InputsCutAnywhere : Type 0 where
  pub inputs_after : (rules : Rules) (p q : List ℕ) → inputs rules (p ++ q) ≡ inputs rules p ++ inputs rules (rest p ++ q)
  pub rest_after : (p q : List ℕ) → rest (p ++ q) ≡ rest (rest p ++ q)
