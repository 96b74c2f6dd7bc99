-- Nodes that a text can write.
use Rattle.std.specs.Prelude.{nat_le, ◌&&◌, Bool, true}
use Rattle.std.proofs.Common.{inl, inr}
use Rattle.kl1_model.specs.Text.{is_text}
use Rattle.kl1_model.specs.code.TermCode.{NodeCode}
use Rattle.kl1_model.specs.Meaning.{is_word}
use Rattle.kl1_model.specs.declared.limits.TheConstants.{MOST_ARGUMENTS}

-- whether a node has a name of at most 127 bytes, an integer of 64 bits, and 1 to 8 arguments if it is a structure's
abbrev pub is_narrow_node : NodeCode → Bool
is_narrow_node (inl (inl n)) = true
is_narrow_node (inl (inr i)) = is_word i
is_narrow_node (inr (inl a)) = is_text a
is_narrow_node (inr (inr p)) = is_text p.0 && nat_le 1 p.1 && nat_le p.1 MOST_ARGUMENTS
