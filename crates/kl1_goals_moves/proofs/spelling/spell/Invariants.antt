-- the rest of the list spells after the text so far what the whole list spells
use Rattle.std.proofs.Common.{◌≡◌, ◌+◌, true, length}
use Rattle.std.specs.List.{list_all}
use Rattle.kl1_model.specs.Text.{is_name_byte}
use Rattle.kl1_model.specs.State.{most_spelled}
use Rattle.kl1_store.specs.Held.{IsIn}
use Rattle.kl1_goals_moves.proofs.CodeLists.{SpellsOn}
use Rattle.kl1_goals_moves.proofs.spelling.spell.Given as goal

abbrev pub invariant-codes : goal.invariant-codes
invariant-codes g l = record {
  rest_in : IsIn l.store.held l.rest;
  count : length l.text + l.left ≡ most_spelled l.fn.rules;
  bytes : list_all is_name_byte l.text ≡ true;
  value : SpellsOn g.N.NameValue.built l.store.held (most_spelled l.fn.rules) l.text l.left l.rest l.fn.codes;
}

abbrev pub decreases-codes : goal.decreases-codes
decreases-codes g l = l.left
