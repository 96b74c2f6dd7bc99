use Rattle.std.proofs.Common.{◌≡◌, ◌++◌, length, map, take, option_map}
use Rattle.kl1_command.specs.Replies.{written_after}
use Rattle.kl1_command.proofs.replies.put_texts.Given as goal

-- the bytes, and the lines of the texts that are left, are all that is to be put
abbrev pub invariant-loop-rest : goal.invariant-loop-rest
invariant-loop-rest l = record {
  puts : l.out.items ++ written_after (option_map (λ word. word.now) l.fn.prefix) (map (λ text. text.items) l.rest) ≡ l.fn.out.items ++ written_after (option_map (λ word. word.now) l.fn.prefix) (map (λ text. text.items) l.texts);
  kept : take (length l.fn.out.items) l.out.items ≡ l.fn.out.items;
}

abbrev pub decreases-loop-rest : goal.decreases-loop-rest
decreases-loop-rest l = length l.rest
