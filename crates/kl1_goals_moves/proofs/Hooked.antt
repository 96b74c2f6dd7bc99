-- Numbers that hang on the variables of two lists.
use Rattle.std.proofs.Common.{ℕ, List}
use Rattle.kl1_store.specs.Hooks.{Hook}
use Rattle.kl1_match.specs.Waiting.{AreSame}
use Rattle.kl1_store_hooks.specs.Hanging.{HangsOnEach}
use Rattle.kl1_store_hooks.proofs.Hooked.{each_of}

-- a number that hangs on each of some variables hangs on each of them in another list
pub hangs_on_same : (hooks : List Hook) (n : ℕ) (vs ws : List ℕ) → AreSame vs ws → HangsOnEach hooks n vs → HangsOnEach hooks n ws
hangs_on_same hooks n vs ws s h = each_of hooks n vs ws (λ v. (s.each v).1) h
