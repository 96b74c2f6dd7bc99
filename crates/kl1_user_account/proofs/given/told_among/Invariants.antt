use Rattle.std.proofs.Common.{◌≡◌, ◌≤◌, take}
use Rattle.kl1_user_account.specs.Giving.{AreToldAmong}
use Rattle.kl1_user_account.proofs.given.told_among.Given as goal

-- what the variables so far come to
abbrev pub invariant-loop-number : goal.invariant-loop-number
invariant-loop-number l = record {
  place : l.place ≡ l.number-index;
  few : l.new ≤ l.number-index;
  so : AreToldAmong l.store.held l.asked (take l.number-index l.numbers) l.told.items l.new l.tells_gone;
}
