use Rattle.std.proofs.Common.{◌≡◌, ℕ, ◌∙◌, sym, subst}
use Rattle.kl1_command.specs.declared.command.Command.{Command}
use Rattle.kl1_command.specs.Commands.{command_view}
use Rattle.kl1_pool.specs.Counted.{room_in}
use Rattle.kl1_pool.specs.Names.{called_at}
use Rattle.kl1_pool.specs.Memory.{IsGivenWithin}
use Rattle.kl1_pool.proofs.Answering.{given}
use Rattle.kl1_pool.proofs.pool_account.PoolAccount.perform.Goals as goal

pub invariant_of-result : goal.invariant_of-result
invariant_of-result g c =
    let rules = g.K.PoolIds.rules in
    let names = g.N.Names.names in
    let most = g.K.PoolIds.most_bytes in
    let old = c.args.self.now in
    let p = c.performed-performed.result in
    let account : old.book.account ≡ c.of.result.value = sym (c.of.ensures ∙ c.account-account.ensures) in
    let command : c.args.command.now ≡ c.of-2.result.value = sym c.of-2.ensures in
    let answers : IsGivenWithin rules (called_at names old.book.account) most (command_view c.args.command.now) p =
    given rules (called_at names old.book.account) most (room_in old.book) old.held c.performed-performed.new.self.held (command_view c.args.command.now) p c.requires.within c.shows_counts.ensures.kept c.shows_counts.ensures.rules c.requires.named c.shows_counts-2.ensures.names c.performed-performed.ensures.before c.performed-performed.ensures.does in
    subst (λ (x : Command). IsGivenWithin rules (called_at names c.of.result.value) most (command_view x) p) command (subst (λ (k : ℕ). IsGivenWithin rules (called_at names k) most (command_view c.args.command.now) p) account answers)
