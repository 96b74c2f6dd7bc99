use Rattle.std.proofs.Common.{◌≡◌, ap, sym, ◌∙◌, subst}
use Rattle.std.specs.Prelude.{IfOk}
use Rattle.kl1_model_server.specs.JournalText.{page_of}
use Rattle.kl1_journal.specs.Keeping.{Held}
use Rattle.kl1_world.specs.Worlds.{account_in}
use Rattle.kl1_world.proofs.Seated.{accounts_of, as_many, stands, account_at}
use Rattle.kl1_world.proofs.world.World.journal_at.Goals as goal

pub returns : goal.returns
returns g c =
    let xs = c.self.inside.accounts.items in
    let n = c.args.account in
    let x = c.index-kept.result.now in
    let view : accounts_of xs ≡ c.args.self.now.0 = ap (λ p. p.0) c.self.view_is in
    let less = as_many xs c.args.self.now.0 n view c.requires in
    let at = stands xs n x less c.index-kept.ensures in
    subst (λ (a : Held). IfOk c.journal.result (λ lines. lines ≡ page_of a.1 c.args.from c.args.count)) (sym (account_at xs n x at) ∙ ap (λ us. account_in us n) view) c.journal.ensures
