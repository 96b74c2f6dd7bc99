use Rattle.std.proofs.Common.{◌≡◌, ap, sym, ◌∙◌, subst}
use Rattle.kl1_atoms.specs.Names.{AreNames}
use Rattle.kl1_journal.specs.Keeping.{Held, IsKept}
use Rattle.kl1_world.specs.Worlds.{account_in}
use Rattle.kl1_world.proofs.Seated.{accounts_of, as_many, stands, account_at}
use Rattle.kl1_world.proofs.world.World.shows_names.Goals as goal

pub returns-clause-names : goal.returns-clause-names
returns-clause-names g c =
    let xs = c.self.inside.accounts.items in
    let n = c.args.account in
    let x = c.index-kept.result.now in
    let view : accounts_of xs ≡ c.args.self.now.0 = ap (λ p. p.0) c.self.view_is in
    let less = as_many xs c.args.self.now.0 n view c.requires in
    let at = stands xs n x less c.index-kept.ensures in
    subst (λ (a : Held). AreNames a.0.names) (sym (account_at xs n x at) ∙ ap (λ us. account_in us n) view) c.shows_replay.ensures.names

pub returns-clause-kept : goal.returns-clause-kept
returns-clause-kept g c =
    let xs = c.self.inside.accounts.items in
    let n = c.args.account in
    let x = c.index-kept.result.now in
    let view : accounts_of xs ≡ c.args.self.now.0 = ap (λ p. p.0) c.self.view_is in
    let less = as_many xs c.args.self.now.0 n view c.requires in
    let at = stands xs n x less c.index-kept.ensures in
    subst (λ (a : Held). IsKept a) (sym (account_at xs n x at) ∙ ap (λ us. account_in us n) view) c.shows_replay.ensures.kept
