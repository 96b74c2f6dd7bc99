use Rattle.std.proofs.Common.{◌≡◌, ℕ, List, length, sym, ap, ◌∙◌, subst}
use Rattle.kl1_command.specs.Commands.{command_view}
use Rattle.kl1_command.specs.Performing.{Performs, IsUntouched}
use Rattle.kl1_journal.specs.Keeping.{Reading, Fits}
use Rattle.kl1_journal.specs.Keeping.{Held, kept_of}
use Rattle.kl1_world.specs.Worlds.{account_in, all_but}
use Rattle.kl1_world.proofs.Seated.{accounts_of}
use Rattle.kl1_world.proofs.Steps.{untouched_first, as_many_but, same_but}
use Rattle.kl1_world.proofs.world.World.perform.Goals as goal

pub returns-clause-does : goal.returns-clause-does
returns-clause-does g c =
    let n = c.args.account in
    let new = c.perform.new.host.0 in
    let same : c.perform.new.host.1 ≡ n = ap (λ p. p.1) c.perform.ensures.beside in
    let P : ℕ → Type 0 = λ m. (f : Reading) → Fits (account_in new m).0.names f → Performs (kept_of f (account_in (accounts_of c.self.inside.accounts.items) n)) (command_view c.args.command.now) c.perform.result (kept_of f (account_in new m)) in
    let Q : List Held → Type 0 = λ us. (f : Reading) → Fits (account_in new n).0.names f → Performs (kept_of f (account_in us n)) (command_view c.args.command.now) c.perform.result (kept_of f (account_in new n)) in
    subst Q (ap (λ p. p.0) c.self.view_is) (subst P same c.perform.ensures.does)

pub returns-clause-memory : goal.returns-clause-memory
returns-clause-memory g c =
    subst (λ (us : List Held). IsUntouched c.perform.result us c.perform.new.host.0) (ap (λ p. p.0) c.self.view_is)
    (untouched_first c.perform.result (accounts_of c.self.inside.accounts.items, c.args.account) c.perform.new.host c.perform.ensures.memory)

pub returns-clause-before : goal.returns-clause-before
returns-clause-before g c =
    let n = c.args.account in
    let new = c.perform.new.host.0 in
    let same : c.perform.new.host.1 ≡ n = ap (λ p. p.1) c.perform.ensures.beside in
    let P : ℕ → Type 0 = λ m. (f : Reading) → Fits (account_in new m).0.names f → Fits (account_in (accounts_of c.self.inside.accounts.items) n).0.names f in
    let Q : List Held → Type 0 = λ us. (f : Reading) → Fits (account_in new n).0.names f → Fits (account_in us n).0.names f in
    subst Q (ap (λ p. p.0) c.self.view_is) (subst P same c.perform.ensures.before)

pub returns-clause-others : goal.returns-clause-others
returns-clause-others g c = λ u apart.
    let n = c.args.account in
    let new = c.perform.new.host.0 in
    let same : c.perform.new.host.1 ≡ n = ap (λ p. p.1) c.perform.ensures.beside in
    let left : all_but n new ≡ all_but n (accounts_of c.self.inside.accounts.items) = ap (λ m. all_but m new) (sym same) ∙ ap (λ p. p.0) c.perform.ensures.beside in
    same_but (accounts_of c.self.inside.accounts.items) new n u left apart ∙ ap (λ p. account_in p.0 u) c.self.view_is

pub returns-clause-many : goal.returns-clause-many
returns-clause-many g c =
    let n = c.args.account in
    let new = c.perform.new.host.0 in
    let same : c.perform.new.host.1 ≡ n = ap (λ p. p.1) c.perform.ensures.beside in
    let left : all_but n new ≡ all_but n (accounts_of c.self.inside.accounts.items) = ap (λ m. all_but m new) (sym same) ∙ ap (λ p. p.0) c.perform.ensures.beside in
    as_many_but (accounts_of c.self.inside.accounts.items) new n left ∙ ap (λ (p : List Held × ℕ). length p.0) c.self.view_is
