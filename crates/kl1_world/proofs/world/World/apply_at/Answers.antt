use Rattle.std.proofs.Common.{◌≡◌, List, ap, sym, ◌∙◌, subst, refl}
use Rattle.std.specs.Prelude.{IfOk, slice_set}
use Rattle.kl1_model_server.specs.Journal.{done}
use Rattle.kl1_user_events.specs.Views.{event_of, reply_of}
use Rattle.kl1_journal.specs.Keeping.{Reading, Fits}
use Rattle.kl1_journal.specs.Keeping.{Held, kept_of}
use Rattle.kl1_world.specs.Worlds.{account_in}
use Rattle.kl1_world.proofs.Seated.{accounts_of, as_many, stands, account_at, seated_set, changed_at, changed_all, changed_none}
use Rattle.kl1_world.proofs.Steps.{moved, on_err, still_within}
use Rattle.kl1_world.proofs.world.World.apply_at.Goals as goal

pub apply-requires-clause-of : goal.apply-requires-clause-of
apply-requires-clause-of g c =
    let xs = c.self.inside.accounts.items in
    let n = c.args.account in
    let x = c.index_mut-kept.result.now in
    let view : accounts_of xs ≡ c.args.self.now.0 = ap (λ p. p.0) c.self.view_is in
    let less = as_many xs c.args.self.now.0 n view c.requires in
    let at = stands xs n x less c.index_mut-kept.ensures.value in
    (c.self.invariant.0 n x at).0

pub apply-requires-clause-placed : goal.apply-requires-clause-placed
apply-requires-clause-placed g c =
    let xs = c.self.inside.accounts.items in
    let n = c.args.account in
    let x = c.index_mut-kept.result.now in
    let view : accounts_of xs ≡ c.args.self.now.0 = ap (λ p. p.0) c.self.view_is in
    let less = as_many xs c.args.self.now.0 n view c.requires in
    let at = stands xs n x less c.index_mut-kept.ensures.value in
    (c.self.invariant.0 n x at).2

pub apply-requires-clause-room : goal.apply-requires-clause-room
apply-requires-clause-room g c =
    let xs = c.self.inside.accounts.items in
    let n = c.args.account in
    let x = c.index_mut-kept.result.now in
    let view : accounts_of xs ≡ c.args.self.now.0 = ap (λ p. p.0) c.self.view_is in
    let less = as_many xs c.args.self.now.0 n view c.requires in
    let at = stands xs n x less c.index_mut-kept.ensures.value in
    (c.self.invariant.0 n x at).3

pub invariant_of-self : goal.invariant_of-self
invariant_of-self g c =
    let xs = c.self.inside.accounts.items in
    let n = c.args.account in
    let x = c.index_mut-kept.result.now in
    let view : accounts_of xs ≡ c.args.self.now.0 = ap (λ p. p.0) c.self.view_is in
    let less = as_many xs c.args.self.now.0 n view c.requires in
    let at = stands xs n x less c.index_mut-kept.ensures.value in
    let y = c.apply.new.self in (
      seated_set g.A.AtomSource.is_of g.A.AtomSource.place (g.C.CodeSource.has c.self.inside.code_source) (g.C.CodeSource.has c.apply.new.codes) c.self.inside.names c.apply.new.names xs n x y
          c.self.invariant.0 at c.apply.ensures.of c.apply.ensures.place c.apply.ensures.others c.apply.ensures.placed c.apply.ensures.same c.apply.ensures.rules,
      still_within xs n c.self.inside.at y c.self.invariant.1,
    )

pub returns-clause-step : goal.returns-clause-step
returns-clause-step g c =
    let xs = c.self.inside.accounts.items in
    let n = c.args.account in
    let x = c.index_mut-kept.result.now in
    let view : accounts_of xs ≡ c.args.self.now.0 = ap (λ p. p.0) c.self.view_is in
    let less = as_many xs c.args.self.now.0 n view c.requires in
    let at = stands xs n x less c.index_mut-kept.ensures.value in
    let y = c.apply.new.self in
    moved (λ a b. IfOk c.apply.result (λ reply. (f : Reading) → Fits b.0.names f → done (kept_of f a) (event_of c.args.event.now) ≡ record { kept = kept_of f b; reply = reply_of reply }))
    x.1 y.1 (account_in c.args.self.now.0 n) (account_in (accounts_of (slice_set xs n y)) n) (sym (account_at xs n x at) ∙ ap (λ us. account_in us n) view) (sym (changed_at xs n y less)) c.apply.ensures.step

pub returns-clause-err : goal.returns-clause-err
returns-clause-err g c =
    let xs = c.self.inside.accounts.items in
    let n = c.args.account in
    let x = c.index_mut-kept.result.now in
    let view : accounts_of xs ≡ c.args.self.now.0 = ap (λ p. p.0) c.self.view_is in
    let less = as_many xs c.args.self.now.0 n view c.requires in
    let at = stands xs n x less c.index_mut-kept.ensures.value in
    let y = c.apply.new.self in
    on_err c.apply.result (y.1 ≡ x.1) ((accounts_of (slice_set xs n y), c.self.inside.at) ≡ c.args.self.now)
    (λ same. ap (λ (us : List Held). (us, c.self.inside.at)) (changed_none xs (accounts_of xs) n x y refl at same) ∙ c.self.view_is) c.apply.ensures.err

pub returns-clause-others : goal.returns-clause-others
returns-clause-others g c =
    let xs = c.self.inside.accounts.items in
    let n = c.args.account in
    let x = c.index_mut-kept.result.now in
    let view : accounts_of xs ≡ c.args.self.now.0 = ap (λ p. p.0) c.self.view_is in
    let less = as_many xs c.args.self.now.0 n view c.requires in
    let at = stands xs n x less c.index_mut-kept.ensures.value in
    changed_all xs c.args.self.now.0 n c.apply.new.self view less

pub returns-clause-before : goal.returns-clause-before
returns-clause-before g c = λ f fits.
    let xs = c.self.inside.accounts.items in
    let n = c.args.account in
    let x = c.index_mut-kept.result.now in
    let view : accounts_of xs ≡ c.args.self.now.0 = ap (λ p. p.0) c.self.view_is in
    let less = as_many xs c.args.self.now.0 n view c.requires in
    let at = stands xs n x less c.index_mut-kept.ensures.value in
    let P : Held → Type 0 = λ a. Fits a.0.names f in
    subst P (sym (account_at xs n x at) ∙ ap (λ us. account_in us n) view) (c.apply.ensures.before f (subst P (changed_at xs n c.apply.new.self less) fits))
