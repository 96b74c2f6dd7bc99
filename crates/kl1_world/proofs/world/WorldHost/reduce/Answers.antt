use Rattle.std.proofs.Common.{◌≡◌, List, ℕ, ap, sym, ◌∙◌, subst, refl}
use Rattle.std.specs.Prelude.{IfOk, slice_set}
use Rattle.kl1_model.specs.Event as model
use Rattle.kl1_model_server.specs.Journal.{done}
use Rattle.kl1_user_events.specs.Views.{reduced_or}
use Rattle.kl1_codes.specs.Numbered.{ArePlaced}
use Rattle.kl1_journal.specs.Keeping.{Reading, Fits}
use Rattle.kl1_journal.specs.Keeping.{Held, kept_of}
use Rattle.kl1_world.specs.Worlds.{account_in}
use Rattle.kl1_world.proofs.Seated.{accounts_of, stands, account_at, seated_set, changed_at, changed_all, changed_none}
use Rattle.kl1_world.proofs.Steps.{moved, on_err, still_within, beside_of, beside_same}
use Rattle.kl1_world.proofs.world.WorldHost.reduce.Goals as goal

pub reduce-requires-clause-of : goal.reduce-requires-clause-of
reduce-requires-clause-of g c =
    let xs = c.self.inside.accounts.items in
    let n = c.self.inside.at in
    let x = c.index_mut-kept.result.now in
    (c.self.invariant.0 n x (stands xs n x c.self.invariant.1 c.index_mut-kept.ensures.value)).0

pub reduce-requires-clause-placed : goal.reduce-requires-clause-placed
reduce-requires-clause-placed g c =
    let xs = c.self.inside.accounts.items in
    let n = c.self.inside.at in
    let x = c.index_mut-kept.result.now in
    (c.self.invariant.0 n x (stands xs n x c.self.invariant.1 c.index_mut-kept.ensures.value)).2

pub reduce-requires-clause-room : goal.reduce-requires-clause-room
reduce-requires-clause-room g c =
    let xs = c.self.inside.accounts.items in
    let n = c.self.inside.at in
    let x = c.index_mut-kept.result.now in
    (c.self.invariant.0 n x (stands xs n x c.self.invariant.1 c.index_mut-kept.ensures.value)).3

pub invariant_of-self : goal.invariant_of-self
invariant_of-self g c =
    let xs = c.self.inside.accounts.items in
    let n = c.self.inside.at in
    let x = c.index_mut-kept.result.now in
    let at = stands xs n x c.self.invariant.1 c.index_mut-kept.ensures.value in
    let y = c.reduce.new.self in
    let has = g.C.CodeSource.has c.self.inside.code_source in (
      seated_set g.A.AtomSource.is_of g.A.AtomSource.place has has c.self.inside.names c.reduce.new.names xs n x y
          c.self.invariant.0 at c.reduce.ensures.of c.reduce.ensures.place c.reduce.ensures.others (subst (ArePlaced has) (sym c.reduce.ensures.modules) (c.self.invariant.0 n x at).2) (λ p. (λ h. h, λ h. h)) c.reduce.ensures.rules,
      still_within xs n n y c.self.invariant.1,
    )

pub returns-clause-step : goal.returns-clause-step
returns-clause-step g c =
    let xs = c.self.inside.accounts.items in
    let n = c.self.inside.at in
    let x = c.index_mut-kept.result.now in
    let at = stands xs n x c.self.invariant.1 c.index_mut-kept.ensures.value in
    let y = c.reduce.new.self in
    let S : Held → Held → Type 0 = λ a b. IfOk c.reduce.result (λ refused. (f : Reading) → Fits b.0.names f → done (kept_of f a) (model.reduce c.args.goal.0 c.args.clause.0) ≡ record { kept = kept_of f b; reply = reduced_or refused }) in
    let P : List Held × ℕ → Type 0 = λ w. S (account_in w.0 w.1) (account_in (accounts_of (slice_set xs n y)) n) in
    subst P c.self.view_is (moved S x.1 y.1 (account_in (accounts_of xs) n) (account_in (accounts_of (slice_set xs n y)) n) (sym (account_at xs n x at)) (sym (changed_at xs n y c.self.invariant.1)) c.reduce.ensures.step)

pub returns-clause-err : goal.returns-clause-err
returns-clause-err g c =
    let xs = c.self.inside.accounts.items in
    let n = c.self.inside.at in
    let x = c.index_mut-kept.result.now in
    let at = stands xs n x c.self.invariant.1 c.index_mut-kept.ensures.value in
    let y = c.reduce.new.self in
    on_err c.reduce.result (y.1 ≡ x.1) ((accounts_of (slice_set xs n y), n) ≡ c.args.self.now)
    (λ same. ap (λ (us : List Held). (us, n)) (changed_none xs (accounts_of xs) n x y refl at same) ∙ c.self.view_is) c.reduce.ensures.err

pub returns-clause-before : goal.returns-clause-before
returns-clause-before g c = λ f fits.
    let xs = c.self.inside.accounts.items in
    let n = c.self.inside.at in
    let x = c.index_mut-kept.result.now in
    let at = stands xs n x c.self.invariant.1 c.index_mut-kept.ensures.value in
    let F : Held → Type 0 = λ a. Fits a.0.names f in
    let P : List Held × ℕ → Type 0 = λ w. F (account_in w.0 w.1) in
    subst P c.self.view_is (subst F (sym (account_at xs n x at)) (c.reduce.ensures.before f (subst F (changed_at xs n c.reduce.new.self c.self.invariant.1) fits)))

pub returns-clause-beside : goal.returns-clause-beside
returns-clause-beside g c =
    let xs = c.self.inside.accounts.items in
    let n = c.self.inside.at in
    let new : List Held × ℕ = (accounts_of (slice_set xs n c.reduce.new.self), n) in
    let P : List Held × ℕ → Type 0 = λ w. beside_of new ≡ beside_of w in
    subst P c.self.view_is (beside_same (accounts_of xs, n) new n refl refl (changed_all xs (accounts_of xs) n c.reduce.new.self refl c.self.invariant.1))
