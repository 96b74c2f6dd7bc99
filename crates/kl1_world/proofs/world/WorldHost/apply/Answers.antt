use Rattle.std.proofs.Common.{◌≡◌, ap}
use Rattle.std.specs.Prelude.{IfOk}
use Rattle.kl1_model_server.specs.Journal.{done}
use Rattle.kl1_user_events.specs.Views.{event_of, reply_of}
use Rattle.kl1_journal.specs.Keeping.{Reading, Fits, kept_of}
use Rattle.kl1_world.proofs.Steps.{hosted, beside_same}
use Rattle.kl1_world.proofs.world.WorldHost.apply.Goals as goal

pub returns-clause-step : goal.returns-clause-step
returns-clause-step g c =
    hosted (λ a b. IfOk c.apply_at-2.result (λ reply. (f : Reading) → Fits b.0.names f → done (kept_of f a) (event_of c.args.event.now) ≡ record { kept = kept_of f b; reply = reply_of reply }))
    c.args.self.now c.apply_at-2.new.self c.apply_at.inside.at (ap (λ p. p.1) c.apply_at.view_is) c.apply_at-2.ensures.at c.apply_at-2.ensures.step

pub returns-clause-beside : goal.returns-clause-beside
returns-clause-beside g c = beside_same c.args.self.now c.apply_at-2.new.self c.apply_at.inside.at (ap (λ p. p.1) c.apply_at.view_is) c.apply_at-2.ensures.at c.apply_at-2.ensures.others
