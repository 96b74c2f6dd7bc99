use Rattle.kl1_ready.proofs.Words.{refl, sym, ap, Option, Some, None, option_map, Waits, IfOk-weaker, CellName, Shoen}
use Rattle.kl1_ready.proofs.SettledStays.{control_in}
use Rattle.kl1_ready.proofs.Ready.{no_control, ready_monitor}
use Rattle.kl1_ready.proofs.clauses.standing_of_monitor.Goals as goal

pub standing_of_control-requires : goal.standing_of_control-requires
standing_of_control-requires c =
    control_in c.args.store.now.held c.args.shoens.now.shoens c.args.shoen c.in-Some.found.now.control c.requires (sym (ap (λ (o : Option (Shoen CellName)). option_map (λ k. k.control) o) c.in-Some.ensures.value))

pub returns-in-None-clause-ready : goal.returns-in-None-clause-ready
returns-in-None-clause-ready c = λ ms.
    ready_monitor ms c.args.shoens.now.shoens c.args.store.now.held c.args.store.now.hooks c.args.number c.args.shoen None Waits (no_control c.args.shoens.now.shoens c.args.shoen c.in-None.ensures.value) (λ f reads. refl) (λ f reads. tt)

pub returns-in-Some-clause-ready : goal.returns-in-Some-clause-ready
returns-in-Some-clause-ready c =
    IfOk-weaker c.standing_of_control.result _ _
    (λ s hears ms.
    ready_monitor ms c.args.shoens.now.shoens c.args.store.now.held c.standing_of_control.new.store.hooks c.args.number c.args.shoen (Some c.in-Some.found.now.control) s
    (ap (λ (o : Option (Shoen CellName)). option_map (λ k. k.control) o) c.in-Some.ensures.value) hears.standing hears.hung)
    c.standing_of_control.ensures.ready
