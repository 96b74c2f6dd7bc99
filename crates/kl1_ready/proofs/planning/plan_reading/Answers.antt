use Rattle.kl1_ready.proofs.Words.{◌≡◌, List, Bool, true, false, if◌then◌else◌, refl, sym, ap, ◌∙◌, Some, None, option_copied, CellName, Shoen, shoen_in, found_shoen_in, Program, Made, Reading, Reads, built, reads, control_as, CanDo}
use Rattle.kl1_ready.proofs.Plans.{monitor_does, monitor_takes, monitor_reads}
use Rattle.kl1_ready.proofs.planning.plan_reading.Goals.{After-is_read}
use Rattle.kl1_ready.proofs.planning.plan_reading.Goals as goal

pub returns-then-clause-ne0 : goal.returns-then-clause-ne0
returns-then-clause-ne0 c program w places text shoens f judges s is =
    monitor_does program c.args.store.now.held w c.args.clause c.args.goal f (shoen_in c.args.goal.shoen w.shoens) c.requires.monitor refl s is ∙ monitor_takes _ c.args.clause c.if-clause-ne0.true

pub returns-in_default : goal.returns-in_default
returns-in_default c program w places text shoens f judges =
    monitor_does program c.args.store.now.held w c.args.clause c.args.goal f None c.requires.monitor (ap (λ (ss : List (Shoen CellName)). shoen_in c.args.goal.shoen ss) shoens ∙ sym c.lend.ensures.value ∙ ap option_copied c.in_default.is)

pub read_control-control-requires : goal.read_control-control-requires
read_control-control-requires c =
    (found_shoen_in c.args.store.now.held c.args.goal.shoen c.args.shoens.now.shoens c.in-Some.shoen.now c.requires.shoens (sym c.lend.ensures.value ∙ ap option_copied c.in-Some.is)).control

-- what the monitor does, whether it reads what stands before it or not
does : (c : After-is_read) (program : Program) (w : Made) (b : Bool) (f : Reading) → w.shoens ≡ c.args.shoens.now.shoens → c.is_read.result ≡ b → Reads built f →
    CanDo program c.args.store.now.held w c.args.goal c.args.clause f (if b then Some (reads (control_as f c.args.store.now.held c.read_control-control.result)) else None)
does c program w b f shoens e knows s is =
    let h = c.args.store.now.held in
    let found = ap (λ (ss : List (Shoen CellName)). shoen_in c.args.goal.shoen ss) shoens ∙ sym c.lend.ensures.value ∙ ap option_copied c.in-Some.is in
    monitor_does program h w c.args.clause c.args.goal f (Some c.in-Some.shoen.now) c.requires.monitor found s is
    ∙ monitor_reads f h c.in-Some.shoen.now c.args.clause c.read_control-control.result b c.if-clause-ne0.false (c.read_control-control.ensures.reads f knows) (sym c.is_read.ensures ∙ e)

pub returns-then-not-is_read : goal.returns-then-not-is_read
returns-then-not-is_read c program w places text shoens f judges = does (goal.at.returns-then-not-is_read c).After-is_read program w false f shoens c.if-not-is_read.true judges.knows.reads

pub returns : goal.returns
returns c program w places text shoens = record {
  monitor = c.requires.monitor;
  inside = c.read_control-control.ensures.inside;
  does = λ f judges. does (goal.at.returns c).After-is_read program w true f shoens c.if-not-is_read.false judges.knows.reads;
}
