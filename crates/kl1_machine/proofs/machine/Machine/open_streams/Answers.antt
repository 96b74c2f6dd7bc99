use Rattle.kl1_machine.proofs.Words.{◌∙◌, Grown, Grown-variable}
use Rattle.kl1_machine.proofs.Sincing.{still, since_store}
use Rattle.kl1_machine.proofs.Unifying.{same_grows}
use Rattle.kl1_machine.proofs.Starting.{streams_opened}
use Rattle.kl1_machine.proofs.machine.Machine.open_streams.Goals as goal

pub returns-clause-ok : goal.returns-clause-ok
returns-clause-ok c =
    streams_opened c.args.goal c.args.self.now c.fresh.new.self.held c.fresh-2.new.self _ _ c.requires.machine c.mark-formed.ensures.formed c.requires.goal c.in_ok-fresh.ensures.ok c.in_ok-fresh-2.ensures.ok (c.fresh-2.ensures.hooks ∙ c.fresh.ensures.hooks)

-- ---- what stays

pub returns-clause-since : goal.returns-clause-since
returns-clause-since c b = let o = returns-clause-ok c in since_store b c.args.self.now c.fresh-2.new.self (record { grown = o.grown; hooks = o.hooks })

pub returns-in_err-fresh-clause-since : goal.returns-in_err-fresh-clause-since
returns-in_err-fresh-clause-since c b s = still c.from_residual.result b _ (since_store b c.args.self.now c.fresh.new.self (same_grows c.args.self.now c.fresh.new.self c.in_err-fresh.ensures.err c.fresh.ensures.hooks) s)

pub returns-in_err-fresh-2-clause-since : goal.returns-in_err-fresh-2-clause-since
returns-in_err-fresh-2-clause-since c b s =
    let m = c.args.self.now in
    let grown : Grown m.store.held c.fresh-2.new.self.held = rw (c.in_err-fresh-2.ensures.err, c.in_ok-fresh.ensures.ok.1) (Grown-variable m.store.held) in
    still c.from_residual-in_err-fresh-2.result b _ (since_store b m c.fresh-2.new.self (record { grown = grown; hooks = c.fresh-2.ensures.hooks ∙ c.fresh.ensures.hooks }) s)
