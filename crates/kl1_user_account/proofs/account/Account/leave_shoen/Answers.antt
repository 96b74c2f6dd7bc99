use Rattle.kl1_user_account.proofs.Words.{◌≡◌, refl, ap₂, step, Reads, Reading, built, state_of}
use Rattle.kl1_model.specs.Event.{forget, forgot}
use Rattle.kl1_user_account.proofs.Machines.{Aside, aside_of, account_of, Holds, began}
use Rattle.kl1_user_account.proofs.LettingGo.{shoen_gone}
use Rattle.kl1_user_account.proofs.account.Account.leave_shoen.Goals as goal

-- the shoen went, and that is noted
ends : (g : _) (c : goal.After-note_entry g) → let y : Aside = record (aside_of c.self.inside) { entries = c.note_entry.new.entries; run = c.note_entry.new.run } in
    Holds y c.or_back.new.self × ((f : Reading) → Reads built f → step (state_of f c.args.self.now) (forget c.args.number 0) ≡ record { state = state_of f (account_of y c.or_back.new.self); reply = forgot })
ends g c =
    let u = c.self.inside in
    let e = began (aside_of u) u.machine c.begin.new.self u.machine.names c.args.self.now c.over-modules.result refl c.begin.ensures.same c.begin.ensures.begun c.self.view_is c.over-modules.ensures c.self.invariant in
    let did = rw (← c.in_ok-or_back.ensures.same, ← c.in_ok-or_back.ensures.ok) at c.forget-gone.ensures in
    shoen_gone e c.args.number c.or_back.new.self c.requires.steps c.requires.room did.ok did.rested did.keeps
    _ (ap₂ (λ i k. let z : Aside = record (aside_of u) { entries = i; run = k } in z) c.note_entry.ensures.entries c.note_entry.ensures.run)

pub invariant_of-self-2 : goal.invariant_of-self-2
invariant_of-self-2 g c = (ends g c).0

pub returns-clause-step : goal.returns-clause-step
returns-clause-step g c = λ f fits. (ends g c).1 f fits.reads
