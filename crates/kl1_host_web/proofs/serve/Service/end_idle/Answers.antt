use Rattle.std.proofs.Common.{◌≡◌, ◌++◌, subst, ◌∙◌}
use Rattle.kl1_command.specs.declared.performed.Performed.{Performed}
use Rattle.kl1_host_web.specs.Asking.{House}
use Rattle.kl1_host_web.specs.Serving.{logout_of}
use Rattle.kl1_host_web.proofs.Ending.{one_more_ends}
use Rattle.kl1_host_web.proofs.serve.Service.end_idle.Goals as goal

pub loop-preserved : goal.loop-preserved
loop-preserved g c =
    let house = g.A.Accounts.house in
    let asked = g.A.Accounts.asked in
    let session = c.in-Some-take_idle.session in
    let same : house c.take_idle.new.accounts ≡ house c.args.accounts.now = c.take_idle.ensures.house ∙ c.loop.invariant.house in
    let L : House → Type 0 = λ h. (answer : Performed) × (asked c.log_out.new.accounts ≡ asked c.take_idle.new.accounts ++ logout_of h.accounts session.account answer) in
    let closed = subst L same c.log_out.ensures.asked in
    record {
      house = c.log_out.ensures.house ∙ same;
      ended = one_more_ends (g.M.Machine.tells c.args.self.now.machine.now) c.args.self.now.page.idle c.args.account (house c.args.accounts.now).accounts c.loop.invariant.ended.0 (asked c.args.accounts.now) (asked c.loop.accounts) (asked c.take_idle.new.accounts) (asked c.log_out.new.accounts) c.take_idle.result session c.take_idle.ensures.seeks.0 closed.0 c.loop.invariant.ended.1 c.in-Some-take_idle.is c.take_idle.ensures.seeks.1 c.take_idle.ensures.seeks.2 closed.1;
    }
