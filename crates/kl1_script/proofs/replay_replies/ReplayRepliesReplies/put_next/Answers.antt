use Rattle.std.proofs.Common.{◌≡◌, ◌+◌, Bool, true, false, refl, subst, arith}
use Rattle.kl1_model_server.specs.JournalText.{lines_of}
use Rattle.kl1_user.specs.Accounts.{Reading, Fits, state_of}
use Rattle.kl1_user.specs.Readings.{reading_of, reading_fits}
use Rattle.kl1_script.specs.Replays.{accepted_in}
use Rattle.kl1_script.specs.Steps.{Went}
use Rattle.kl1_script.proofs.Endings.{always_err}
use Rattle.kl1_script.proofs.EntryReplies.{entry_put, entry_fault, fault_same, entry_end_is, entry_some}
use Rattle.kl1_script.proofs.replay_replies.ReplayRepliesReplies.put_next.Goals as goal

pub returns-in_default-clause-puts : goal.returns-in_default-clause-puts
returns-in_default-clause-puts g c =
    let s = c.args.self.now in
    let f = reading_of s.replayed.names in
    (refl, λ w h. entry_end_is s.line s.entries (state_of f s.replayed) (lines_of s.rest.now) s.rest.now c.rest_line.result w (c.in_default.ensures.none refl) c.rest_line.ensures (h f (reading_fits s.replayed.names c.shows_names.ensures)))

pub returns-in_err-accepted-clause-some : goal.returns-in_err-accepted-clause-some
returns-in_err-accepted-clause-some g c =
    let s = c.args.self.now in
    let f = reading_of s.replayed.names in
    always_err c.from_residual.result (λ w h. entry_some s.line s.entries (state_of f s.replayed) c.in-Some.line.now (lines_of s.rest.now) (lines_of c.in-Some.after.now) w c.in-Some.ensures.some (h f (reading_fits s.replayed.names c.shows_names.ensures)))

pub returns-then-not-accepted-clause-puts : goal.returns-then-not-accepted-clause-puts
returns-then-not-accepted-clause-puts g c =
    let s = c.args.self.now in
    let after = c.put_entry.new.replayed in
    let line = c.in-Some.line.now in
    let f = reading_of after.names in
    let fits : Fits after.names f = reading_fits after.names c.shows_names-2.ensures in
    let refused : c.in_ok-accepted.accepted ≡ false = cc in
    let P : Bool → Type 0 = λ v. Went v (accepted_in (state_of f s.replayed) line) (state_of f after) in
    let went = subst P refused (c.in_ok-accepted.ensures.went f fits) in
    (fault_same (accepted_in (state_of f s.replayed) line) (state_of f after) c.args.out.now.items c.put_entry.new.out.items went (c.in_ok-accepted.ensures.told f fits), λ w h. entry_fault s.line s.entries (state_of f s.replayed) (state_of f after) line c.fault_line.result (lines_of s.rest.now) (lines_of c.in-Some.after.now) (accepted_in (state_of f s.replayed) line) w c.in-Some.ensures.some refl went c.fault_line.ensures (h f (c.put_entry.ensures.before f fits)))

pub returns-clause-puts : goal.returns-clause-puts
returns-clause-puts g c =
    let s = c.args.self.now in
    let after = c.put_entry.new.replayed in
    let line = c.in-Some.line.now in
    let f = reading_of after.names in
    let accepted : c.in_ok-accepted.accepted ≡ true = cc in
    let P : Reading → Bool → Type 0 = λ r v. Went v (accepted_in (state_of r s.replayed) line) (state_of r after) in
    entry_put s.line s.entries (s.line + 1) (s.entries + 1) s.replayed after line (lines_of s.rest.now) (lines_of c.in-Some.after.now) c.args.out.now.items c.put_entry.new.out.items f (omega arith) (omega arith) c.in-Some.ensures.some (reading_fits after.names c.shows_names-2.ensures) c.put_entry.ensures.before (λ r h. subst (P r) accepted (c.in_ok-accepted.ensures.went r h)) c.in_ok-accepted.ensures.told
