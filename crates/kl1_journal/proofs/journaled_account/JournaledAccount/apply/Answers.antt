use Rattle.std.proofs.Common.{◌≡◌, ℕ, List, if◌then◌else◌, ap, sym, ◌∙◌, subst}
use Rattle.kl1_model.specs.declared.rules.Rules.{Rules}
use Rattle.kl1_model.specs.Event.{is_refused}
use Rattle.kl1_model_server.specs.Journal.{Journal, done}
use Rattle.kl1_model_server.specs.laws.TextLaws as texts
use Rattle.kl1_atoms.specs.Names.{AreNames}
use Rattle.kl1_user.specs.Accounts.{Reading, Fits}
use Rattle.kl1_user.specs.Accounts.{Account, texts_of}
use Rattle.kl1_user_events.specs.Views.{event_of, reply_of}
use Rattle.kl1_journal.specs.Changes.{IsChange, SessionsFit, changed}
use Rattle.kl1_journal.specs.Keeping.{kept_of}
use Rattle.kl1_user.specs.Readings.{reading_of, reading_fits, fits_before, grows_as}
use Rattle.kl1_journal.proofs.Keeps.{done_change, kept_change, fits_change, rules_same}
use Rattle.kl1_journal.proofs.journaled_account.JournaledAccount.apply.Goals as goal

-- the names may have been used by the journal's rules, which are the account's
pub prepare-requires : goal.prepare-requires
prepare-requires g c =
    let old = c.self.inside.user in
    let j = c.self.inside.journal.journal in
    let f = reading_of old.names in
    let ruled = (c.self.invariant.1.replay f (reading_fits old.names c.self.invariant.2)).is.rules in
    subst (λ (ns : List (List ℕ)). texts.AreNames j.rules ns) (sym c.name_texts.ensures) (subst (λ (r : Rules). texts.AreNames r (texts_of old.names)) (sym ruled) c.self.invariant.1.names)

pub note-requires-clause-sessions : goal.note-requires-clause-sessions
note-requires-clause-sessions g c =
    let old = c.self.inside.user in
    let new = c.apply.new.self in
    let j = c.self.inside.journal.journal in
    let e = event_of c.args.event.now in
    let r = reply_of c.in_ok-reply.reply in
    let d = c.in_ok-change.change in
    let before : (f : Reading) → Fits new.names f → Fits old.names f = λ f fits. fits_before old.names new.names f (grows_as (g.A.AtomSource.knows c.self.inside.seat) (g.A.AtomSource.knows c.apply.new.seat) old.names new.names c.self.invariant.0 c.apply.ensures.knows c.apply.ensures.keeps.grows) fits in
    let names = subst AreNames c.apply.ensures.knows (g.met.A.AtomSource.one_to_one c.apply.new.names c.apply.new.seat c.apply.ensures.keeps.of) in
    let h = subst (λ ns. IsChange ns j e d) c.name_texts.ensures c.in_ok-change.ensures.change in
    subst (λ (i : Journal). SessionsFit i d r) (sym c.prepare.ensures.same) (fits_change old new j e r d c.self.invariant.1 names c.in_ok-reply.ensures.step before h)

pub invariant_of-self-2 : goal.invariant_of-self-2
invariant_of-self-2 g c =
    let old = c.self.inside.user in
    let new = c.apply.new.self in
    let j = c.self.inside.journal.journal in
    let k = c.note.new.journal.journal in
    let e = event_of c.args.event.now in
    let r = reply_of c.in_ok-reply.reply in
    let d = c.in_ok-change.change in
    let before : (f : Reading) → Fits new.names f → Fits old.names f = λ f fits. fits_before old.names new.names f (grows_as (g.A.AtomSource.knows c.self.inside.seat) (g.A.AtomSource.knows c.apply.new.seat) old.names new.names c.self.invariant.0 c.apply.ensures.knows c.apply.ensures.keeps.grows) fits in
    let names = subst AreNames c.apply.ensures.knows (g.met.A.AtomSource.one_to_one c.apply.new.names c.apply.new.seat c.apply.ensures.keeps.of) in
    let h = subst (λ ns. IsChange ns j e d) c.name_texts.ensures c.in_ok-change.ensures.change in
    let k_is : k ≡ (if is_refused r then j else changed j d new.run r) = c.note.ensures ∙ ap (λ (i : Journal). if is_refused r then i else changed i d c.run.result r) c.prepare.ensures.same ∙ ap (λ n. if is_refused r then j else changed j d n r) (c.run.ensures (reading_of new.names)) in
    (c.apply.ensures.knows, kept_change old new j k e r d c.self.invariant.1 names c.in_ok-reply.ensures.step before h k_is, names)

pub returns-clause-step : goal.returns-clause-step
returns-clause-step g c = λ f fits.
    let old = c.self.inside.user in
    let new = c.apply.new.self in
    let j = c.self.inside.journal.journal in
    let k = c.note.new.journal.journal in
    let e = event_of c.args.event.now in
    let r = reply_of c.in_ok-reply.reply in
    let d = c.in_ok-change.change in
    let fits_old = fits_before old.names new.names f (grows_as (g.A.AtomSource.knows c.self.inside.seat) (g.A.AtomSource.knows c.apply.new.seat) old.names new.names c.self.invariant.0 c.apply.ensures.knows c.apply.ensures.keeps.grows) fits in
    let h = subst (λ ns. IsChange ns j e d) c.name_texts.ensures c.in_ok-change.ensures.change in
    let k_is : k ≡ (if is_refused r then j else changed j d new.run r) = c.note.ensures ∙ ap (λ (i : Journal). if is_refused r then i else changed i d c.run.result r) c.prepare.ensures.same ∙ ap (λ n. if is_refused r then j else changed j d n r) (c.run.ensures (reading_of new.names)) in
    subst (λ (p : Account × Journal). done (kept_of f p) e ≡ record { kept = kept_of f (new, k); reply = r }) (ap (λ x. x.1) c.self.view_is)
    (done_change f old new j k e r d (c.self.invariant.1.replay f fits_old) (c.in_ok-reply.ensures.step f fits) h k_is)

pub returns-clause-before : goal.returns-clause-before
returns-clause-before g c = λ f fits.
    fits_before c.args.self.now.1.0.names c.apply.new.self.names f (grows_as (g.A.AtomSource.knows c.self.inside.seat) (g.A.AtomSource.knows c.apply.new.seat) c.args.self.now.1.0.names c.apply.new.self.names (c.self.invariant.0 ∙ ap (λ x. x.1.0.names) c.self.view_is) c.apply.ensures.knows c.apply.ensures.keeps.grows) fits

pub returns-clause-rules : goal.returns-clause-rules
returns-clause-rules g c =
    let names = subst AreNames c.apply.ensures.knows (g.met.A.AtomSource.one_to_one c.apply.new.names c.apply.new.seat c.apply.ensures.keeps.of) in
    rules_same c.self.inside.user c.apply.new.self (event_of c.args.event.now) (reply_of c.in_ok-reply.reply) names c.in_ok-reply.ensures.step ∙ ap (λ x. x.1.0.rules) c.self.view_is
