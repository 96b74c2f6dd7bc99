use Rattle.kl1_user_account.proofs.Words.{◌≡◌, ℕ, suc, false, List, [], ◌∷◌, ◌++◌, refl, sym, ap, ◌∙◌, ◌↔◌, Module, load, loaded, Transition, step, with_texts, Numbered, ArePlaced, own_names, number_of, is_numbered, Program, placed_still, placed_more, Account, texts_of, state_of, kept_in, Refused, Drafted}
use Rattle.kl1_user_account.proofs.Machines.{Aside, aside_of, account_of, began, Ends}
use Rattle.kl1_user_account.proofs.Loads.{loads_by}
use Rattle.kl1_user_account.proofs.Loaded.{IsLoaded, with_loaded, loaded_new, loaded_ends}
use Rattle.kl1_user_account.proofs.account.Account.load.Goals.{After-reserve, After-as_slice, After-note_entry}
use Rattle.kl1_user_account.proofs.account.Account.load.Goals as goal

-- ---- where the modules of the account stand

-- they stand in the source of codes as it is after the draft
placed_now : (g : _) (c : goal.After-reserve g) → ArePlaced (g.C.CodeSource.has c.draft_module.new.codes) c.reserve.new.self.loaded
placed_now g c =
    let placed = rw (← c.self.view_is) at c.requires.placed in
    rw c.reserve.ensures.loaded (placed_still (g.C.CodeSource.has c.args.codes.now) (g.C.CodeSource.has c.draft_module.new.codes) c.draft_module.ensures.same c.self.inside.modules.loaded placed)

pub over-modules-requires : goal.over-modules-requires
over-modules-requires g c = placed_now g (goal.at.over-modules-requires g c).After-reserve

pub returns-in_err-reserve-clause-placed : goal.returns-in_err-reserve-clause-placed
returns-in_err-reserve-clause-placed g c = placed_now g (goal.at.returns-in_err-reserve-clause-placed g c).After-reserve

pub returns-in_err-row-clause-placed : goal.returns-in_err-row-clause-placed
returns-in_err-row-clause-placed g c = placed_now g (goal.at.returns-in_err-row-clause-placed g c).After-reserve

pub returns-in_err-or_back-clause-placed : goal.returns-in_err-or_back-clause-placed
returns-in_err-or_back-clause-placed g c = placed_now g (goal.at.returns-in_err-or_back-clause-placed g c).After-reserve

pub returns-in_err-refusal-clause-placed : goal.returns-in_err-refusal-clause-placed
returns-in_err-refusal-clause-placed g c =
    placed_still (g.C.CodeSource.has c.args.codes.now) (g.C.CodeSource.has c.draft_module.new.codes) c.draft_module.ensures.same c.args.self.now.modules c.requires.placed

pub returns-in-Refused-clause-placed : goal.returns-in-Refused-clause-placed
returns-in-Refused-clause-placed g c =
    placed_still (g.C.CodeSource.has c.args.codes.now) (g.C.CodeSource.has c.draft_module.new.codes) c.draft_module.ensures.same c.args.self.now.modules c.requires.placed

pub returns-clause-placed : goal.returns-clause-placed
returns-clause-placed g c =
    let has = g.C.CodeSource.has c.draft_module.new.codes in
    let d = c.in-Drafted.draft in
    rw c.push_module.ensures.modules
    (placed_more has c.reserve.new.self.loaded (record d { row = c.as_slice.result.now }) (placed_now g (goal.at.returns-clause-placed g c).After-reserve) (rw c.in-Drafted.is at c.in_ok-refusal.ensures.stands))

-- ---- what comes of the load

pub draft_module-requires-clause-names : goal.draft_module-requires-clause-names
draft_module-requires-clause-names g c = rw (c.requires.knows, ← c.self.view_is) at (g.met.A.AtomSource.one_to_one c.args.names.now c.args.seat.now c.requires.of)

pub returns-in-Refused-clause-step : goal.returns-in-Refused-clause-step
returns-in-Refused-clause-step g c = λ f fits.
    let a = c.args.self.now in
    loads_by (kept_in c.self.inside) a c.is_full-is_full.result c.args.source.now c.in_ok-refusal.field-0 (Refused c.in-Refused.refusal) c.self.view_is c.is_full-is_full.ensures (rw c.limits-most.ensures.value at c.in_ok-refusal.ensures.loads) c.in-Refused.is
    (state_of f a) (record { modules_are = refl; names_are = refl; most_is = refl; full_is = refl })

-- the module is new under the numbers that its names got, and the account after it is that of the step
came : (g : _) (c : goal.After-as_slice g) →
    (is_numbered c.self.inside.modules.loaded (number_of (record c.in-Drafted.draft { row = c.as_slice.result.now })) ≡ false)
    × ((z : Aside) → z ≡ with_loaded (aside_of c.self.inside) c.in-Drafted.draft c.as_slice.result.now → Ends c.args.self.now (λ s t. step s (load c.args.source.now) ≡ record { state = t; reply = loaded c.in-Drafted.draft.content.name }) z (record c.or_back.new.self { names = c.publish.new.known }))
came g c =
    let u = c.self.inside in
    let d = c.in-Drafted.draft in
    let l = c.in_ok-refusal in
    let r = c.or_back.new.self in
    let names = c.publish.new.known in
    let row = c.as_slice.result.now in
    let Q : List Numbered → Program = λ ms. record { rules = u.machine.rules; loaded = ms } in
    let e = began (aside_of u) u.machine c.begin.new.self c.row_for.new.names c.args.self.now c.over-modules.result c.row_for.ensures.names c.begin.ensures.same c.begin.ensures.begun c.self.view_is (c.over-modules.ensures ∙ ap Q c.reserve.ensures.loaded) c.self.invariant in
    let did = rw (← c.in_ok-or_back.ensures.same, ← c.in_ok-or_back.ensures.ok) at c.reschedule_for_load-looked.ensures in
    let own : c.names-texts.result.now ≡ own_names d.content = c.names-texts.ensures.value ∙ ap own_names c.code.ensures in
    let p : IsLoaded e c.args.source.now d r names row = record {
      draft = loads_by (kept_in u) c.args.self.now c.is_full-is_full.result c.args.source.now l.field-0 (Drafted d) c.self.view_is c.is_full-is_full.ensures (rw c.limits-most.ensures.value at l.ensures.loads) c.in-Drafted.is;
      looks = did.ok;
      settled = rw c.over-loaded.ensures at did.settled;
      flags = did.flags;
      texts = c.publish.ensures.texts ∙ ap (with_texts (texts_of r.names.names)) own;
      numbers = rw (own, ← c.as_slice.ensures.value) at c.publish.ensures.row;
      small = c.publish.ensures.small;
      fits = c.publish.ensures.fits;
    } in
    let one = rw c.publish.ensures.knows at (g.met.A.AtomSource.one_to_one c.publish.new.names c.publish.new.seat c.publish.ensures.keeps.of) in
    (loaded_new e c.args.source.now d r names row p one, loaded_ends e c.args.source.now d r names row p)

pub push_module-requires-clause-new : goal.push_module-requires-clause-new
push_module-requires-clause-new g c = rw c.reserve.ensures.loaded (came g (goal.at.push_module-requires-clause-new g c).After-as_slice).0

-- what an account has besides its machine, after the load
beside : (g : _) (c : goal.After-note_entry g) → record (aside_of c.self.inside) { modules = c.push_module.new.modules.loaded; entries = c.note_entry.new.entries; run = c.note_entry.new.run } ≡ with_loaded (aside_of c.self.inside) c.in-Drafted.draft c.as_slice.result.now
beside g c =
    let x = aside_of c.self.inside in
    let d : Numbered = record c.in-Drafted.draft { row = c.as_slice.result.now } in
    let A : List Numbered → ℕ → ℕ → Aside = λ ls i j. record x { modules = ls; entries = i; run = j } in
    ap (λ ls. A ls c.note_entry.new.entries c.note_entry.new.run) (c.push_module.ensures.modules ∙ ap (λ (ls : List Numbered). ls ++ d ∷ []) c.reserve.ensures.loaded)
    ∙ ap (λ i. A (x.modules ++ d ∷ []) i c.note_entry.new.run) c.note_entry.ensures.entries
    ∙ ap (A (x.modules ++ d ∷ []) (suc x.entries)) c.note_entry.ensures.run

pub invariant_of-self-2 : goal.invariant_of-self-2
invariant_of-self-2 g c = ((came g (goal.at.invariant_of-self-2 g c).After-as_slice).1 _ (beside g (goal.at.invariant_of-self-2 g c).After-note_entry)).holds

pub returns-clause-step : goal.returns-clause-step
returns-clause-step g c = λ f fits.
    let a : Account = account_of (record (aside_of c.self.inside) { modules = c.push_module.new.modules.loaded; entries = c.note_entry.new.entries; run = c.note_entry.new.run }) (record c.or_back.new.self { names = c.publish.new.known }) in
    let R : List ℕ → Transition = λ t. record { state = state_of f a; reply = loaded t } in
    ((came g (goal.at.returns-clause-step g c).After-as_slice).1 _ (beside g (goal.at.returns-clause-step g c).After-note_entry)).states f fits
    ∙ ap R (sym (c.module_name-name.ensures ∙ ap (λ (k : Module). k.name) c.code-2.ensures))
