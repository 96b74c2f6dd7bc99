use Rattle.std.proofs.Common.{◌≡◌, ℕ, suc, ◌-◌, ◌∷◌, [], false, refl, List, length, ap, ap₂, sym, ◌∙◌, arith}
use Rattle.std.proofs.lemmas.List.{length-append}
use Rattle.kl1_model_server.specs.Journal.{new_journal}
use Rattle.kl1_model_server.specs.JournalText.{is_new_name}
use Rattle.kl1_model_server.specs.laws.TextLaws.{are_new_names}
use Rattle.kl1_journal_entries.specs.Reading.{read_after}
use Rattle.kl1_journal_entries.proofs.TextsRead.{no_line, no_name, no_new_name, name_more, names_more, names_done}
use Rattle.kl1_journal_entries.proofs.reader.read_names.Goals as goal

pub returns-in_default : goal.returns-in_default
returns-in_default c =
    let left = c.args.heading.names - length c.loop-rest.names.items in
    sym (no_line c.args.heading.rules c.args.heading.sessions c.loop-rest.names.items left (left - 1) c.loop-rest.rest.now (omega (arith, c.loop-rest.names.ok)) (c.in_default.ensures.none refl))
    ∙ c.loop-rest.invariant.0

pub returns-in_default-name_of : goal.returns-in_default-name_of
returns-in_default-name_of c =
    let left = c.args.heading.names - length c.loop-rest.names.items in
    sym (no_name c.args.heading.rules c.args.heading.sessions c.loop-rest.names.items left (left - 1) c.loop-rest.rest.now c.in-Some.line.now c.in-Some.after.now (omega (arith, c.loop-rest.names.ok)) c.in-Some.ensures.some (sym c.in_default-name_of.ensures))
    ∙ c.loop-rest.invariant.0

pub returns-then-not-may_follow : goal.returns-then-not-may_follow
returns-then-not-may_follow c =
    let names = c.loop-rest.names.items in
    let left = c.args.heading.names - length names in
    let other : is_new_name names c.in-Some-name_of.name ≡ false = ap (λ (ns : List (List ℕ)). is_new_name ns c.in-Some-name_of.name) (sym c.as_slice.ensures.value) ∙ sym c.if-not-may_follow.ensures in
    sym (no_new_name c.args.heading.rules c.args.heading.sessions names left (left - 1) c.loop-rest.rest.now c.in-Some.line.now c.in-Some.after.now c.in-Some-name_of.name (omega (arith, c.loop-rest.names.ok)) c.in-Some.ensures.some (sym c.in-Some-name_of.ensures) other)
    ∙ c.loop-rest.invariant.0

pub loop-rest-preserved : goal.loop-rest-preserved
loop-rest-preserved c =
    let names = c.loop-rest.names.items in
    let t = c.in-Some-name_of.name in
    let s = c.args.heading.sessions in
    let left = c.args.heading.names - length names in
    let new : is_new_name names t ≡ _ = ap (λ (ns : List (List ℕ)). is_new_name ns t) (sym c.as_slice.ensures.value) ∙ sym c.if-not-may_follow.ensures in
    let items = c.in_ok-push.ensures.items in
    let count : length c.push.new.self.items ≡ suc (length names) = ap (length {A = List ℕ}) items ∙ length-append names (t ∷ []) ∙ omega arith in
    let less : left ≡ suc (left - 1) = omega (arith, c.loop-rest.names.ok) in
    let next : c.args.heading.names - length c.push.new.self.items ≡ left - 1 = omega (arith, count) in (
      ap₂ (λ (ns : List (List ℕ)) (k : ℕ). read_after c.args.heading.rules s ns k c.in-Some.after.now) items next
          ∙ name_more c.args.heading.rules s names left (left - 1) c.loop-rest.rest.now c.in-Some.line.now c.in-Some.after.now t less c.in-Some.ensures.some (sym c.in-Some-name_of.ensures) new
          ∙ c.loop-rest.invariant.0,
      ap (are_new_names []) items ∙ names_more names c.in-Some.line.now t c.loop-rest.invariant.1 (sym c.in-Some-name_of.ensures) new,
      omega (arith, count, c.loop-rest.names.ok),
    )

pub returns : goal.returns
returns c =
    let names = c.loop-rest.names.items in
    let s = c.args.heading.sessions in
    let none : c.args.heading.names - length names ≡ 0 = omega (arith, c.loop-rest.names.ok) in
    names_done c.args.heading.rules s names (c.args.heading.names - length names) c.loop-rest.rest.now c.in_ok-journal.journal.journal (c.in_ok-journal.ensures ∙ ap (λ (ns : List (List ℕ)). new_journal c.args.heading.rules ns s) c.as_slice-2.ensures.value) none
    ∙ c.loop-rest.invariant.0
