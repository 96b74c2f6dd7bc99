use Rattle.std.proofs.Common.{◌≡◌, ap, sym, subst, ◌∙◌}
use Rattle.std.specs.Prelude.{Option, Some, IfSome, option_map}
use Rattle.kl1_model.specs.declared.rules.Rules.{Rules}
use Rattle.kl1_model_server.specs.Journal.{Entry, Journal}
use Rattle.kl1_model_server.specs.JournalText.{entry_in}
use Rattle.kl1_journal_entries.specs.Lined.{with_prepared}
use Rattle.kl1_journal_entries.specs.Found.{found_entry}
use Rattle.kl1_journal_entries.specs.declared.reader.Found.{Found}
use Rattle.kl1_journal_entries.proofs.TextsRead.{no_entry, entry_more}
use Rattle.kl1_journal_entries.proofs.reader.read_entries.Goals as goal

pub returns-in_default-2 : goal.returns-in_default-2
returns-in_default-2 c =
    let read : Rules → Option (Option Entry) = λ of. option_map (λ (e : Entry). let x : Option Entry = Some e in x) (entry_in of c.in-Some.line.now) in
    sym (no_entry c.loop-line.journal.journal c.loop-line.rest.now c.in-Some.line.now c.in-Some.after.now c.in-Some.ensures.some (ap (option_map found_entry) (sym c.in_default-2.is) ∙ c.in_ok-prepared.ensures.entry ∙ ap read c.rules.ensures))
    ∙ c.loop-line.invariant

-- what was found is of the journal's rules
pub put-requires-clause-rules : goal.put-requires-clause-rules
put-requires-clause-rules c =
    let found : IfSome (Some c.in-Some-2.field-0) (λ f. f.prepared.rules ≡ c.rules.result) = subst (λ (o : Option Found). IfSome o (λ f. f.prepared.rules ≡ c.rules.result)) c.in-Some-2.is c.in_ok-prepared.ensures.rules in
    found ∙ c.rules.ensures ∙ ap (λ (j : Journal). j.rules) (sym c.in_ok-reserve.ensures.same)

pub loop-line-preserved : goal.loop-line-preserved
loop-line-preserved c =
    let p = c.in-Some-2.field-0.prepared.entry in
    let read : Rules → Option (Option Entry) = λ of. option_map (λ (e : Entry). let x : Option Entry = Some e in x) (entry_in of c.in-Some.line.now) in
    entry_more c.loop-line.journal.journal c.put.new.self.journal c.loop-line.rest.now c.in-Some.line.now c.in-Some.after.now p c.in-Some.ensures.some
    (ap (option_map found_entry) (sym c.in-Some-2.is) ∙ c.in_ok-prepared.ensures.entry ∙ ap read c.rules.ensures)
    (c.put.ensures ∙ ap (λ (j : Journal). with_prepared j p) c.in_ok-reserve.ensures.same)
    ∙ c.loop-line.invariant
