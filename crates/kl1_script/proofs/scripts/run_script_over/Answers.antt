use Rattle.std.proofs.Common.{◌≡◌, ◌∙◌, Some, None, refl, ap}
use Rattle.kl1_model.specs.Line.{line_in, behind_feed, words_of}
use Rattle.kl1_model_server.specs.Script.{accounts_in, output}
use Rattle.kl1_lines.specs.Runs.{streams}
use Rattle.kl1_lines.proofs.RunLaws.{runs_unread, runs_whole}
use Rattle.kl1_script.specs.Scripts.{script_replies}
use Rattle.kl1_script.proofs.Endings.{named_ends, unnamed_ends}
use Rattle.kl1_script.proofs.scripts.run_script_over.Goals as goal

pub returns-in-Err-clause-runs : goal.returns-in-Err-clause-runs
returns-in-Err-clause-runs g c =
    let old = streams g.R.Source.remaining g.R.Source.failures g.W.Sink.contents g.W.Sink.failures c.args.source.now c.args.sink.now in
    let new = streams g.R.Source.remaining g.R.Source.failures g.W.Sink.contents g.W.Sink.failures c.read_all.new.source c.args.sink.now in
    runs_unread (Unit {0}) _ c.in-Err.fault output script_replies old new refl refl c.in-Err.ensures.read c.in-Err.ensures.not_read c.in-Err.ensures.too_long c.in-Err.ensures.not_write

pub returns-in-Ok-None-clause-runs : goal.returns-in-Ok-None-clause-runs
returns-in-Ok-None-clause-runs g c =
    let old = streams g.R.Source.remaining g.R.Source.failures g.W.Sink.contents g.W.Sink.failures c.args.source.now c.args.sink.now in
    let new = streams g.R.Source.remaining g.R.Source.failures g.W.Sink.contents g.W.Sink.failures c.read_all.new.source c.finish_with.new.sink in
    let line = c.split_line.ensures.line ∙ ap line_in c.as_slice.ensures.value in
    let none : None ≡ accounts_in (words_of c.split_line.result.0.now) = rw c.in-Ok-None.field-0-is at c.in-Ok-None.ensures in
    let ends = unnamed_ends c.finish_with.result old.contents new.contents old.failed_writes new.failed_writes c.in-Ok.script.items (none ∙ ap (λ l. accounts_in (words_of l)) line) c.finish_with.ensures in
    runs_whole c.finish_with.result output script_replies c.in-Ok.script.items old new c.in-Ok.ensures.ok (c.in-Ok.ensures.not_read (λ e. cc)) ends

pub returns-in-Ok-new-clause-runs : goal.returns-in-Ok-new-clause-runs
returns-in-Ok-new-clause-runs g c =
    let old = streams g.R.Source.remaining g.R.Source.failures g.W.Sink.contents g.W.Sink.failures c.args.source.now c.args.sink.now in
    let new = streams g.R.Source.remaining g.R.Source.failures g.W.Sink.contents g.W.Sink.failures c.read_all.new.source c.answer_over.new.sink in
    let line = c.split_line.ensures.line ∙ ap line_in c.as_slice.ensures.value in
    let behind = c.split_line.ensures.behind ∙ ap behind_feed c.as_slice.ensures.value in
    let some : Some c.in-Ok-Some.accounts.items ≡ accounts_in (words_of c.split_line.result.0.now) = rw c.in-Ok-Some.field-0-is at c.in-Ok-Some.ensures in
    let named : Some c.as_slice-in-Ok-new.result.now ≡ accounts_in (words_of c.split_line.result.0.now) = rw c.as_slice-in-Ok-new.ensures.value some in
    let ends = named_ends c.answer_over.result old.contents new.contents old.failed_writes new.failed_writes c.in-Ok.script.items c.split_line.result.1.now c.as_slice-in-Ok-new.result.now behind (named ∙ ap (λ l. accounts_in (words_of l)) line) c.answer_over.ensures in
    runs_whole c.answer_over.result output script_replies c.in-Ok.script.items old new c.in-Ok.ensures.ok (c.in-Ok.ensures.not_read (λ e. cc)) ends
