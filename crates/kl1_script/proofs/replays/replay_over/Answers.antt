use Rattle.std.proofs.Common.{◌≡◌, ◌+◌, ℕ, List, length, refl, ap, sym, ◌∙◌, arith}
use Rattle.kl1_model.specs.State.{State, fresh_with}
use Rattle.kl1_model_server.specs.JournalText.{lines_of}
use Rattle.kl1_model_server.specs.Replay.{replay_name, written_entries}
use Rattle.kl1_lines.specs.Replies.{Written, all_of}
use Rattle.kl1_script.specs.Replays.{entry_replies, written_on}
use Rattle.kl1_script.proofs.Endings.{ends_as}
use Rattle.kl1_script.proofs.EntryReplies.{on_all}
use Rattle.kl1_script.proofs.replays.replay_over.Goals as goal

pub returns-in-Ok : goal.returns-in-Ok
returns-in-Ok g c =
    let s = fresh_with c.args.rules replay_name c.args.texts.now c.args.sessions in
    let ls = lines_of c.args.text.now in
    let k = length c.args.texts.now + 2 in
    let same : k ≡ 2 + length c.args.texts.now = omega arith in
    let from : State → Written = λ x. written_on k 0 x ls in
    let to : ℕ → List ℕ = λ n. written_entries n 0 s ls.whole ls.rest in
    ends_as c.answer_all.result (g.W.Sink.contents c.args.sink.now) (g.W.Sink.contents c.answer_all.new.sink) (g.W.Sink.failures c.args.sink.now) (g.W.Sink.failures c.answer_all.new.sink) (written_entries (2 + length c.args.texts.now) 0 s ls.whole ls.rest) (all_of (written_on k 0 s ls)) (entry_replies s ls.whole) (entry_replies s ls.whole) (on_all k 0 s ls ∙ ap to same) refl (c.answer_all.ensures.ends (written_on k 0 s ls) (λ f fits. ap from (sym (c.in-Ok.ensures f))))
