use Rattle.std.proofs.Common.{◌≡◌, ◌+◌, ◌-◌, length, take, List, subst, arith}
use Rattle.std.proofs.lemmas.List.{take_all}
use Rattle.kl1_session.specs.Views.{entry_view, entries_view}
use Rattle.kl1_session.specs.declared.key.Key.{Key}
use Rattle.kl1_host.specs.NextKeys.{newcomers, AreBrought}
use Rattle.kl1_host.proofs.NextKeys.{view_more, one_place, one_more}
use Rattle.kl1_host.proofs.next_keys.next_keys.Goals as goal

pub loop-key-preserved : goal.loop-key-preserved
loop-key-preserved c =
    let i = c.loop-key.key-index in
    one_place (entries_view (take i c.args.now.now)) (entries_view c.args.wanted.now) (entry_view c.key-item.result) (entries_view (take (i + 1) c.args.now.now)) c.loop-key.next c.take_over.new.self
    (view_more c.args.now.now i c.key-item.result c.loop-key-test.true c.key-item.is) c.loop-key.invariant c.in_ok-take_over.ensures

pub loop-key-2-preserved : goal.loop-key-2-preserved
loop-key-2-preserved c =
    let i = c.loop-key-2.key-index in
    one_more (entries_view c.args.now.now) (entries_view c.args.wanted.now) c.args.places (entries_view (take i c.args.wanted.now)) (entries_view (take (i + 1) c.args.wanted.now)) (entry_view c.key-item-in-loop-key-2.result) c.loop-key-2.next c.add_if.new.self c.is_newcomer.result
    (view_more c.args.wanted.now i c.key-item-in-loop-key-2.result c.loop-key-2-test.true c.key-item-in-loop-key-2.is) c.is_newcomer.ensures c.loop-key-2.invariant c.in_ok-add_if.ensures

pub returns : goal.returns
returns c =
    let now = entries_view c.args.now.now in
    let all : take c.loop-key-2.key-index c.args.wanted.now ≡ c.args.wanted.now = take_all c.loop-key-2.key-index c.args.wanted.now (omega arith) in
    let P : List Key → Type 0 = λ (x : List Key). AreBrought now (entries_view c.args.wanted.now) (take (c.args.places - length now) (newcomers now (entries_view x))) c.loop-key-2.next in
    subst P all c.loop-key-2.invariant
