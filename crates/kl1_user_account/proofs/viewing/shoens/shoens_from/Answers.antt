use Rattle.kl1_user_account.proofs.Words.{◌+◌, ◌-◌, ◌++◌, ◌∷◌, [], map, take, drop, filter, ap, sym, ◌∙◌, List, CellName, Shoen, ShoenView, shoen_shown}
use Rattle.kl1_user_account.specs.Viewed.{is_kept_shoen}
use Rattle.kl1_user_account.proofs.Paging.{one_more, no_more, first_shoen, no_shoen, one_kept, one_gone}
use Rattle.kl1_user_account.proofs.viewing.shoens.shoens_from.Goals as goal

pub returns-in_default : goal.returns-in_default
returns-in_default c =
    let ss = c.args.shoens.now.shoens in
    let view = shoen_shown ss c.args.shoens.now.work c.args.goals.now.goals in
    no_more view c.loop-left.views.items (map view (take c.args.count (filter is_kept_shoen (drop (c.args.from - 1) ss)))) c.loop-left.left (filter is_kept_shoen (drop c.loop-left.before ss))
    (ap (filter is_kept_shoen) (no_shoen ss c.loop-left.before c.len.ensures.numbered c.in_default.ensures.value)) c.loop-left.invariant

pub loop-left-preserved-then-is_forgotten : goal.loop-left-preserved-then-is_forgotten
loop-left-preserved-then-is_forgotten c =
    let ss = c.args.shoens.now.shoens in
    let view = shoen_shown ss c.args.shoens.now.work c.args.goals.now.goals in
    ap (λ (ks : List (Shoen CellName)). c.loop-left.views.items ++ map view (take c.loop-left.left ks))
    (sym (one_gone (drop c.loop-left.before ss) (drop (c.loop-left.before + 1) ss) c.in-Some.shoen.now (first_shoen ss c.loop-left.before c.in-Some.shoen.now c.len.ensures.numbered c.in-Some.ensures.value) (sym c.is_forgotten.ensures ∙ c.if-is_forgotten.true)))
    ∙ c.loop-left.invariant

pub loop-left-preserved : goal.loop-left-preserved
loop-left-preserved c =
    let ss = c.args.shoens.now.shoens in
    let view = shoen_shown ss c.args.shoens.now.work c.args.goals.now.goals in
    let shown = c.loop-left.views.items in
    one_more view shown c.push.new.self.items (map view (take c.args.count (filter is_kept_shoen (drop (c.args.from - 1) ss)))) c.loop-left.left c.in-Some.shoen.now (filter is_kept_shoen (drop (c.loop-left.before + 1) ss))
    (filter is_kept_shoen (drop c.loop-left.before ss)) c.loop-left-test.true
    (one_kept (drop c.loop-left.before ss) (drop (c.loop-left.before + 1) ss) c.in-Some.shoen.now (first_shoen ss c.loop-left.before c.in-Some.shoen.now c.len.ensures.numbered c.in-Some.ensures.value) (sym c.is_forgotten.ensures ∙ c.if-is_forgotten.false)) c.loop-left.invariant
    (c.in_ok-push.ensures.items ∙ ap (λ (v : ShoenView). shown ++ v ∷ []) c.view_of.ensures)
