use Rattle.std.proofs.Common.{◌≡◌, Bool, List, map, get_or, ap, ◌∙◌, ◌-◌, arith}
use Rattle.std.proofs.lemmas.List.{take_all}
use Rattle.kl1_shoen_paths.specs.declared.shoen.Shoen.{Shoen}
use Rattle.kl1_shoen.specs.Shoens.{Tree, is_enabled_at}
use Rattle.kl1_shoen_paths.proofs.Flags.{flags_few}
use Rattle.kl1_shoen.proofs.Flags.{flags_step}
use Rattle.kl1_shoen.proofs.tree.ShoenTree.flags.Goals as goal

pub flag_of-is_parent_enabled-requires : goal.flag_of-is_parent_enabled-requires
flag_of-is_parent_enabled-requires g c =
    let t = c.args.self.now in
    let same : c.items-shoen-items.result.now ≡ t.shoens = c.items-shoen-items.ensures ∙ ap (λ (t : Tree g.row.N.Denot). t.shoens) c.self.view_is in
    flags_few (is_enabled_at t.shoens t.work) c.loop-shoen.shoen-index t.shoens c.items-shoen-items.result.now c.loop-shoen.out.items c.deref.result.now c.shoen-item.result c.len-lower.ensures.lower same c.loop-shoen.invariant c.deref.ensures.value (omega (arith, c.loop-shoen-test.true)) c.shoen-item.is

pub loop-shoen-preserved : goal.loop-shoen-preserved
loop-shoen-preserved g c =
    let t = c.args.self.now in
    let x = c.shoen-item.result in
    let b = c.flag_of-is_parent_enabled.result in
    let same : c.items-shoen-items.result.now ≡ t.shoens = c.items-shoen-items.ensures ∙ ap (λ (t : Tree g.row.N.Denot). t.shoens) c.self.view_is in
    flags_step t.shoens c.items-shoen-items.result.now t.work c.loop-shoen.shoen-index x c.loop-shoen.out.items c.push.new.self.items b c.holds_back-is_blocking.result c.is_enabled_with.result c.len-lower.ensures.numbered c.len-lower.ensures.lower same c.loop-shoen.invariant
    (omega (arith, c.loop-shoen-test.true)) c.shoen-item.is
    c.flag_of-is_parent_enabled.ensures.none (λ lt. c.flag_of-is_parent_enabled.ensures.some lt ∙ ap (λ (l : List Bool). get_or l (x.parent - 1) b) c.deref.ensures.value)
    c.holds_back-is_blocking.ensures c.is_enabled_with.ensures c.in_ok-push.ensures.items

pub returns : goal.returns
returns g c =
    let f : Shoen g.row.N.Denot → Bool = λ h. is_enabled_at c.args.self.now.shoens c.args.self.now.work h.number in
    c.loop-shoen.invariant
    ∙ ap (map f) (take_all c.loop-shoen.shoen-index c.items-shoen-items.result.now (omega (arith, c.loop-shoen-test.false)) ∙ c.items-shoen-items.ensures ∙ ap (λ (t : Tree g.row.N.Denot). t.shoens) c.self.view_is)
