use Rattle.std.proofs.Common.{◌≡◌, ◌-◌, sym, arith, subst}
use Rattle.std.specs.Prelude.{Some, None, slice_get}
use Rattle.kl1_store.specs.Hooks.{hanging_on}
use Rattle.kl1_store.specs.Chains.{Hung}
use Rattle.kl1_store.proofs.Chaining.{newest_none, newest_some, head_within}
use Rattle.kl1_store.proofs.hooks.Hooks.newest.Goals as goal

pub returns-then-head-eq0 : goal.returns-then-head-eq0
returns-then-head-eq0 c =
    let s = c.self.inside in
    let P : Hung → Type 0 = λ k. None ≡ slice_get (hanging_on c.args.variable k.hooks) 0 in
    subst P c.self.view_is (sym (newest_none s.heads.items s.links.items c.args.variable c.head_of-head.result c.self.invariant.0 c.head_of-head.ensures (omega arith)))

pub link_at-requires : goal.link_at-requires
link_at-requires c =
    let s = c.self.inside in
    let w = head_within s.heads.items s.links.items c.args.variable c.head_of-head.result c.self.invariant.0 c.head_of-head.ensures in
    omega arith

pub returns : goal.returns
returns c =
    let s = c.self.inside in
    let P : Hung → Type 0 = λ k. Some c.link_at.result.number ≡ slice_get (hanging_on c.args.variable k.hooks) 0 in
    subst P c.self.view_is (sym (newest_some s.heads.items s.links.items c.args.variable c.head_of-head.result (c.head_of-head.result - 1) c.link_at.result c.self.invariant.0 c.head_of-head.ensures (omega arith) c.link_at.ensures))
