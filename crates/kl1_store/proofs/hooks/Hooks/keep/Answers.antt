use Rattle.std.proofs.Common.{◌≡◌, take, sym, ap, ◌∙◌, subst}
use Rattle.std.proofs.lemmas.List.{take-map}
use Rattle.kl1_store.specs.Chains.{Hung, hook_in, hooks_in}
use Rattle.kl1_store.proofs.hooks.Hooks.keep.Goals as goal

pub returns-clause-hooks : goal.returns-clause-hooks
returns-clause-hooks c =
    let s = c.self.inside in
    let P : Hung → Type 0 = λ k. hooks_in c.unlink.new.links.items ≡ take c.args.count k.hooks in
    subst P c.self.view_is (ap hooks_in c.unlink.ensures.links ∙ sym (take-map hook_in c.args.count s.links.items))
