use Rattle.std.proofs.Common.{◌≡◌, ◌+◌, [], ◌∷◌, length, take, sym, ap, ◌∙◌, arith, subst, length-set, length-append}
use Rattle.std.specs.Prelude.{List}
use Rattle.std.proofs.lemmas.List.{take-append-le}
use Rattle.kl1_store.specs.declared.link.Link.{Link}
use Rattle.kl1_store.specs.Chains.{AreChained}
use Rattle.kl1_store.proofs.Chaining.{has_head, chained_off}
use Rattle.kl1_store.proofs.hooks.unlink.Goals as goal

pub index_mut-requires : goal.index_mut-requires
index_mut-requires c =
    let l = c.loop-links in
    let C : List Link → Type 0 = λ ls. AreChained l.heads.items ls in
    let h = has_head l.heads.items c.pop.new.self.items c.in-Some.link (subst C c.in-Some.ensures.items l.invariant.chained) in
    omega (arith, h, l.heads.ok.0)

pub loop-links-preserved-in-Some : goal.loop-links-preserved-in-Some
loop-links-preserved-in-Some c =
    let l = c.loop-links in
    let C : List Link → Type 0 = λ ls. AreChained l.heads.items ls in
    let long : length l.links.items ≡ length c.pop.new.self.items + 1 = ap length c.in-Some.ensures.items ∙ length-append c.pop.new.self.items (c.in-Some.link ∷ []) in
    record {
      chained = chained_off l.heads.items c.pop.new.self.items c.in-Some.link (subst C c.in-Some.ensures.items l.invariant.chained);
      first = sym (take-append-le c.args.keep c.pop.new.self.items (c.in-Some.link ∷ []) (omega (arith, long, l.links.ok.0))) ∙ ap (take c.args.keep) (sym c.in-Some.ensures.items) ∙ l.invariant.first;
      heads = length-set l.heads.items c.in-Some.link.variable _ ∙ l.invariant.heads;
      heads_capacity = l.invariant.heads_capacity;
      links_capacity = c.pop.ensures.capacity ∙ l.invariant.links_capacity;
    }
