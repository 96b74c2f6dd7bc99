use Rattle.std.proofs.Common.{arith, rules, ◌∙◌}
use mir.Val.{SFits}
use mir.Syntax.{w64}
use Rattle.std.proofs.lemmas.Int.{to_z-of_z}
use Rattle.kl1_match_guard.proofs.Pendings.{applied_on, applied_with, turned_right, taken_right, same_rights, same_rights_with}
use Rattle.kl1_match_guard.proofs.carrying.carry.Goals as goal

pub returns-in-Right-clause-means : goal.returns-in-Right-clause-means
returns-in-Right-clause-means g c = λ term left.
    c.loop-pending.invariant.means term left
    ∙ turned_right term c.loop-pending.stack.items c.pop.new.self.items c.push_reserved.new.self.items c.in-Some.pending c.in-Right.operator c.in-Right.right c.loop-pending.value left
    c.in-Some.ensures.items c.in-Right.is c.push_reserved.ensures.items

pub returns-in-Right-clause-rights : goal.returns-in-Right-clause-rights
returns-in-Right-clause-rights g c =
    c.loop-pending.invariant.rights
    ∙ taken_right c.loop-pending.stack.items c.pop.new.self.items c.push_reserved.new.self.items c.in-Some.pending c.in-Right.operator c.in-Right.right c.loop-pending.value
    c.in-Some.ensures.items c.in-Right.is c.push_reserved.ensures.items

pub loop-pending-preserved-in-With : goal.loop-pending-preserved-in-With
loop-pending-preserved-in-With g c =
    let i = c.loop-pending.invariant in
    let fits : SFits w64 c.in-With.right = search rules in
    record {
      means = λ term left.
          i.means term left
          ∙ applied_with term c.loop-pending.stack.items c.pop.new.self.items c.in-Some.pending c.in-With.operator c.in-With.right _ c.loop-pending.value c.apply-value.result left
          c.in-Some.ensures.items c.in-With.is (to_z-of_z w64 c.in-With.right fits) c.apply-value.ensures;
      rights = i.rights ∙ same_rights_with c.loop-pending.stack.items c.pop.new.self.items c.in-Some.pending c.in-With.operator c.in-With.right c.in-Some.ensures.items c.in-With.is;
      len = omega (arith, i.len, c.pop.ensures.len);
      capacity = omega (arith, i.capacity, c.pop.ensures.capacity);
    }

pub loop-pending-preserved : goal.loop-pending-preserved
loop-pending-preserved g c =
    let i = c.loop-pending.invariant in
    record {
      means = λ term left.
          i.means term left
          ∙ applied_on term c.loop-pending.stack.items c.pop.new.self.items c.in-Some.pending c.in-Apply.operator c.in-Apply.left c.loop-pending.value c.apply-value-in-Apply.result left
          c.in-Some.ensures.items c.in-Apply.is c.apply-value-in-Apply.ensures;
      rights = i.rights ∙ same_rights c.loop-pending.stack.items c.pop.new.self.items c.in-Some.pending c.in-Apply.operator c.in-Apply.left c.in-Some.ensures.items c.in-Apply.is;
      len = omega (arith, i.len, c.pop.ensures.len);
      capacity = omega (arith, i.capacity, c.pop.ensures.capacity);
    }
