use Rattle.std.proofs.Common.{List, refl, subst, sym, set}
use Rattle.kl1_store.specs.declared.merge.Merge.{Merge}
use Rattle.kl1_store.specs.Merged.{Respects, AreParents}
use Rattle.kl1_store.proofs.Merging.{parents_same, linked_to, respects-push}
use Rattle.kl1_store.proofs.merges.link.Goals as goal

pub returns-in_err-fill-clause-parents : goal.returns-in_err-fill-clause-parents
returns-in_err-fill-clause-parents c = parents_same c.args.parents.now.items c.fill.new.parents.items c.args.merges.now.items c.fill.ensures.same c.requires.parents

pub returns-in_err-push-clause-parents : goal.returns-in_err-push-clause-parents
returns-in_err-push-clause-parents c =
    let P : List Merge → Type 0 = λ l. AreParents c.fill.new.parents.items l in
    subst P (sym c.in_err-push.ensures.items) (parents_same c.args.parents.now.items c.fill.new.parents.items c.args.merges.now.items c.fill.ensures.same c.requires.parents)

pub returns-clause-parents : goal.returns-clause-parents
returns-clause-parents c =
    linked_to c.fill.new.parents.items (set c.fill.new.parents.items c.args.from c.args.to) c.args.merges.now.items c.push.new.self.items c.args.from c.args.to c.in_ok-fill.ensures.reaches c.requires.lower refl c.in_ok-push.ensures.items
    (parents_same c.args.parents.now.items c.fill.new.parents.items c.args.merges.now.items c.fill.ensures.same c.requires.parents)

pub returns-clause-merges : goal.returns-clause-merges
returns-clause-merges c = λ S r e.
    let P : List Merge → Type 0 = λ l. Respects S l in
    subst P (sym c.in_ok-push.ensures.items) (respects-push S c.args.merges.now.items (record { from = c.args.from; to = c.args.to }) r e)
