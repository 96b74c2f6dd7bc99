use Rattle.std.proofs.Common.{List, subst, sym, ◌∙◌}
use Rattle.std.proofs.lemmas.Result.{on_ok_weaker}
use Rattle.kl1_store.specs.declared.merge.Merge.{Merge}
use Rattle.kl1_store.specs.Merged.{Respects}
use Rattle.kl1_store.proofs.merges.Merges.join.Goals as goal

pub returns-then-first-second : goal.returns-then-first-second
returns-then-first-second c = on_ok_weaker c.link.result (λ linked S r e.
    let ms = c.self.inside.merges.items in
    let P : List Merge → Type 0 = λ l. Respects S l in
    let q = subst P (sym c.self.view_is) r in
    let one = c.find_root-first.ensures ms c.self.invariant in
    let two = c.find_root-second.ensures ms one.kept in
    linked S q (two.same S q ∙ sym e ∙ sym (one.same S q))) c.link.ensures.merges

pub returns-then-second-first : goal.returns-then-second-first
returns-then-second-first c = on_ok_weaker c.link-then-second-first.result (λ linked S r e.
    let ms = c.self.inside.merges.items in
    let P : List Merge → Type 0 = λ l. Respects S l in
    let q = subst P (sym c.self.view_is) r in
    let one = c.find_root-first.ensures ms c.self.invariant in
    let two = c.find_root-second.ensures ms one.kept in
    linked S q (one.same S q ∙ e ∙ sym (two.same S q))) c.link-then-second-first.ensures.merges
