use Rattle.std.proofs.Common.{ℕ, List, sym, ap, subst, ◌∙◌}
use Rattle.kl1_codes.specs.Numbered.{Numbered}
use Rattle.kl1_codes.specs.Finding.{is_numbered}
use Rattle.kl1_codes.specs.Shelves.{AreKeyed}
use Rattle.kl1_codes.proofs.Shelving.{no_entry, more_keyed}
use Rattle.kl1_codes.proofs.modules.Modules.push.Goals as goal

pub put_last-requires-clause-new : goal.put_last-requires-clause-new
put_last-requires-clause-new g c =
    no_entry c.self.inside.loaded.entries c.args.self.now.loaded c.number-number.result c.self.invariant (ap (λ s. s.loaded) c.self.view_is) (ap (is_numbered c.args.self.now.loaded) c.number-number.ensures ∙ c.requires.new)

pub invariant_of-self : goal.invariant_of-self
invariant_of-self g c =
    let P : List (ℕ × Numbered) → Type 0 = λ es. AreKeyed es in
    subst P (sym c.put_last.ensures.entries) (more_keyed c.self.inside.loaded.entries c.number-number.result.number c.args.loaded c.self.invariant (ap (λ n. n.number) c.number-number.ensures))
