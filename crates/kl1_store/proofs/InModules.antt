-- What is to be reduced, while its store changes.
use Rattle.std.proofs.Common.{◌≡◌, ℕ, List, [], ◌∷◌, refl, sym, ap, ◌∙◌}
use Rattle.std.specs.Prelude.{Option, Some, None}
use Rattle.kl1_model.specs.Term.{Term, substituted, Replacement, replace}
use Rattle.kl1_model.specs.code.Unifying.{replaced}
use Rattle.kl1_store.specs.declared.cell.Cell.{Cell}
use Rattle.kl1_store.specs.declared.qualified.Qualified.{Qualified}
use Rattle.kl1_store.specs.Held.{Held, IsIn}
use Rattle.kl1_store.specs.Meaning.{term_of}
use Rattle.kl1_store.specs.Later.{IsLater}
use Rattle.kl1_store.specs.InModules.{in_module, qualified_term, qualified_list, AreQualifiedIn}

-- terms in place of variables go through the name of a module
pub in_module-substituted : {N : Type 0} (f : N → List ℕ) (m : Option N) (e : ℕ → Term) (t : Term) → substituted e (in_module f m t) ≡ in_module f m (substituted e t)
in_module-substituted f None e t = refl
in_module-substituted f (Some m) e t = refl

-- and so does a replacement
in_module-replace : {N : Type 0} (f : N → List ℕ) (m : Option N) (v : ℕ) (u t : Term) → replace v u (in_module f m t) ≡ in_module f m (replace v u t)
in_module-replace f None v u t = refl
in_module-replace f (Some m) v u t = refl

pub in_module-replaced : {N : Type 0} (f : N → List ℕ) (m : Option N) (rs : List Replacement) (t : Term) → replaced rs (in_module f m t) ≡ in_module f m (replaced rs t)
in_module-replaced f m [] t = refl
in_module-replaced f m (r ∷ rs) t = ap (replaced rs) (in_module-replace f m r.number r.by t) ∙ in_module-replaced f m rs (replace r.number r.by t)

-- if each cell means what it meant, so does what is to be reduced
pub qualified_kept : {N : Type 0} (f : N → List ℕ) (old new : Held N) (q : Qualified N) → ((x : Cell N) → IsIn old x → term_of f new x ≡ term_of f old x) → IsIn old q.cell → qualified_term f new q ≡ qualified_term f old q
qualified_kept f old new q kept h = ap (in_module f q.module_name) (kept q.cell h)

pub all_qualified_kept : {N : Type 0} (f : N → List ℕ) (old new : Held N) (qs : List (Qualified N)) → ((x : Cell N) → IsIn old x → term_of f new x ≡ term_of f old x) → AreQualifiedIn old qs → qualified_list f new qs ≡ qualified_list f old qs
all_qualified_kept f old new [] kept h = refl
all_qualified_kept f old new (q ∷ qs) kept h =
    ap (λ t. t ∷ qualified_list f new qs) (qualified_kept f old new q kept h.0) ∙ ap (λ ts. qualified_term f old q ∷ ts) (all_qualified_kept f old new qs kept h.1)

-- in a later store it is what it was, with the variables replaced that were bound since then
pub qualified_later : {N : Type 0} (f : N → List ℕ) (old new : Held N) (q : Qualified N) (l : IsLater f old new) → IsIn old q.cell → qualified_term f new q ≡ replaced l.replacements (qualified_term f old q)
qualified_later f old new q l h = ap (in_module f q.module_name) (l.means q.cell h) ∙ sym (in_module-replaced f q.module_name l.replacements (term_of f old q.cell))
