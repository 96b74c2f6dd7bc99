-- Variables that are put on a list of unbound ones.
use Rattle.std.proofs.Common.{◌≡◌, ℕ, suc, ◌≤◌, List, [], ◌∷◌, ◌++◌, sym, arith, subst}
use Rattle.kl1_store.specs.declared.cell.Cell.{Cell}
use Rattle.kl1_store.specs.declared.cell.Cell.TheVariants.{Variable}
use Rattle.kl1_store.specs.Held.{Held, IsIn, IsWalked}
use Rattle.kl1_store.specs.Unbound.{IsUnbound, AreUnbound}

AreUnbound-push : {N : Type 0} (h : Held N) (vs : List ℕ) (v : ℕ) → AreUnbound h vs → IsUnbound h v → AreUnbound h (vs ++ v ∷ [])
AreUnbound-push h [] v a u = (u, tt)
AreUnbound-push h (w ∷ vs) v a u = (a.0, AreUnbound-push h vs v a.1 u)

-- a cell of the store that stands for itself, and is a variable, is an unbound one
walked_unbound : {N : Type 0} (h : Held N) (x : Cell N) (v : ℕ) → x ≡ Variable v → IsIn h x → IsWalked h x → IsUnbound h v
walked_unbound {N = N} h x v e inside walked =
    let I : Cell N → Type 0 = λ c. IsIn h c in
    let W : Cell N → Type 0 = λ c. IsWalked h c in
    let below : suc v ≤ h.variables = subst I e inside in
    record { within = omega (arith, below); unbound = subst W e walked }

-- that variable after others
pub one_pushed : {N : Type 0} (h : Held N) (x : Cell N) (v : ℕ) (old new : List ℕ) → x ≡ Variable v → IsIn h x → IsWalked h x → new ≡ old ++ v ∷ [] → AreUnbound h old → AreUnbound h new
one_pushed {N = N} h x v old new e inside walked pushed unbound =
    let P : List ℕ → Type 0 = λ l. AreUnbound h l in
    subst P (sym pushed) (AreUnbound-push h old v unbound (walked_unbound h x v e inside walked))
