-- What was said of one account, said of it at its place among the others.
use Rattle.std.proofs.Common.{◌≡◌, ℕ, ◌<◌, List, sym, ap, ◌∙◌, subst, length, arith}
use Rattle.std.specs.Prelude.{OnErr, Ok, Err, slice_set}
use Rattle.std.specs.declared.result.Result.{Result}
use Rattle.std.proofs.lemmas.List.{length-set, get_or-set_other}
use Rattle.kl1_command.specs.declared.performed.Performed.{Performed}
use Rattle.kl1_command.specs.declared.performed.Performed.TheVariants as performed
use Rattle.kl1_command.specs.Performing.{IsUntouched}
use Rattle.kl1_journal.specs.Keeping.{Held, nobody}
use Rattle.kl1_world.specs.Worlds.{account_in, all_but}
use Rattle.kl1_world.proofs.Seated.{all_but_same}

-- of two accounts under other names
pub moved : (P : Held → Held → Type 0) (a b old new : Held) → a ≡ old → b ≡ new → P a b → P old new
moved P a b old new was is h = subst (λ x. P x new) was (subst (λ y. P a y) is h)

-- what holds if a call failed, and what follows from it
pub on_err : {T E : Type 0} (r : Result T E) (P Q : Type 0) → (P → Q) → OnErr r P → OnErr r Q
on_err (Ok x) P Q f h = h
on_err (Err e) P Q f h = f h

-- a place stays one
pub still_within : {X : Type 0} (xs : List X) (n at : ℕ) (y : X) → at < length xs → at < length (slice_set xs n y)
still_within xs n at y less = let e = length-set xs n y in omega (arith, e, less)

-- what a command that wanted memory at once leaves
pub untouched_first : (r : Performed) (a b : List Held × ℕ) → IsUntouched r a b → IsUntouched r a.0 b.0
untouched_first (performed.Whole reply) a b h = tt
untouched_first (performed.Short n) a b h = tt
untouched_first performed.Memory a b h = ap (λ p. p.0) h

-- accounts that are the same but for one are as many, and each other one is the same
pub as_many_but : (old new : List Held) (n : ℕ) → all_but n new ≡ all_but n old → length new ≡ length old
as_many_but old new n e = sym (length-set new n nobody) ∙ ap length e ∙ length-set old n nobody

pub same_but : (old new : List Held) (n u : ℕ) → all_but n new ≡ all_but n old → (u ≡ n → ⊥) → account_in new u ≡ account_in old u
same_but old new n u e apart = sym (get_or-set_other new n u nobody nobody apart) ∙ ap (λ us. account_in us u) e ∙ get_or-set_other old n u nobody nobody apart

-- what was said of account `n`, said of the one to which commands are done
pub hosted : (P : Held → Held → Type 0) (old new : List Held × ℕ) (n : ℕ) → n ≡ old.1 → new.1 ≡ old.1 → P (account_in old.0 n) (account_in new.0 n) → P (account_in old.0 old.1) (account_in new.0 new.1)
hosted P old new n is kept h = subst (λ m. P (account_in old.0 old.1) (account_in new.0 m)) (sym kept) (subst (λ m. P (account_in old.0 m) (account_in new.0 m)) is h)

-- the accounts but for that to which commands are done, and its number
abbrev pub beside_of : List Held × ℕ → List Held × ℕ
beside_of w = (all_but w.1 w.0, w.1)

-- all but that account stay
pub beside_same : (old new : List Held × ℕ) (n : ℕ) → n ≡ old.1 → new.1 ≡ old.1 → new.0 ≡ slice_set old.0 n (account_in new.0 n) → beside_of new ≡ beside_of old
beside_same old new n is kept others =
    let left = all_but_same old.0 new.0 n (account_in new.0 n) others in
    let P : ℕ → List Held × ℕ = λ m. (all_but m new.0, m) in
    let Q : List Held → List Held × ℕ = λ us. (us, old.1) in
    ap P kept ∙ ap Q (subst (λ m. all_but m new.0 ≡ all_but m old.0) is left)
