-- What accounts are called by their numbers.
use Rattle.std.proofs.Common.{◌≡◌, ℕ, ◌<◌, ◌≤◌, List, length, Some, slice_get, ap, sym, ◌∙◌, arith}
use Rattle.std.proofs.lemmas.Option.{slice_get_within}
use Rattle.kl1_pool.specs.Names.{called_at, is_called}

-- an account whose number is beyond the list may be called anything
pub called_beyond : (names : List (List ℕ)) (account : ℕ) (own : List ℕ) → length names ≤ account → called_at names account own
called_beyond names account own far = λ name at.
    let few : account < length names = slice_get_within names account name at in
    absurd (omega (arith, far, few))

-- an account is called as the list has it, if it is called by the name that stands there
pub called_so : (names : List (List ℕ)) (account : ℕ) (name own : List ℕ) → slice_get names account ≡ Some name → is_called name own → called_at names account own
called_so names account name own at is = λ other there.
    let same : name ≡ other = let e : Some name ≡ Some other = sym at ∙ there in cc in
    is ∙ same

-- so is one of the same number
pub called_there : (names : List (List ℕ)) (a b : ℕ) (own : List ℕ) → a ≡ b → called_at names a own → called_at names b own
called_there names a b own same called = λ name at. called name (ap (slice_get names) same ∙ at)
