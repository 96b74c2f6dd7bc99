-- What is remembered of comparisons.
use Rattle.std.specs.Prelude.{◌≡◌, ℕ, Bool, true, List, [], Option, Some, None}
use Rattle.std.specs.List.{All}
use Rattle.kl1_model.specs.declared.built_in.BuiltIn.{BuiltIn}
use Rattle.kl1_store.specs.declared.cell.Cell.TheVariants.{Structure}
use Rattle.kl1_store.specs.declared.same_scratch.Remembered.{Remembered}
use Rattle.kl1_store.specs.declared.same_scratch.SameScratch.{SameScratch}
use Rattle.kl1_store.specs.Held.{Held}
use Rattle.kl1_store.specs.Sameness.{AlikeAs}
use Rattle.kl1_store.specs.Resting.{IsLeft}

-- a comparison gave what passive equality of its two structures gives, beginning with no variables, and if it is worth keeping, this is left
abbrev pub IsRemembered : {N : Type 0} → (BuiltIn → N) → Held N → Remembered → Type 0
IsRemembered built h r = AlikeAs built h (Structure r.left) (Structure r.right) [] r.waits.items r.alike × (r.is_worth_keeping ≡ true → IsLeft built h r.left r.right r.pairs.items)

-- each comparison that is remembered gave what passive equality gives, over what is held
abbrev pub Remembers : {N : Type 0} → (BuiltIn → N) → Held N → SameScratch → Type 0
Remembers built h s = All (IsRemembered built h) s.remembered.items

-- what is recalled of two structures is what comparing them gives; if nothing is, nothing is added
abbrev pub RecalledAs : {N : Type 0} → (BuiltIn → N) → Held N → ℕ → ℕ → List ℕ → List ℕ → Option Bool → Type 0
RecalledAs built h left right before after None = after ≡ before
RecalledAs built h left right before after (Some alike) = AlikeAs built h (Structure left) (Structure right) before after alike
