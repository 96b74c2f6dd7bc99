-- What a text is to its layout.
use Rattle.std.specs.Prelude.{◌≡◌, ◌≢◌, ℕ, ◌<◌, ◌≤◌, List, length, Some}
use Rattle.kl1_model.specs.declared.limits.TheConstants.{MOST_SOURCE_BYTES}
use Rattle.kl1_model.specs.Token.{tokens_of_text}
use Rattle.kl1_layout.specs.Layouts.{IsLayoutOf}
use Rattle.kl1_layout.specs.declared.verdict.Verdict.{Verdict}
use Rattle.kl1_layout.specs.declared.verdict.Verdict.TheVariants.{LaidOut, Differs, TooLong, Grows, Broken}

-- a source may have so many bytes
abbrev pub Fits : List ℕ → Type 0
Fits text = length text ≤ MOST_SOURCE_BYTES

-- a text is laid out; or another text is its layout, and a source may have that; or its layout is too long; or it has a byte that is no
-- token, on this line; or, only then, it is too long itself
abbrev pub IsVerdict : List ℕ → Verdict → Type 0
IsVerdict source LaidOut = Fits source × IsLayoutOf source source
IsVerdict source (Differs layout) = Fits source × IsLayoutOf source layout.items × (layout.items ≢ source) × Fits layout.items
IsVerdict source TooLong = MOST_SOURCE_BYTES < length source
IsVerdict source Grows = Fits source × ((layout : List ℕ) × (IsLayoutOf source layout × (MOST_SOURCE_BYTES < length layout)))
IsVerdict source (Broken line) = Fits source × ((tokens_of_text source).broken_at ≡ Some line)
