-- A look-up that publishes nothing.
use Rattle.std.specs.Prelude.{◌≡◌, ℕ, ◌+◌, ◌*◌, ◌<◌, ◌≤◌, List, None}
use Rattle.kl1_atoms.specs.declared.face.Face.{Face}
use Rattle.kl1_atoms.specs.declared.face.Heard.{Heard}
use Rattle.kl1_atoms.specs.declared.sought.Glance.{Glance}
use Rattle.kl1_atoms.specs.declared.sought.Glance.TheVariants.{Free, Holds, Other}
use Rattle.kl1_atoms.specs.declared.sought.Sought.{Sought}
use Rattle.kl1_atoms.specs.declared.sought.Sought.TheVariants.{Found, Free as FreeAt}
use Rattle.kl1_atoms.specs.Names.{number_in}
use Rattle.kl1_atoms.specs.Plays.{In, Passed, EachAgrees, NoneKnows}
use Rattle.kl1_atoms.specs.Rounds.{SameAccount}

-- a face that has only seen more
pub record Saw (f g : Face) : Type 0 where
  pub same : SameAccount f g
  pub used : g.used ≡ f.used
  pub knows : g.knows ≡ f.knows
  pub draft : g.draft ≡ f.draft

-- a text was seen at a bucket that points to an entry
pub record HasSeen (f : Face) (t : List ℕ) (i e : ℕ) : Type 0 where
  pub sighting : Heard
  pub seen : In f.heard sighting
  pub bucket : sighting.bucket ≡ i
  pub entry : sighting.entry ≡ e
  pub text : sighting.text ≡ t

-- a face has noted that an entry of a text is published
abbrev pub HasNoted : Face → List ℕ → Type 0
HasNoted f t = (h : Heard) × In f.heard h × (h.text ≡ t)

-- what a glance at a bucket tells, `d` after the first of the text's way
abbrev pub Glances : Face → Face → List ℕ → ℕ → ℕ → Glance → Type 0
Glances f g t i d Free = Saw f g × Passed g t d × (d ≤ f.entries) × (number_in f.knows t ≡ None)
Glances f g t i d (Holds e) = Saw f g × HasSeen g t i e × (e < f.entries)
Glances f g t i d Other = Saw f g × Passed g t (d + 1) × (d ≤ f.entries)

-- what it tells of the accounts after a seat's own
abbrev pub GlancesOthers : Face → List Face → List ℕ → Glance → Type 0
GlancesOthers f fs t Free = EachAgrees f.knows fs × NoneKnows fs t
GlancesOthers f fs t (Holds e) = EachAgrees f.knows fs
GlancesOthers f fs t Other = EachAgrees f.knows fs

-- where a text's way ended
abbrev pub Finds : Face → Face → List ℕ → Sought → Type 0
Finds f g t (Found i e) = Saw f g × HasSeen g t i e × (i < 2 * f.entries) × (e < f.entries)
Finds f g t (FreeAt d) = Saw f g × Passed g t d × (d ≤ f.entries) × (number_in f.knows t ≡ None)

-- what that tells of the accounts after a seat's own
abbrev pub FindsOthers : Face → List Face → List ℕ → Sought → Type 0
FindsOthers f fs t (Found i e) = EachAgrees f.knows fs
FindsOthers f fs t (FreeAt d) = EachAgrees f.knows fs × NoneKnows fs t

-- how many turns were added: one for each bucket that was looked at
abbrev pub Ticks : ℕ → ℕ → ℕ → Sought → Type 0
Ticks old new n (Found i e) = (old < new) × (new ≤ old + 2 * n)
Ticks old new n (FreeAt d) = new ≡ old + d + 1
