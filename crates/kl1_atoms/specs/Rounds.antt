-- What a look-up does to a seat's own face, bucket by bucket.
use Rattle.std.specs.Prelude.{◌≡◌, ℕ, ◌+◌, ◌<◌, ◌≤◌, Bool, true, if◌then◌else◌, List, [], length, IsTrue, None}
use Rattle.kl1_model.specs.declared.limits.TheConstants.{FIRST_NUMBER}
use Rattle.kl1_model.specs.Text.{is_text}
use Rattle.kl1_text.specs.BuiltIns.{built_in_of}
use Rattle.kl1_text.specs.Words.{words_to_end}
use Rattle.kl1_atoms.specs.declared.face.Face.{Face}
use Rattle.kl1_atoms.specs.declared.round.Round.{Round}
use Rattle.kl1_atoms.specs.declared.round.Round.TheVariants.{Found, Made, Other}
use Rattle.kl1_atoms.specs.Names.{HasRoom, Adds, PublishesWithin}
use Rattle.kl1_atoms.specs.Rule.{own_entry, Listed}
use Rattle.kl1_atoms.specs.Plays.{Passed}

-- the words that are drafted, if any are
abbrev pub draft_of : Bool → List ℕ → List ℕ
draft_of drafted t = if drafted then words_to_end t else []

-- a face at the start of a look-up of a text
pub record Starts (f : Face) (t : List ℕ) : Type 0 where
  pub name : IsTrue (is_text t)
  pub room : HasRoom f.room f.knows t
  pub used_up : f.used ≤ length f.knows
  pub draft : f.draft ≡ []
  pub names : Listed f.entries f.knows

-- a face in a look-up of a text, which has passed `d` buckets
pub record Walks (f : Face) (t : List ℕ) (d : ℕ) (drafted : Bool) : Type 0 where
  pub name : IsTrue (is_text t)
  pub other : built_in_of t ≡ None
  pub room : HasRoom f.room f.knows t
  pub used_up : f.used ≤ length f.knows
  pub passed : Passed f t d
  pub draft : f.draft ≡ draft_of drafted t
  pub drafted_room : drafted ≡ true → f.used < f.room

-- two faces are of one account
pub record SameAccount (f g : Face) : Type 0 where
  pub entries : g.entries ≡ f.entries
  pub first : g.first ≡ f.first
  pub room : g.room ≡ f.room

-- a face that has drafted words
pub record Drafts (f g : Face) (ws : List ℕ) : Type 0 where
  pub same : SameAccount f g
  pub used : g.used ≡ f.used
  pub knows : g.knows ≡ f.knows
  pub heard : g.heard ≡ f.heard
  pub draft : g.draft ≡ ws

-- the end of a look-up: the text is known by its number, an entry was used only if it is known anew, and no draft is kept
pub record Ends (f g : Face) (t : List ℕ) (number : ℕ) : Type 0 where
  pub same : SameAccount f g
  pub adds : Adds f.knows t record { number = number } g.knows
  pub names : Listed g.entries g.knows
  pub used_up : g.used ≤ length g.knows
  pub publishes : PublishesWithin f.used g.used f.knows g.knows
  pub draft : g.draft ≡ []

-- a face that goes on with the look-up, as far as a comparison tells
pub record GoesOn (f g : Face) (t : List ℕ) (d : ℕ) (drafted : Bool) : Type 0 where
  pub same : SameAccount f g
  pub used : g.used ≡ f.used
  pub knows : g.knows ≡ f.knows
  pub walks : Walks g t d drafted
  pub few : d ≤ f.entries + 1

-- a look-up under way: the same account, which knows what it knew
pub record OnTheWay (f g : Face) (t : List ℕ) (d : ℕ) (drafted : Bool) : Type 0 where
  pub same : SameAccount f g
  pub used : g.used ≡ f.used
  pub knows : g.knows ≡ f.knows
  pub walks : Walks g t d drafted

-- what a comparison gives; no more buckets were passed than there are entries
abbrev pub Compares : Face → Face → List ℕ → ℕ → Bool → Round → Type 0
Compares f g t d drafted (Found e) = Ends f g t (FIRST_NUMBER + e) × (g.used ≡ f.used) × (e < f.entries) × (d ≤ f.entries)
Compares f g t d drafted Made = ⊥
Compares f g t d drafted (Other still) = GoesOn f g t (d + 1) drafted × (still ≡ drafted)

-- what a bucket gives
abbrev pub Gives : Face → Face → List ℕ → ℕ → Round → Type 0
Gives f g t d (Found e) = Ends f g t (FIRST_NUMBER + e) × (g.used ≡ f.used) × (e < f.entries) × (d ≤ f.entries)
Gives f g t d Made = Ends f g t (FIRST_NUMBER + own_entry f) × (g.used ≡ f.used + 1) × (f.used < f.room) × (d ≤ f.entries)
Gives f g t d (Other drafted) = GoesOn f g t (d + 1) drafted
