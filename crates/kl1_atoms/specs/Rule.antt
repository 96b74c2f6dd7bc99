-- The rule of the shared table of names with n entries: two buckets for each of them, and after the buckets the entries, of `name_words` words.
use Rattle.std.specs.Prelude.{◌≡◌, ◌≢◌, ℕ, suc, ◌+◌, ◌*◌, ◌<◌, ◌≤◌, List, [], ◌∷◌, length, Some, None, IsTrue, slice_index}
use mathlib.Core.Option.{some}
use lib.ListN.{get_elem?}
use Rattle.kl1_model.specs.declared.limits.TheConstants.{FIRST_NUMBER}
use Rattle.kl1_model.specs.Text.{is_text}
use Rattle.kl1_text.specs.BuiltIns.{built_in_of}
use Rattle.kl1_text.specs.Words.{name_words, word_at, word_count}
use Rattle.atomic_table.specs.Table.{State}
use Rattle.kl1_atoms.specs.declared.face.Face.{Face}
use Rattle.kl1_atoms.specs.declared.face.Heard.{Heard}
use Rattle.kl1_atoms.specs.declared.face.View.{View}
use Rattle.kl1_atoms.specs.declared.known.Known.{Known}
use Rattle.kl1_atoms.specs.Names.{text_in, StandIn, AreNames}
use Rattle.kl1_atoms.specs.Way.{further}

-- the words of the table for each entry: two buckets, and the entry's words
abbrev pub words_each : ℕ
words_each = 2 + name_words

-- the place of an entry's word
abbrev pub word_place : ℕ → ℕ → ℕ → ℕ
word_place n e k = 2 * n + name_words * e + k

-- an entry's words are those of a text, up to the one in which it ends; whatever stands after that one isn't part of the text
abbrev pub Shows : ℕ → List ℕ → ℕ → List ℕ → Type 0
Shows n ws e t = (k : ℕ) → k < word_count t → slice_index ws (word_place n e k) ≡ word_at t k

-- a bucket points to an entry, whose text is a name that isn't built in
pub record Stands (n : ℕ) (ws : List ℕ) (i e : ℕ) (t : List ℕ) : Type 0 where
  pub bucket : i < 2 * n
  pub points : slice_index ws i ≡ suc e
  pub entry : e < n
  pub shows : Shows n ws e t
  pub name : IsTrue (is_text t)
  pub own : built_in_of t ≡ None

-- a number has a text if some bucket points to that entry, which has the text
abbrev pub At : ℕ → List ℕ → ℕ → List ℕ → Type 0
At n ws number t = (e : ℕ) × (i : ℕ) × (number ≡ FIRST_NUMBER + e) × Stands n ws i e t

-- each of the first d buckets of a text's way points to another text
abbrev pub Others : ℕ → List ℕ → List ℕ → ℕ → Type 0
Others n ws t d = (c : ℕ) → c < d → (e : ℕ) × (u : List ℕ) × Stands n ws (further n t c) e u × (u ≢ t)

-- a bucket lies on a text's way, and each before it points to another text
abbrev pub Reaches : ℕ → List ℕ → List ℕ → ℕ → Type 0
Reaches n ws t i = (d : ℕ) × (i ≡ further n t d) × Others n ws t d

-- the words between any two steps
pub record Sound (n : ℕ) (ws : List ℕ) : Type 0 where
  pub size : length ws ≡ words_each * n
  pub stands : (i e : ℕ) → i < 2 * n → slice_index ws i ≡ suc e → (t : List ℕ) × Stands n ws i e t × Reaches n ws t i
  pub once : (i j e : ℕ) → i < 2 * n → j < 2 * n → slice_index ws i ≡ suc e → slice_index ws j ≡ suc e → i ≡ j

-- no bucket points to an entry
abbrev pub Unpublished : ℕ → List ℕ → ℕ → Type 0
Unpublished n ws e = (i : ℕ) → i < 2 * n → slice_index ws i ≢ suc e

-- each of some sightings is so
abbrev pub AllStand : ℕ → List ℕ → List Heard → Type 0
AllStand n ws [] = Unit {0}
AllStand n ws (h ∷ hs) = Stands n ws h.bucket h.entry h.text × AllStand n ws hs

-- the first of an account's entries that it hasn't used
abbrev pub own_entry : Face → ℕ
own_entry f = f.first + f.used

-- what an account knows is so
pub record Fits (n : ℕ) (ws : List ℕ) (f : Face) : Type 0 where
  pub entries : f.entries ≡ n
  pub range : f.first + f.room ≤ n
  pub used_up : f.used ≤ length f.knows
  pub free : (j : ℕ) → f.used ≤ j → j < f.room → Unpublished n ws (f.first + j)
  pub known : StandIn (At n ws) f.knows
  pub heard : AllStand n ws f.heard
  pub drafted : (k : ℕ) → k < length f.draft → (k < name_words) × (f.used < f.room) × (slice_index ws (word_place n (own_entry f) k) ≡ slice_index f.draft k)

-- a face is one of a seat's
abbrev pub Mine : List View → ℕ → ℕ → Face → Type 0
Mine views id k f = (v : View) × (get_elem? views id ≡ some v) × (get_elem? v.faces k ≡ some f)

-- what an account knows is one to one, and each number is an entry's
pub record Listed (n : ℕ) (ks : List Known) : Type 0 where
  pub names : AreNames ks
  pub entries : (t : List ℕ) (m : ℕ) → text_in ks m ≡ Some t → (FIRST_NUMBER ≤ m) × (m < FIRST_NUMBER + n)

-- two accounts have an entry in common
abbrev pub Overlap : Face → Face → Type 0
Overlap f g = (f.first < g.first + g.room) × (g.first < f.first + f.room)

-- the rule: the words are sound, what each account knows is so, and no two faces have an entry in common
pub record Kept (n : ℕ) (s : State (Unit {0}) View) : Type 0 where
  pub sound : Sound n s.words
  pub fits : (id k : ℕ) (f : Face) → Mine s.views id k f → Fits n s.words f
  pub apart : (id other k l : ℕ) (f g : Face) → Mine s.views id k f → Mine s.views other l g → Overlap f g → (id ≡ other) × (k ≡ l)
