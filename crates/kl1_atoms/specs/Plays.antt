-- What each step on the shared table tells the seat that takes it.
use Rattle.std.specs.Prelude.{◌≡◌, ◌≢◌, ℕ, suc, ◌+◌, ◌*◌, ◌<◌, ◌≤◌, ◌⊎◌, Bool, true, false, List, [], ◌∷◌, ◌++◌, Some, None, IsTrue}
use Rattle.kl1_model.specs.declared.limits.TheConstants.{FIRST_NUMBER}
use Rattle.kl1_model.specs.Text.{is_text}
use Rattle.kl1_text.specs.BuiltIns.{built_in_of}
use Rattle.kl1_text.specs.Words.{bytes_of, word_at, word_count, words_to_end}
use Rattle.atomic_table.specs.Table.{Step, Me}
use Rattle.kl1_atoms.specs.declared.known.Known.{Known}
use Rattle.kl1_atoms.specs.declared.face.Face.{Face}
use Rattle.kl1_atoms.specs.declared.face.Heard.{Heard}
use Rattle.kl1_atoms.specs.declared.face.View.{View}
use Rattle.kl1_atoms.specs.Names.{number_by, number_in, text_in, added}
use Rattle.kl1_atoms.specs.Way.{further}
use Rattle.kl1_atoms.specs.Rule.{word_place, own_entry, Listed}

-- no account's face
abbrev pub no_face : Face
no_face = record { entries = 0; first = 0; room = 0; used = 0; knows = []; heard = []; draft = [] }

-- the first of some faces
abbrev pub first_of : List Face → Face
first_of [] = no_face
first_of (f ∷ fs) = f

-- whether there is a first face
abbrev pub has_first : List Face → Bool
has_first [] = false
has_first (f ∷ fs) = true

-- faces with another first one
abbrev pub with_first : List Face → Face → List Face
with_first [] g = g ∷ []
with_first (f ∷ fs) g = g ∷ fs

-- the faces after the first
abbrev pub others_of : List Face → List Face
others_of [] = []
others_of (f ∷ fs) = fs

-- a seat's own face: the first of its view
abbrev pub own : View → Face
own v = first_of v.faces

-- a sighting is one of some
abbrev pub In : List Heard → Heard → Type 0
In [] h = ⊥
In (x ∷ hs) h = (x ≡ h) ⊎ In hs h

-- each of the first d buckets of a text's way was seen to point to another text
abbrev pub Passed : Face → List ℕ → ℕ → Type 0
Passed f t d = (c : ℕ) → c < d → (h : Heard) × In f.heard h × (h.bucket ≡ further f.entries t c) × (h.text ≢ t)

-- a face that has seen one more text
abbrev pub heard_more : Face → Heard → Face
heard_more f h = record { entries = f.entries; first = f.first; room = f.room; used = f.used; knows = f.knows; heard = h ∷ f.heard; draft = f.draft }

-- a bucket that isn't free was seen: it points to an entry with a text
abbrev pub Sees : Face → Face → ℕ → ℕ → Type 0
Sees f g i found = (h : Heard) × (found ≡ suc h.entry) × (h.bucket ≡ i) × (h.entry < f.entries) × IsTrue (is_text h.text) × (g ≡ heard_more f h)

-- a look at a bucket: what is known is one to one, no more buckets were passed than there are entries, a free bucket at the end of
-- a text's way shows that the text isn't known, and another bucket is seen
pub record Looks (f g : Face) (i found : ℕ) : Type 0 where
  pub names : Listed f.entries f.knows
  pub few : (t : List ℕ) (d : ℕ) → d ≤ 2 * f.entries → Passed f t d → d ≤ f.entries
  pub unknown : found ≡ 0 → (t : List ℕ) (d : ℕ) → i ≡ further f.entries t d → Passed f t d → number_in f.knows t ≡ None
  pub change : ((found ≡ 0) × (g ≡ f)) ⊎ Sees f g i found

-- a text that two accounts know, they know by one number
abbrev pub Agreed : List Known → List Known → Type 0
Agreed ks ls = (t : List ℕ) (m n : ℕ) → number_in ks t ≡ Some m → number_in ls t ≡ Some n → m ≡ n

-- an account and each of some others agree
abbrev pub EachAgrees : List Known → List Face → Type 0
EachAgrees ks [] = Unit {0}
EachAgrees ks (g ∷ gs) = Agreed ks g.knows × EachAgrees ks gs

-- none of some accounts knows a text
abbrev pub NoneKnows : List Face → List ℕ → Type 0
NoneKnows [] t = Unit {0}
NoneKnows (g ∷ gs) t = (number_in g.knows t ≡ None) × NoneKnows gs t

-- what a look at a bucket tells of the accounts after a seat's own: they agree with it, and a free bucket at the end of a text's
-- way shows that none of them knows the text
pub record Meets (f : Face) (fs : List Face) (i found : ℕ) : Type 0 where
  pub agree : EachAgrees f.knows fs
  pub unknown : found ≡ 0 → (t : List ℕ) (d : ℕ) → i ≡ further f.entries t d → Passed f t d → NoneKnows fs t

-- a read of a word: of an entry that was seen, it is the text's word, if the text goes so far, and likewise of an entry whose name is
-- known; what is known is a name
pub record Reads (f : Face) (place found : ℕ) : Type 0 where
  pub seen : (h : Heard) (k : ℕ) → In f.heard h → k < word_count h.text → place ≡ word_place f.entries h.entry k → found ≡ word_at h.text k
  pub known : (t : List ℕ) (e k : ℕ) → text_in f.knows (FIRST_NUMBER + e) ≡ Some t → k < word_count t → place ≡ word_place f.entries e k → found ≡ word_at t k
  pub names : (t : List ℕ) (e : ℕ) → text_in f.knows (FIRST_NUMBER + e) ≡ Some t → IsTrue (is_text t)

-- a face that has drafted one more word
abbrev pub drafted_more : Face → ℕ → Face
drafted_more f w = record { entries = f.entries; first = f.first; room = f.room; used = f.used; knows = f.knows; heard = f.heard; draft = f.draft ++ w ∷ [] }

-- the pair that a face publishes: its draft and its entry's number
abbrev pub own_pair : Face → Known
own_pair f = record { text = bytes_of f.draft; number = record { number = FIRST_NUMBER + own_entry f } }

-- a face may publish its draft, the words of a text up to its end, in a bucket of the text's way: all before it were passed
pub record IsReady (f : Face) (t : List ℕ) (d i : ℕ) : Type 0 where
  pub room : f.used < f.room
  pub bucket : i < 2 * f.entries
  pub way : i ≡ further f.entries t d
  pub passed : Passed f t d
  pub draft : f.draft ≡ words_to_end t
  pub name : IsTrue (is_text t)
  pub other : built_in_of t ≡ None

-- a face that has published its draft
abbrev pub published_by : Face → Face
published_by f = record { entries = f.entries; first = f.first; room = f.room; used = f.used + 1; knows = f.knows ++ own_pair f ∷ []; heard = []; draft = [] }

-- an exchange of a free bucket for one's own entry: it published the entry, or the bucket's winner is seen
abbrev pub Publishes : Face → Face → ℕ → ℕ → Type 0
Publishes f g i found = ((found ≡ 0) × (g ≡ published_by f) × Listed g.entries g.knows) ⊎ Sees f g i found

-- a face that knows one text more, by the number of the entry where it was seen
abbrev pub learned : Face → Heard → Face
learned f h = record { entries = f.entries; first = f.first; room = f.room; used = f.used; knows = added f.knows h.text record { number = FIRST_NUMBER + h.entry }; heard = []; draft = [] }

-- a look at a bucket that was seen: the seat knows its text from then on
pub record Learns (f g : Face) (i : ℕ) : Type 0 where
  pub names : Listed g.entries g.knows
  pub change : (h : Heard) → In f.heard h → h.bucket ≡ i → g ≡ learned f h
  pub number : (h : Heard) → In f.heard h → h.bucket ≡ i → number_by g.knows h.text ≡ Some (FIRST_NUMBER + h.entry)

-- a step that changes a seat's own face alone, and takes no slot
pub record Steps {S : Type 0} (before after : Me S View) (P : Face → Face → Type 0) : Type 0 where
  pub slots : after.1 ≡ before.1
  pub faces : after.0.faces ≡ with_first before.0.faces (own after.0)
  pub tells : P (own before.0) (own after.0)

-- a step that looks at a bucket: what its answer tells of the seat's own face, and of those after it
abbrev pub LooksAt : {S : Type 0} → Step S → Me S View → ℕ → Me S View → Type 0
LooksAt s before found after = Steps before after (λ f g. Looks f g s.word found) × Meets (own before.0) (others_of before.0.faces) s.word found

-- a step that reads a word: it changes nothing, and answers the word of what the seat's own face has seen or knows there
abbrev pub ReadsAt : {S : Type 0} → Step S → Me S View → ℕ → Me S View → Type 0
ReadsAt s before found after = (after ≡ before) × Reads (own before.0) s.word found

-- a step that drafts a word: the seat's own face has drafted one more
abbrev pub DraftsAt : {S : Type 0} → Step S → Me S View → ℕ → Me S View → Type 0
DraftsAt s before found after = Steps before after (λ f g. g ≡ drafted_more f s.first)

-- a step that puts an own entry in a bucket if that is free: the seat's own face has published its draft, or has seen the winner
abbrev pub PublishesAt : {S : Type 0} → Step S → Me S View → ℕ → Me S View → Type 0
PublishesAt s before found after = Steps before after (λ f g. Publishes f g s.word found)

-- a step that looks at a bucket that was seen: the seat's own face knows its text
abbrev pub LearnsAt : {S : Type 0} → Step S → Me S View → ℕ → Me S View → Type 0
LearnsAt s before found after = Steps before after (λ f g. Learns f g s.word)
