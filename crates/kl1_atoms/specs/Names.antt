-- What a seat knows: names that aren't built in, each with its number, in the order of their first use.
use Rattle.std.specs.Prelude.{◌≡◌, ℕ, ◌+◌, ◌<◌, ◌≤◌, ◌==◌, ◌⊎◌, if◌then◌else◌, List, [], ◌∷◌, ◌++◌, length, Option, Some, None, IsTrue, IsSome, is_some, bytes_eq}
use Rattle.kl1_model.specs.declared.limits.TheConstants.{FIRST_NUMBER}
use Rattle.kl1_model.specs.declared.built_in.BuiltIn.{BuiltIn}
use Rattle.kl1_model.specs.Text.{is_text, text_of}
use Rattle.kl1_text.specs.declared.atom_no.AtomNo.{AtomNo}
use Rattle.kl1_text.specs.BuiltIns.{place_of, built_in_at, built_in_of}
use Rattle.kl1_atoms.specs.declared.known.Known.{Known}

-- the number of a text among names
abbrev pub number_in : List Known → List ℕ → Option ℕ
number_in [] t = None
number_in (k ∷ ks) t = if bytes_eq k.text t then Some k.number.number else number_in ks t

-- the text of name `n` among names
abbrev pub text_in : List Known → ℕ → Option (List ℕ)
text_in [] n = None
text_in (k ∷ ks) n = if k.number.number == n then Some k.text else text_in ks n

-- the place of a built-in name, or another number
abbrev pub place_or : Option ℕ → Option BuiltIn → Option ℕ
place_or other (Some b) = Some (place_of b)
place_or other None = other

-- the text of a built-in name, or another text
abbrev pub text_or : Option (List ℕ) → Option BuiltIn → Option (List ℕ)
text_or other (Some b) = Some (text_of b)
text_or other None = other

-- the number by which a seat knows a text: a built-in name's place, or the number it was given
abbrev pub number_by : List Known → List ℕ → Option ℕ
number_by ks t = place_or (number_in ks t) (built_in_of t)

-- the text by which a seat knows a number
abbrev pub text_by : List Known → ℕ → Option (List ℕ)
text_by ks n = text_or (text_in ks n) (built_in_at n)

-- a text may be looked up: it is known, or fewer names are than there is room for
abbrev pub HasRoom : ℕ → List Known → List ℕ → Type 0
HasRoom room ks t = IsSome (number_by ks t) ⊎ (length ks < room)

-- what is known after a look-up: what was, and after it the pair asked for if it is new
abbrev pub added : List Known → List ℕ → AtomNo → List Known
added ks t a = if is_some (number_by ks t) then ks else ks ++ record { text = t; number = a } ∷ []

-- a look-up answers the text's number, and adds at most that pair to what is known
pub record Adds (old : List Known) (t : List ℕ) (a : AtomNo) (new : List Known) : Type 0 where
  pub known : new ≡ added old t a
  pub number : number_by new t ≡ Some a.number

-- a seat publishes names only while what it knows grows: it has published `before` names and then `after`, and knew `old` and knows `new`
pub record PublishesWithin (before after : ℕ) (old new : List Known) : Type 0 where
  pub more : before ≤ after
  pub within : after + length old ≤ before + length new

-- the numbers and the texts that are known are one to one, and each text is a name
pub record AreNames (ks : List Known) : Type 0 where
  pub texts : (t : List ℕ) (n : ℕ) → number_by ks t ≡ Some n → IsTrue (is_text t)
  pub back : (t : List ℕ) (n : ℕ) → number_by ks t ≡ Some n → text_by ks n ≡ Some t
  pub forth : (t : List ℕ) (n : ℕ) → text_by ks n ≡ Some t → number_by ks t ≡ Some n

-- a text, or bytes that are no name
abbrev pub text_or_mark : ℕ → ℕ → Option (List ℕ) → List ℕ
text_or_mark mark n (Some t) = t
text_or_mark mark n None = mark ∷ n ∷ []

-- numbers read as texts: a number that isn't known is read as a mark below 32 and the number, which is no name
abbrev pub reading : ℕ → List Known → AtomNo → List ℕ
reading mark ks a = text_or_mark mark a.number (text_by ks a.number)

-- each pair that is known stands in the table; `at n t` says that the number n has the text t there
pub record StandIn (at : ℕ → List ℕ → Type 0) (ks : List Known) : Type 0 where
  pub by_text : (t : List ℕ) (n : ℕ) → number_in ks t ≡ Some n → at n t
  pub by_number : (t : List ℕ) (n : ℕ) → text_in ks n ≡ Some t → at n t

-- the names in a table: none built in, each with a number from 64, and one to one
pub record IsTable (at : ℕ → List ℕ → Type 0) : Type 0 where
  pub names : (t : List ℕ) (n : ℕ) → at n t → IsTrue (is_text t)
  pub not_built_in : (t : List ℕ) (n : ℕ) → at n t → built_in_of t ≡ None
  pub from_64 : (t : List ℕ) (n : ℕ) → at n t → FIRST_NUMBER ≤ n
  pub one_text : (t u : List ℕ) (n : ℕ) → at n t → at n u → t ≡ u
  pub one_number : (t : List ℕ) (m n : ℕ) → at m t → at n t → m ≡ n
