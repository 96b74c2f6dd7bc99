-- What is read exactly.
use Rattle.std.specs.Prelude.{◌≡◌, ℕ, Bool, true, false, if◌then◌else◌, List, bytes_eq, Option, Some, None, option_and_then}
use Rattle.std.proofs.Common.{refl, sym, ap, ◌∙◌}
use Rattle.std.proofs.lemmas.Option.{none-some, same_Some}
use Rattle.std.proofs.lemmas.Slice.Eq.{bytes_eq-Decides}
use Rattle.kl1_model_server.specs.JournalText.{exactly}

-- what is read from its print is read exactly
pub exactly_back : {A : Type 0} (print : A → List ℕ) (read : List ℕ → Option A) (a : A) → read (print a) ≡ Some a → exactly print read (print a) ≡ Some a
exactly_back {A} print read a h =
    ap (option_and_then (λ b. if bytes_eq (print b) (print a) then Some b else None)) h
    ∙ ap (λ x. if◌then◌else◌ {A = Option A} x (Some a) None) ((bytes_eq-Decides (print a) (print a)).1 refl)

by_line : {A : Type 0} (print : A → List ℕ) (line : List ℕ) (b a : A) (x : Bool) → bytes_eq (print b) line ≡ x → if◌then◌else◌ {A = Option A} x (Some b) None ≡ Some a → (b ≡ a) × (print a ≡ line)
by_line print line b a true is h = (same_Some b a h, ap print (sym (same_Some b a h)) ∙ (bytes_eq-Decides (print b) line).0 is)
by_line print line b a false is h = absurd (none-some a h)

by_option : {A : Type 0} (print : A → List ℕ) (line : List ℕ) (o : Option A) (a : A) → option_and_then (λ b. if bytes_eq (print b) line then Some b else None) o ≡ Some a → (o ≡ Some a) × (print a ≡ line)
by_option print line None a h = absurd (none-some a h)
by_option print line (Some b) a h =
    let both = by_line print line b a (bytes_eq (print b) line) refl h in
    (ap (λ x. Some x) both.0, both.1)

-- a line that is read exactly is the print of what it is read as
pub exactly_strict : {A : Type 0} (print : A → List ℕ) (read : List ℕ → Option A) (line : List ℕ) (a : A) → exactly print read line ≡ Some a → (read line ≡ Some a) × (print a ≡ line)
exactly_strict print read line a h = by_option print line (read line) a h
