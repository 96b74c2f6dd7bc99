-- Control streams in an account with other numbers for its variables.
use Rattle.std.proofs.Common.{◌≡◌, ℕ, Bool, true, false, if◌then◌else◌, refl, ap, ◌∙◌}
use Rattle.std.specs.Prelude.{bytes_eq, codes, pos, negsuc}
use Rattle.kl1_model.specs.declared.message.Message.{Message}
use Rattle.kl1_model.specs.declared.message.Message.TheVariants.{Stop, Start, Abort}
use Rattle.kl1_model.specs.Term.{Term, variable, integer, atom, structure, none, more}
use Rattle.kl1_model.specs.Found.{Found, found, awaits, wrong}
use Rattle.kl1_model.specs.Control.{allow_word, word_of, Control, awaits_message, tells, tells_other, ends, breaks_off, control_of}
use Rattle.kl1_model.specs.laws.RelabelLaws.{renamed, found_renamed}
use Rattle.kl1_model.proofs.RenamedMoves.{if_found}

abbrev pub control_renamed : (ℕ → ℕ) → Control → Control
control_renamed g (awaits_message v) = awaits_message (g v)
control_renamed g (tells m rest) = tells m (renamed g rest)
control_renamed g (tells_other m rest) = tells_other (renamed g m) (renamed g rest)
control_renamed g ends = ends
control_renamed g (breaks_off t) = breaks_off (renamed g t)

allow_is : (g : ℕ → ℕ) (t : Term) → allow_word (renamed g t) ≡ found_renamed g (allow_word t)
allow_is g (variable v) = refl
allow_is g (integer (pos n)) = refl
allow_is g (integer (negsuc n)) = refl
allow_is g (atom a) = refl
allow_is g (structure f ts) = refl

words_is : (g : ℕ → ℕ) (c d e : Bool) (x y z : Message) → (if c then found x else if d then found y else if e then found z else wrong) ≡ found_renamed g (if c then found x else if d then found y else if e then found z else wrong)
words_is g true d e x y z = refl
words_is g false true e x y z = refl
words_is g false false true x y z = refl
words_is g false false false x y z = refl

word_is : (g : ℕ → ℕ) (t : Term) → word_of (renamed g t) ≡ found_renamed g (word_of t)
word_is g (variable v) = refl
word_is g (integer i) = refl
word_is g (atom a) = words_is g (bytes_eq a (codes "stop")) (bytes_eq a (codes "start")) (bytes_eq a (codes "abort")) Stop Start Abort
word_is g (structure f none) = refl
word_is g (structure f (more n none)) = if_found g (bytes_eq f (codes "allow")) (allow_word (renamed g n)) wrong (allow_word n) wrong (allow_is g n) refl
word_is g (structure f (more a (more b us))) = refl

front_is : (g : ℕ → ℕ) (m rest : Term) (w : Found Message) →
    elim (found_renamed g w) [ found message ↦ tells message (renamed g rest) | awaits v ↦ awaits_message v | wrong ↦ tells_other (renamed g m) (renamed g rest) ]
    ≡ control_renamed g (elim w [ found message ↦ tells message rest | awaits v ↦ awaits_message v | wrong ↦ tells_other m rest ])
front_is g m rest (found n) = refl
front_is g m rest (awaits v) = refl
front_is g m rest wrong = refl

if_control : (g : ℕ → ℕ) (c : Bool) (x y u v : Control) → x ≡ control_renamed g u → y ≡ control_renamed g v → (if c then x else y) ≡ control_renamed g (if c then u else v)
if_control g true x y u v e f = e
if_control g false x y u v e f = f

abbrev front : Term → Term → Found Message → Control
front m rest w = elim w [ found message ↦ tells message rest | awaits v ↦ awaits_message v | wrong ↦ tells_other m rest ]

pub control_is : (g : ℕ → ℕ) (t : Term) → control_of (renamed g t) ≡ control_renamed g (control_of t)
control_is g (variable v) = refl
control_is g (integer i) = refl
control_is g (atom a) = if_control g (bytes_eq a (codes "[]")) ends (breaks_off (atom a)) ends (breaks_off (atom a)) refl refl
control_is g (structure f none) = refl
control_is g (structure f (more m none)) = refl
control_is g (structure f (more m (more rest none))) =
    if_control g (bytes_eq f (codes ".")) (front (renamed g m) (renamed g rest) (word_of (renamed g m))) (breaks_off (structure f (more (renamed g m) (more (renamed g rest) none))))
    (front m rest (word_of m)) (breaks_off (structure f (more m (more rest none))))
    (ap (front (renamed g m) (renamed g rest)) (word_is g m) ∙ front_is g m rest (word_of m)) refl
control_is g (structure f (more a (more b (more c us)))) = refl
