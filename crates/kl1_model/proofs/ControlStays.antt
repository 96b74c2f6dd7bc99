-- What stands at the front of a control stream when variables are replaced.
use Rattle.std.proofs.Common.{◌≡◌, ℕ, Bool, true, false, if◌then◌else◌, List, refl, ap, ◌∙◌}
use Rattle.std.specs.Prelude.{codes, bytes_eq, pos, negsuc}
use Rattle.kl1_model.specs.Term.{Term, variable, integer, atom, structure, none, more, substituted}
use Rattle.kl1_model.specs.Control.{allow_word, word_of, Control, awaits_message, tells, tells_other, ends, breaks_off, control_of}
use Rattle.kl1_model.specs.code.Waits.{awaited_by_control, awaited_by_found}
use Rattle.kl1_model.specs.code.Waits.{LeavesEach}
use Rattle.kl1_model.specs.laws.WaitsLaws.{control_substituted, ControlStays}
use Rattle.kl1_model.specs.Found.{Found, found, awaits, wrong}
use Rattle.kl1_model.specs.declared.message.Message.{Message}

-- what an element at the front of a control stream comes to, with the rest after it
abbrev pub control_by : Term → Term → Found Message → Control
control_by m rest w = elim w [ found message ↦ tells message rest | awaits v ↦ awaits_message v | wrong ↦ tells_other m rest ]

allow_stays : (s : ℕ → Term) (t : Term) → LeavesEach s (awaited_by_found (allow_word t)) → allow_word (substituted s t) ≡ allow_word t
allow_stays s (variable v) l = ap allow_word l.0
allow_stays s (integer (pos n)) l = refl
allow_stays s (integer (negsuc n)) l = refl
allow_stays s (atom a) l = refl
allow_stays s (structure f ts) l = refl

one_stays : (s : ℕ → Term) (c : Bool) (t : Term) → LeavesEach s (awaited_by_found (if c then allow_word t else wrong)) → (if c then allow_word (substituted s t) else wrong) ≡ (if c then allow_word t else wrong)
one_stays s true t l = allow_stays s t l
one_stays s false t l = refl

word_stays : (s : ℕ → Term) (t : Term) → LeavesEach s (awaited_by_found (word_of t)) → word_of (substituted s t) ≡ word_of t
word_stays s (variable v) l = ap word_of l.0
word_stays s (integer i) l = refl
word_stays s (atom a) l = refl
word_stays s (structure f none) l = refl
word_stays s (structure f (more n none)) l = one_stays s (bytes_eq f (codes "allow")) n l
word_stays s (structure f (more a (more b us))) l = refl

word_left : (s : ℕ → Term) (m rest : Term) (w : Found Message) → LeavesEach s (awaited_by_control (control_by m rest w)) → LeavesEach s (awaited_by_found w)
word_left s m rest (found n) l = tt
word_left s m rest wrong l = tt
word_left s m rest (awaits v) l = l

front_substituted : (s : ℕ → Term) (m rest : Term) (w : Found Message) → control_by (substituted s m) (substituted s rest) w ≡ control_substituted s (control_by m rest w)
front_substituted s m rest (found n) = refl
front_substituted s m rest wrong = refl
front_substituted s m rest (awaits v) = refl

two_stay : (s : ℕ → Term) (c : Bool) (f : List ℕ) (m rest : Term) → LeavesEach s (awaited_by_control (if c then control_by m rest (word_of m) else breaks_off (structure f (more m (more rest none))))) →
    (if c then control_by (substituted s m) (substituted s rest) (word_of (substituted s m)) else breaks_off (structure f (more (substituted s m) (more (substituted s rest) none))))
    ≡ control_substituted s (if c then control_by m rest (word_of m) else breaks_off (structure f (more m (more rest none))))
two_stay s true f m rest l = ap (control_by (substituted s m) (substituted s rest)) (word_stays s m (word_left s m rest (word_of m) l)) ∙ front_substituted s m rest (word_of m)
two_stay s false f m rest l = refl

atom_stays : (s : ℕ → Term) (c : Bool) (a : List ℕ) → (if c then ends else breaks_off (atom a)) ≡ control_substituted s (if c then ends else breaks_off (atom a))
atom_stays s true a = refl
atom_stays s false a = refl

pub control_stays : ControlStays
control_stays s (variable v) l = ap control_of l.0
control_stays s (integer i) l = refl
control_stays s (atom a) l = atom_stays s (bytes_eq a (codes "[]")) a
control_stays s (structure f none) l = refl
control_stays s (structure f (more m none)) l = refl
control_stays s (structure f (more m (more rest none))) l = two_stay s (bytes_eq f (codes ".")) f m rest l
control_stays s (structure f (more a (more b (more c us)))) l = refl
