-- What a crash leaves between the calls of a file.
use Rattle.std.proofs.Common.{◌≡◌, ℕ, zero, suc, min, true, ◌&&◌, List, [], ◌∷◌, ◌++◌, length, take, refl, sym, ap, ◌∙◌, subst, arith, inl, inr}
use Rattle.std.specs.Prelude.{Option, Some, None, option_map, is_none}
use Rattle.std.proofs.lemmas.Bool.{and_parts, false≢true}
use Rattle.std.proofs.lemmas.List.{append-nil, take_all}
use Rattle.std.proofs.lemmas.Option.{none-some, same_Some}
use Rattle.kl1_log.specs.Files.{Bytes, content, settled, FileState, IsLeftOf, IsBroughtBack, Appended, AppendedInPart, Synced, Course, Known, Does, MayDo, IfKnown, Leaves, AtAnyMoment, is_nil, is_at_rest}
use Rattle.kl1_log.specs.Batches.{text_of, IsAppendedInPart}

-- ---- how a run of calls goes on

-- what holds of a file's state, if something is known of the file
abbrev pub Facts : Known → (FileState → Type 0) → Type 0
Facts k Q = (c : Course) → k ≡ Some c → Q c.now

-- a call leads from facts to facts
pub does_facts : (step : FileState → FileState → Type 0) (Q R : FileState → Type 0) (k l : Known) → ((s t : FileState) → Q s → step s t → R t) → Facts k Q → Does step k l → Facts l R
does_facts step Q R None l leads f d x is = absurd (none-some x (sym d ∙ is))
does_facts step Q R (Some c) None leads f d x is = absurd d
does_facts step Q R (Some c) (Some y) leads f d x is = subst (λ (z : Course). R z.now) (same_Some y x is) (leads c.now y.now (f c refl) d.0)

-- the same of a call that may have done nothing
pub may_facts : (step : FileState → FileState → Type 0) (Q : FileState → Type 0) (k l : Known) → ((s t : FileState) → Q s → step s t → Q t) → Facts k Q → MayDo step k l → Facts l Q
may_facts step Q k l leads f (inl d) = does_facts step Q Q k l leads f d
may_facts step Q k l leads f (inr same) = subst (λ (x : Known). Facts x Q) (sym same) f

pub known_facts : (k : Known) (Q : FileState → Type 0) → Facts k Q → IfKnown k Q
known_facts None Q f = tt
known_facts (Some c) Q f = f c refl

pub begun : (k : Known) (P : List ℕ → Type 0) → AtAnyMoment k k P
begun None P = refl
begun (Some c) P = record { since = []; are = refl; each = tt }

pub went_on : (k l m : Known) (step : FileState → FileState → Type 0) (P : List ℕ → Type 0) → AtAnyMoment k l P → Does step l m → Facts m (Leaves P) → AtAnyMoment k m P
went_on None l m step P so d f = subst (λ (x : Known). Does step x m) so d
went_on (Some c) None m step P so d f = absurd so
went_on (Some c) (Some x) None step P so d f = absurd d
went_on (Some c) (Some x) (Some y) step P so d f = record { since = y.now ∷ so.since; are = ap (λ (ss : List FileState). y.now ∷ ss) (d.1 ∙ so.are); each = (f y refl, so.each) }

pub may_go_on : (k l m : Known) (step : FileState → FileState → Type 0) (P : List ℕ → Type 0) → AtAnyMoment k l P → MayDo step l m → Facts m (Leaves P) → AtAnyMoment k m P
may_go_on k l m step P so (inl d) f = went_on k l m step P so d f
may_go_on k l m step P so (inr same) f = subst (λ (x : Known). AtAnyMoment k x P) (sym same) so

-- ---- bytes

take_none : (n : ℕ) → take n (let x : List ℕ = [] in x) ≡ []
take_none zero = refl
take_none (suc n) = refl

take_twice : (m n : ℕ) (bs : List ℕ) → take m (take n bs) ≡ take (min m n) bs
take_twice zero n bs =
    let none : 0 ≡ min 0 n = omega arith in
    ap (λ (k : ℕ). take k bs) none
take_twice (suc m) zero bs =
    let none : 0 ≡ min (suc m) 0 = omega arith in
    ap (λ (k : ℕ). take k bs) none
take_twice (suc m) (suc n) [] = sym (take_none (min (suc m) (suc n)))
take_twice (suc m) (suc n) (b ∷ bs) =
    let is : min (suc m) (suc n) ≡ suc (min m n) = omega arith in
    ap (λ (x : List ℕ). b ∷ x) (take_twice m n bs) ∙ sym (ap (λ (k : ℕ). take k (b ∷ bs)) is)

no_byte : (bs : List ℕ) → is_nil bs ≡ true → bs ≡ []
no_byte [] h = refl
no_byte (b ∷ bs) h = absurd (false≢true h)

no_name : (o : Option Bytes) → is_none o ≡ true → o ≡ None
no_name None h = refl
no_name (Some b) h = absurd (false≢true h)

-- the bytes of a file, if something is known of it
abbrev pub known_text : Known → List ℕ
known_text None = []
known_text (Some c) = content c.now.now

-- these bytes are on the disk, and no renaming may be undone
abbrev pub IsRest : List ℕ → FileState → Type 0
IsRest text s = (s.now ≡ settled text) × (s.before ≡ None)

settled_bytes : (b : Bytes) → b.pending ≡ [] → b ≡ settled (content b)
settled_bytes b none =
    ap (λ (p : List ℕ). let x : Bytes = record { synced = b.synced; pending = p } in x) none
    ∙ ap (λ (p : List ℕ). let x : Bytes = record { synced = p; pending = [] } in x) (sym (ap (λ (p : List ℕ). b.synced ++ p) none ∙ append-nil b.synced))

pub rest_facts : (k : Known) → is_at_rest k ≡ true → Facts k (IsRest (known_text k))
rest_facts None h c is = absurd (none-some c is)
rest_facts (Some x) h c is =
    let both = and_parts (is_nil x.now.now.pending) (is_none x.now.before) h in
    subst (λ (y : Course). IsRest (content x.now.now) y.now) (same_Some x c is) (settled_bytes x.now.now (no_byte x.now.now.pending both.0), no_name x.now.before both.1)

pub rest_test : (p : List ℕ) (o : Option Bytes) → p ≡ [] → o ≡ None → is_nil p && is_none o ≡ true
rest_test p o none before = ap (λ (x : List ℕ). is_nil x && is_none o) none ∙ ap (λ (x : Option Bytes). is_none x) before

-- a file at rest after calls, by what it was before them
pub rests_again : (k m : Known) (P : List ℕ → Type 0) (f : List ℕ → List ℕ) → AtAnyMoment k m P → Facts m (IsRest (f (known_text k))) → (is_at_rest m ≡ true) × (text_of m ≡ option_map f (text_of k))
rests_again None m P f so facts = (ap is_at_rest so, ap text_of so)
rests_again (Some c) None P f so facts = absurd so
rests_again (Some c) (Some y) P f so facts =
    let r = facts y refl in
    (rest_test y.now.now.pending y.now.before (ap (λ (b : Bytes). b.pending) r.0) r.1, ap (λ (b : Bytes). let o : Option (List ℕ) = Some (content b) in o) r.0 ∙ ap (λ (x : List ℕ). let o : Option (List ℕ) = Some x in o) (append-nil (f (content c.now.now))))

-- what a crash leaves of bytes under the name alone
leaves_now : (s : FileState) (b : Bytes) (P : List ℕ → Type 0) → s.now ≡ b → s.before ≡ None → ((c : List ℕ) → IsLeftOf b c → P c) → Leaves P s
leaves_now s b P is none each c (inl l) = each c (subst (λ (x : Bytes). IsLeftOf x c) is l)
leaves_now s b P is none each c (inr back) = absurd (subst (λ (x : Option Bytes). IsBroughtBack x c) none back)

pub left_settled : (bytes c : List ℕ) → IsLeftOf (settled bytes) c → c ≡ bytes
left_settled bytes c l = l.1 ∙ ap (λ (x : List ℕ). bytes ++ x) (take_none l.0) ∙ append-nil bytes

-- at rest there are left the bytes alone
pub rest_leaves : (text : List ℕ) (P : List ℕ → Type 0) (s : FileState) → P text → IsRest text s → Leaves P s
rest_leaves text P s has r = leaves_now s (settled text) P r.0 r.1 (λ c l. subst P (sym (left_settled text c l)) has)

-- ---- bytes are appended

-- a front of bytes was appended
abbrev pub IsLonger : List ℕ → List ℕ → FileState → Type 0
IsLonger text bytes s = (n : ℕ) × (s.now ≡ record { synced = text; pending = take n bytes }) × (s.before ≡ None)

-- all of them were
abbrev pub IsWhole : List ℕ → List ℕ → FileState → Type 0
IsWhole text bytes s = (s.now ≡ record { synced = text; pending = bytes }) × (s.before ≡ None)

-- what a crash leaves of a file that is made longer
abbrev pub Longer : List ℕ → List ℕ → List ℕ → Type 0
Longer text bytes c = (n : ℕ) × (c ≡ text ++ take n bytes)

longer_text : (text more : List ℕ) (s t : FileState) → IsRest text s → Appended more s t → (t.now ≡ record { synced = text; pending = more }) × (t.before ≡ None)
longer_text text more s t r h =
    (ap (λ (x : FileState). x.now) h ∙ ap (λ (b : Bytes). let x : Bytes = record { synced = b.synced; pending = b.pending ++ more } in x) r.0, ap (λ (x : FileState). x.before) h ∙ r.1)

pub rest_longer : (text bytes : List ℕ) (s t : FileState) → IsRest text s → AppendedInPart bytes s t → IsLonger text bytes t
rest_longer text bytes s t r h = let l = longer_text text (take h.0 bytes) s t r h.1 in (h.0, l.0, l.1)

pub rest_whole : (text bytes : List ℕ) (s t : FileState) → IsRest text s → Appended bytes s t → IsWhole text bytes t
rest_whole text bytes s t r h = longer_text text bytes s t r h

pub longer_leaves : (text bytes : List ℕ) (s : FileState) → IsLonger text bytes s → Leaves (Longer text bytes) s
longer_leaves text bytes s h =
    leaves_now s (record { synced = text; pending = take h.0 bytes }) (Longer text bytes) h.1 h.2 (λ c l. (min l.0 h.0, l.1 ∙ ap (λ (x : List ℕ). text ++ x) (take_twice l.0 h.0 bytes)))

pub whole_leaves : (text bytes : List ℕ) (s : FileState) → IsWhole text bytes s → Leaves (Longer text bytes) s
whole_leaves text bytes s h = leaves_now s (record { synced = text; pending = bytes }) (Longer text bytes) h.0 h.1 (λ c l. (l.0, l.1))

pub whole_synced : (text bytes : List ℕ) (s t : FileState) → IsWhole text bytes s → Synced s t → IsRest (text ++ bytes) t
whole_synced text bytes s t h y = (ap (λ (x : FileState). x.now) y ∙ ap (λ (b : Bytes). settled (content b)) h.0, ap (λ (x : FileState). x.before) y ∙ h.1)

all_longer : (text bytes : List ℕ) → Longer text bytes (text ++ bytes)
all_longer text bytes = (length bytes, ap (λ (x : List ℕ). text ++ x) (sym (take_all (length bytes) bytes (omega arith))))

as_appended : (k m : Known) (bytes : List ℕ) → AtAnyMoment k m (Longer (known_text k) bytes) → AtAnyMoment k m (IsAppendedInPart k bytes)
as_appended None m bytes so = so
as_appended (Some c) m bytes so = so

-- a call that appends failed
pub append_failed : (k l : Known) (bytes : List ℕ) → is_at_rest k ≡ true → MayDo (AppendedInPart bytes) k l → AtAnyMoment k l (IsAppendedInPart k bytes)
append_failed k l bytes rest (inr same) = subst (λ (x : Known). AtAnyMoment k x (IsAppendedInPart k bytes)) (sym same) (begun k (IsAppendedInPart k bytes))
append_failed k l bytes rest (inl d) =
    let text = known_text k in
    let f = does_facts (AppendedInPart bytes) (IsRest text) (IsLonger text bytes) k l (rest_longer text bytes) (rest_facts k rest) d in
    as_appended k l bytes (went_on k k l (AppendedInPart bytes) (Longer text bytes) (begun k (Longer text bytes)) d (λ c is. longer_leaves text bytes c.now (f c is)))

whole_facts : (k l : Known) (bytes : List ℕ) → is_at_rest k ≡ true → Does (Appended bytes) k l → Facts l (IsWhole (known_text k) bytes)
whole_facts k l bytes rest d = does_facts (Appended bytes) (IsRest (known_text k)) (IsWhole (known_text k) bytes) k l (rest_whole (known_text k) bytes) (rest_facts k rest) d

written : (k l : Known) (bytes : List ℕ) → is_at_rest k ≡ true → Does (Appended bytes) k l → AtAnyMoment k l (Longer (known_text k) bytes)
written k l bytes rest d =
    let text = known_text k in
    went_on k k l (Appended bytes) (Longer text bytes) (begun k (Longer text bytes)) d (λ c is. whole_leaves text bytes c.now (whole_facts k l bytes rest d c is))

-- bytes were appended, and the sync failed
pub sync_failed : (k l m : Known) (bytes : List ℕ) → is_at_rest k ≡ true → Does (Appended bytes) k l → m ≡ l → AtAnyMoment k m (IsAppendedInPart k bytes)
sync_failed k l m bytes rest d same = subst (λ (x : Known). AtAnyMoment k x (IsAppendedInPart k bytes)) (sym same) (as_appended k l bytes (written k l bytes rest d))

synced_facts : (k l m : Known) (bytes : List ℕ) → is_at_rest k ≡ true → Does (Appended bytes) k l → Does Synced l m → Facts m (IsRest (known_text k ++ bytes))
synced_facts k l m bytes rest d y = does_facts Synced (IsWhole (known_text k) bytes) (IsRest (known_text k ++ bytes)) l m (whole_synced (known_text k) bytes) (whole_facts k l bytes rest d) y

synced_moments : (k l m : Known) (bytes : List ℕ) → is_at_rest k ≡ true → Does (Appended bytes) k l → Does Synced l m → AtAnyMoment k m (Longer (known_text k) bytes)
synced_moments k l m bytes rest d y =
    let text = known_text k in
    went_on k l m Synced (Longer text bytes) (written k l bytes rest d) y (λ c is. rest_leaves (text ++ bytes) (Longer text bytes) c.now (all_longer text bytes) (synced_facts k l m bytes rest d y c is))

-- bytes were appended and synced
pub appended_moments : (k l m : Known) (bytes : List ℕ) → is_at_rest k ≡ true → Does (Appended bytes) k l → Does Synced l m → AtAnyMoment k m (IsAppendedInPart k bytes)
appended_moments k l m bytes rest d y = as_appended k m bytes (synced_moments k l m bytes rest d y)

pub appended_rests : (k l m : Known) (bytes : List ℕ) → is_at_rest k ≡ true → Does (Appended bytes) k l → Does Synced l m → (is_at_rest m ≡ true) × (text_of m ≡ option_map (λ (x : List ℕ). x ++ bytes) (text_of k))
appended_rests k l m bytes rest d y =
    rests_again k m (Longer (known_text k) bytes) (λ (x : List ℕ). x ++ bytes) (synced_moments k l m bytes rest d y) (synced_facts k l m bytes rest d y)
