-- What comes of a scan, step by step.
use Rattle.std.proofs.Common.{◌≡◌, ◌≤◌, ℕ, suc, List, [], ◌∷◌, ◌++◌, length, ap, ◌∙◌, refl, sym, ℤ, arith, append-nil, length-append}
use Rattle.std.specs.List.{All}
use Rattle.std.proofs.lemmas.List.Elements.{All-same, All-append}
use Rattle.kl1_model.specs.declared.operator.Operator.{Operator}
use Rattle.kl1_model.specs.declared.number.Number.{Number}
use Rattle.kl1_model.specs.declared.number.Number.TheVariants.{Value}
use Rattle.kl1_model.specs.Term.{Term}
use Rattle.kl1_model.specs.Arithmetic.{ArithmeticExpression, number, scan, with_left, with_right, applied, compute, Scanned}
use Rattle.kl1_match_guard.specs.declared.pending.Pending.{Pending}
use Rattle.kl1_match_guard.specs.declared.pending.Pending.TheVariants.{Right, With, Apply}
use Rattle.kl1_match_guard.specs.declared.part.Part.TheVariants.{Operation}
use Rattle.kl1_match_guard.specs.Pendings.{going_on, after_one, after_from, after, rights_of, IsPending}
use Rattle.kl1_match_guard.specs.Parts.{ScansAs}
use Rattle.kl1_model.specs.Found.{Found, found, awaits, wrong}

right_on : (o : Operator) (a : ArithmeticExpression) (s : Found Scanned) (next : Number → ℕ → Found Number) → going_on (with_right o a s) next ≡ going_on s (λ y left. next (applied o (compute a) y) left)
right_on o a (found b) next = refl
right_on o a (awaits v) next = refl
right_on o a wrong next = refl

-- an operation goes on with its left operand, and what that comes to with the right one
left_on : (o : Operator) (s : Found Scanned) (right : ℕ → Found Scanned) (next : Number → ℕ → Found Number) → going_on (with_left o s right) next ≡ going_on s (λ x left. going_on (right left) (λ y more. next (applied o x y) more))
left_on o (found a) right next = right_on o a.expression (right a.operators_left) next
left_on o (awaits v) right next = refl
left_on o wrong right next = refl

after_from-push : {A : Type 0} (term : A → Term) (next : Number → ℕ → Found Number) (ps : List (Pending A)) (p : Pending A) → after_from term next (ps ++ p ∷ []) ≡ after_one term p (after_from term next ps)
after_from-push term next [] p = refl
after_from-push term next (q ∷ ps) p = after_from-push term (after_one term q next) ps p

-- the last operation comes first
after-push : {A : Type 0} (term : A → Term) (ps : List (Pending A)) (p : Pending A) → after term (ps ++ p ∷ []) ≡ after_one term p (after term ps)
after-push term ps p = after_from-push term (λ x left. found x) ps p

rights_of-right : {A : Type 0} (ps : List (Pending A)) (o : Operator) (b : A) → rights_of (ps ++ Right o b ∷ []) ≡ rights_of ps ++ b ∷ []
rights_of-right [] o b = refl
rights_of-right (Right p c ∷ ps) o b = ap (λ bs. c ∷ bs) (rights_of-right ps o b)
rights_of-right (With p i ∷ ps) o b = rights_of-right ps o b
rights_of-right (Apply p x ∷ ps) o b = rights_of-right ps o b

rights_of-with : {A : Type 0} (ps : List (Pending A)) (o : Operator) (i : ℤ) → rights_of (ps ++ With o i ∷ []) ≡ rights_of ps
rights_of-with [] o i = refl
rights_of-with (Right p c ∷ ps) o i = ap (λ bs. c ∷ bs) (rights_of-with ps o i)
rights_of-with (With p j ∷ ps) o i = rights_of-with ps o i
rights_of-with (Apply p y ∷ ps) o i = rights_of-with ps o i

rights_of-apply : {A : Type 0} (ps : List (Pending A)) (o : Operator) (x : Number) → rights_of (ps ++ Apply o x ∷ []) ≡ rights_of ps
rights_of-apply [] o x = refl
rights_of-apply (Right p c ∷ ps) o x = ap (λ bs. c ∷ bs) (rights_of-apply ps o x)
rights_of-apply (With p i ∷ ps) o x = rights_of-apply ps o x
rights_of-apply (Apply p y ∷ ps) o x = rights_of-apply ps o x

-- ---- a number goes to the last operation

-- an operation with both operands is applied
pub applied_on : {A : Type 0} (term : A → Term) (before now : List (Pending A)) (p : Pending A) (o : Operator) (x y z : Number) (left : ℕ) →
    before ≡ now ++ p ∷ [] → p ≡ Apply o x → z ≡ applied o x y → after term before y left ≡ after term now z left
applied_on term before now p o x y z left e is r =
    ap (λ l. after term l y left) (e ∙ ap (λ q. now ++ q ∷ []) is)
    ∙ ap (λ k. k y left) (after-push term now (Apply o x))
    ∙ ap (λ w. after term now w left) (sym r)

-- and so is one whose right operand is an integer
pub applied_with : {A : Type 0} (term : A → Term) (before now : List (Pending A)) (p : Pending A) (o : Operator) (i j : ℤ) (x z : Number) (left : ℕ) →
    before ≡ now ++ p ∷ [] → p ≡ With o i → j ≡ i → z ≡ applied o x (Value j) → after term before x left ≡ after term now z left
applied_with term before now p o i j x z left e is same r =
    ap (λ l. after term l x left) (e ∙ ap (λ q. now ++ q ∷ []) is)
    ∙ ap (λ k. k x left) (after-push term now (With o i))
    ∙ ap (λ w. after term now w left) (sym (r ∙ ap (λ k. applied o x (Value k)) same))

-- an operation without its right operand goes on with that
pub turned_right : {A : Type 0} (term : A → Term) (before between now : List (Pending A)) (p : Pending A) (o : Operator) (b : A) (x : Number) (left : ℕ) →
    before ≡ between ++ p ∷ [] → p ≡ Right o b → now ≡ between ++ Apply o x ∷ [] → after term before x left ≡ going_on (scan left (term b)) (after term now)
turned_right term before between now p o b x left e is n =
    ap (λ l. after term l x left) (e ∙ ap (λ q. between ++ q ∷ []) is)
    ∙ ap (λ k. k x left) (after-push term between (Right o b))
    ∙ ap (going_on (scan left (term b))) (sym (ap (after term) n ∙ after-push term between (Apply o x)))

pub taken_right : {A : Type 0} (before between now : List (Pending A)) (p : Pending A) (o : Operator) (b : A) (x : Number) →
    before ≡ between ++ p ∷ [] → p ≡ Right o b → now ≡ between ++ Apply o x ∷ [] → rights_of before ≡ rights_of now ++ b ∷ []
taken_right before between now p o b x e is n =
    ap rights_of (e ∙ ap (λ q. between ++ q ∷ []) is) ∙ rights_of-right between o b
    ∙ ap (λ bs. bs ++ b ∷ []) (sym (ap rights_of n ∙ rights_of-apply between o x))

pub same_rights : {A : Type 0} (before now : List (Pending A)) (p : Pending A) (o : Operator) (x : Number) → before ≡ now ++ p ∷ [] → p ≡ Apply o x → rights_of before ≡ rights_of now
same_rights before now p o x e is = ap rights_of (e ∙ ap (λ q. now ++ q ∷ []) is) ∙ rights_of-apply now o x

pub same_rights_with : {A : Type 0} (before now : List (Pending A)) (p : Pending A) (o : Operator) (i : ℤ) → before ≡ now ++ p ∷ [] → p ≡ With o i → rights_of before ≡ rights_of now
same_rights_with before now p o i e is = ap rights_of (e ∙ ap (λ q. now ++ q ∷ []) is) ∙ rights_of-with now o i

-- ---- a term is looked at

-- an integer goes to the operations that wait
pub number_on : {A : Type 0} (term : A → Term) (s : Found Scanned) (left : ℕ) (ps : List (Pending A)) (i j : ℤ) (e came : Found Number) →
    j ≡ i → s ≡ found (record { expression = number i; operators_left = left }) → after term ps (Value j) left ≡ came → going_on s (after term ps) ≡ e → came ≡ e
number_on term s left ps i j e came same is comes value = sym comes ∙ ap (λ z. after term ps (Value z) left) same ∙ ap (λ q. going_on q (after term ps)) (sym is) ∙ value

-- an operation goes on with its left operand
pub operation_on : {V A : Type 0} (number_of : V → ℕ) (term : A → Term) (t : Term) (left less : ℕ) (o : Operator) (a b : A) (p : Pending A) (ps qs : List (Pending A)) (e : Found Number) →
    left ≡ suc less → ScansAs number_of term t (Operation o a b) → IsPending term o b p → qs ≡ ps ++ p ∷ [] → going_on (scan left t) (after term ps) ≡ e → going_on (scan less (term a)) (after term qs) ≡ e
operation_on number_of term t left less o a b p ps qs e more scans pends pushed value =
    ap (going_on (scan less (term a))) (ap (after term) pushed ∙ after-push term ps p ∙ pends (after term ps))
    ∙ sym (left_on o (scan less (term a)) (λ m. scan m (term b)) (after term ps))
    ∙ sym (ap (λ n. going_on (scan n t) (after term ps)) more ∙ ap (λ s. going_on s (after term ps)) (scans (suc less)))
    ∙ value

-- a right operand more at most is to be looked at
one_more : {A : Type 0} (ps qs : List (Pending A)) (p : Pending A) → qs ≡ ps ++ p ∷ [] → rights_of qs ≡ rights_of ps ++ rights_of (p ∷ [])
one_more ps qs (Right o b) e = ap rights_of e ∙ rights_of-right ps o b
one_more ps qs (With o i) e = ap rights_of e ∙ rights_of-with ps o i ∙ sym (append-nil (rights_of ps))
one_more ps qs (Apply o x) e = ap rights_of e ∙ rights_of-apply ps o x ∙ sym (append-nil (rights_of ps))

pub at_most_one_more : {A : Type 0} (ps qs : List (Pending A)) (p : Pending A) → qs ≡ ps ++ p ∷ [] → length (rights_of qs) ≤ suc (length (rights_of ps))
at_most_one_more ps qs (Right o b) e = omega (arith, ap length (one_more ps qs (Right o b) e), length-append (rights_of ps) (b ∷ []))
at_most_one_more ps qs (With o i) e = omega (arith, ap length (ap rights_of e ∙ rights_of-with ps o i))
at_most_one_more ps qs (Apply o x) e = omega (arith, ap length (ap rights_of e ∙ rights_of-apply ps o x))

pub all_pushed : {A : Type 0} (IsAt : A → Type 0) (ps qs : List (Pending A)) (p : Pending A) → qs ≡ ps ++ p ∷ [] → All IsAt (rights_of ps) → All IsAt (rights_of (p ∷ [])) → All IsAt (rights_of qs)
all_pushed IsAt ps qs p e all own = All-same IsAt _ _ (one_more ps qs p e) (All-append IsAt (rights_of ps) (rights_of (p ∷ [])) all own)
