-- Reports that are let go, one after another.
use Rattle.std.proofs.Common.{◌≡◌, ℕ, suc, ◌||◌, Bool, true, false, List, [], length, refl, sym, ap, ◌∙◌, arith}
use Rattle.std.specs.Prelude.{nat_le, not, ◌&&◌, if◌then◌else◌, take, codes, bytes_eq, Option, Some, None, is_some, option_map}
use Rattle.std.specs.List.{list_any}
use Rattle.std.proofs.lemmas.Bool.{true≢false, le-leb}
use Rattle.std.proofs.Math.Dec.{leb-suc-zero, leb-suc-suc}
use Rattle.kl1_model.specs.Term.{Term, variable, integer, atom, structure, none, more}
use Rattle.kl1_model.specs.Meaning.{cell}
use Rattle.kl1_model.specs.Asking.{elements_of}
use Rattle.kl1_model.specs.Telling.{Asked}
use Rattle.kl1_model.specs.Answering.{asked}
use Rattle.kl1_model.specs.Forgetting.{waits, without_cells}
use Rattle.kl1_stream.specs.Letting.{may_leave}

-- ---- a substitute waits by a report that is an exception with a variable

pub some_map : {A B : Type 0} (g : A → B) (o : Option A) → is_some (option_map g o) ≡ is_some o
some_map g (Some x) = refl
some_map g None = refl

if_some : (b : Bool) (a : Asked) (v : ℕ) → is_some (if b then Some a else None) ≡ is_some (if b then Some v else None)
if_some true a v = refl
if_some false a v = refl

pub waits_is : (t : Term) → is_some (asked t) ≡ waits t
waits_is (variable v) = refl
waits_is (integer i) = refl
waits_is (atom n) = refl
waits_is (structure f none) = refl
waits_is (structure f (more a none)) = refl
waits_is (structure f (more a (more b none))) = refl
waits_is (structure f (more a (more b (more (variable v) none)))) = if_some (bytes_eq f (codes "exception")) (record { goal = b; new = v }) v
waits_is (structure f (more a (more b (more (integer i) none)))) = refl
waits_is (structure f (more a (more b (more (atom n) none)))) = refl
waits_is (structure f (more a (more b (more (structure n us) none)))) = refl
waits_is (structure f (more a (more b (more (variable v) (more d ts))))) = refl
waits_is (structure f (more a (more b (more (integer i) (more d ts))))) = refl
waits_is (structure f (more a (more b (more (atom n) (more d ts))))) = refl
waits_is (structure f (more a (more b (more (structure n us) (more d ts))))) = refl

-- ---- what goes, report by report

-- what waits where substitutes wait
pub both_true : (lives w : Bool) → lives ≡ true → w ≡ true → (lives && w) ≡ true
both_true true true p q = refl
both_true true false p q = q
both_true false w p q = p

pub left_false : (lives w : Bool) → lives ≡ false → (lives && w) ≡ false
left_false true w p = absurd (true≢false p)
left_false false w p = refl

pub right_false : (lives w : Bool) → w ≡ false → (lives && w) ≡ false
right_false true w q = q
right_false false w q = refl

-- none is to go
pub none_to_go : (lives : Bool) (t : Term) → may_leave lives 0 t ≡ true
none_to_go true t = ap (λ b. b && true) (le-leb 0 (length (elements_of t)) (omega arith))
none_to_go false t = ap (λ b. b && true) (le-leb 0 (length (elements_of t)) (omega arith))

-- one is to go, and there is none
pub none_there : (lives : Bool) (n : ℕ) (t : Term) → elements_of t ≡ [] → may_leave lives (suc n) t ≡ false
none_there lives n t e = ap (λ (xs : List Term). nat_le (suc n) (length xs) && not (lives && list_any waits (take (suc n) xs))) e ∙ ap (λ b. b && not (lives && false)) (leb-suc-zero n)

-- a substitute waits by the first
pub first_waits : (lives : Bool) (n : ℕ) (t e r : Term) → t ≡ cell e r → (lives && waits e) ≡ true → may_leave lives (suc n) t ≡ false
first_waits lives n t e r is w =
    ap (may_leave lives (suc n)) is
    ∙ ap (λ b. b && not (lives && (waits e || list_any waits (take n (elements_of r))))) (leb-suc-suc n (length (elements_of r)))
    ∙ stays (nat_le n (length (elements_of r))) lives (waits e) (list_any waits (take n (elements_of r))) w
  where
    stays : (a l w x : Bool) → (l && w) ≡ true → (a && not (l && (w || x))) ≡ false
    stays true true true x h = refl
    stays false l w x h = refl
    stays true true false x h = absurd (true≢false (sym h))
    stays true false w x h = absurd (true≢false (sym h))

-- the first can go
pub one_less : (lives : Bool) (n : ℕ) (t e r : Term) → t ≡ cell e r → (lives && waits e) ≡ false → may_leave lives (suc n) t ≡ may_leave lives n r
one_less lives n t e r is w =
    ap (may_leave lives (suc n)) is
    ∙ ap (λ b. b && not (lives && (waits e || list_any waits (take n (elements_of r))))) (leb-suc-suc n (length (elements_of r)))
    ∙ goes (nat_le n (length (elements_of r))) lives (waits e) (list_any waits (take n (elements_of r))) w
  where
    goes : (a l w x : Bool) → (l && w) ≡ false → (a && not (l && (w || x))) ≡ (a && not (l && x))
    goes a true true x h = absurd (true≢false h)
    goes a true false x h = refl
    goes a false w x h = refl

pub cells_less : (n : ℕ) (t e r : Term) → t ≡ cell e r → without_cells (suc n) t ≡ without_cells n r
cells_less n t e r is = ap (without_cells (suc n)) is
