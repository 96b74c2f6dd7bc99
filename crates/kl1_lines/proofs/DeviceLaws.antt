-- What several calls of a device do together.
use Rattle.std.proofs.Common.{◌≡◌, ℕ, ◌+◌, ◌-◌, ◌≤◌, List, [], ◌++◌, length, take, drop, length-append, length-drop, ◌∙◌, sym, ap, append_assoc, arith, subst, refl, inl, inr}
use Rattle.std.specs.Prelude.{None, Some}
use Rattle.std.specs.declared.option.Option.{Option}
use Rattle.std.specs.Io.KnownBytes.{Consumes, Appends, Keeps}
use Rattle.std.proofs.Math.Seq.{take-add, take-append-add}
use Rattle.std.proofs.lemmas.List.{take_all, take-append-le, append-nil}
use Rattle.std.proofs.lemmas.Bool.{cases_lt}
use Rattle.kl1_lines.specs.Devices.{ConsumesIfKnown, ReadsFew, KeepsIfKnown, GrowsIfKnown, AppendsFront, IsWhole, IsLeft}

consumes_more : (a b c : Option (List ℕ)) (bs cs : List ℕ) → Consumes a b bs → ConsumesIfKnown b c cs → ConsumesIfKnown a c (bs ++ cs)
consumes_more None b c bs cs h k = tt
consumes_more (Some xs) None c bs cs h k = absurd h
consumes_more (Some xs) (Some ys) None bs cs h k = tt
consumes_more (Some xs) (Some ys) (Some zs) bs cs h k = h ∙ ap (λ x. bs ++ x) k ∙ sym (append_assoc bs cs zs)

-- few bytes after others
pub reads_more : (a b c : Option (List ℕ)) (bs : List ℕ) (more most : ℕ) → Consumes a b bs → ReadsFew b c more → length bs + more ≤ most → ReadsFew a c most
reads_more a b c bs more most h k few = record {
  bytes = bs ++ k.bytes;
  few = omega (arith, length-append bs k.bytes, k.few);
  consumes = consumes_more a b c bs k.bytes h k.consumes;
}

pub appends_both : (a b c : Option (List ℕ)) (bs cs : List ℕ) → Appends a b bs → Appends b c cs → Appends a c (bs ++ cs)
appends_both None b c bs cs h k = tt
appends_both (Some xs) None c bs cs h k = absurd h
appends_both (Some xs) (Some ys) None bs cs h k = absurd k
appends_both (Some xs) (Some ys) (Some zs) bs cs h k = k ∙ ap (λ x. x ++ cs) h ∙ append_assoc xs bs cs

-- bytes up to a place, and then some of the others
pub appends_more : (a b c : Option (List ℕ)) (place n : ℕ) (bs : List ℕ) → Appends a b (take place bs) → Appends b c (take n (take (length bs - place) (drop place bs))) → Appends a c (take (place + n) bs)
appends_more a b c place n bs h k =
    let P : List ℕ → Type 0 = λ x. Appends a c x in
    let all : take (length bs - place) (drop place bs) ≡ drop place bs = take_all (length bs - place) (drop place bs) (omega (arith, length-drop place bs)) in
    let Q : List ℕ → Type 0 = λ x. Appends b c (take n x) in
    subst P (sym (take-add place n bs)) (appends_both a b c (take place bs) (take n (drop place bs)) h (subst Q all k))

-- no byte more
pub appends_none : (a : Option (List ℕ)) → Appends a a []
appends_none None = tt
appends_none (Some xs) = sym (append-nil xs)

pub appends_kept : (a b c : Option (List ℕ)) (bs : List ℕ) → Appends a b bs → Keeps b c → Appends a c bs
appends_kept None b c bs h k = tt
appends_kept (Some xs) None c bs h k = absurd h
appends_kept (Some xs) (Some ys) None bs h k = absurd k
appends_kept (Some xs) (Some ys) (Some zs) bs h k = k ∙ h

grows_kept : (a b c : Option (List ℕ)) (bs : List ℕ) → Appends a b bs → KeepsIfKnown b c → GrowsIfKnown a c bs
grows_kept None b c bs h k = tt
grows_kept (Some xs) None c bs h k = absurd h
grows_kept (Some xs) (Some ys) None bs h k = tt
grows_kept (Some xs) (Some ys) (Some zs) bs h k = k ∙ h

-- all the bytes, and then a failure
pub front_of_all : (a b c : Option (List ℕ)) (bs : List ℕ) → Appends a b bs → KeepsIfKnown b c → AppendsFront a c bs
front_of_all a b c bs h k = record { count = length bs; grows = let P : List ℕ → Type 0 = λ x. GrowsIfKnown a c x in subst P (sym (take_all (length bs) bs (omega arith))) (grows_kept a b c bs h k) }

grows_both : (a b c : Option (List ℕ)) (bs cs : List ℕ) → Appends a b bs → GrowsIfKnown b c cs → GrowsIfKnown a c (bs ++ cs)
grows_both None b c bs cs h k = tt
grows_both (Some xs) None c bs cs h k = absurd h
grows_both (Some xs) (Some ys) None bs cs h k = tt
grows_both (Some xs) (Some ys) (Some zs) bs cs h k = k ∙ ap (λ x. x ++ cs) h ∙ append_assoc xs bs cs

-- the first bytes of a list are its first bytes up to a place within it
within : (n : ℕ) (bs : List ℕ) → (k : ℕ) × (k ≤ length bs) × (take n bs ≡ take k bs)
within n bs = elim (cases_lt n (length bs)) [ inl few ↦ (n, omega (arith, few), refl) | inr many ↦ (length bs, omega arith, take_all n bs many ∙ sym (take_all (length bs) bs (omega arith))) ]

-- bytes, and then the front of others, are the front of all
pub front_behind : (a b c : Option (List ℕ)) (bs cs more all : List ℕ) → Appends a b bs → AppendsFront b c cs → (bs ++ cs) ++ more ≡ all → AppendsFront a c all
front_behind a b c bs cs more all h k e =
    let w = within k.count cs in
    let place : take (length bs + w.0) all ≡ bs ++ take k.count cs =
    ap (λ x. take (length bs + w.0) x) (sym e ∙ append_assoc bs cs more) ∙ take-append-add bs (cs ++ more) w.0 ∙ ap (λ x. bs ++ x) (take-append-le w.0 cs more w.1 ∙ sym w.2) in
    let P : List ℕ → Type 0 = λ x. GrowsIfKnown a c x in
    record { count = length bs + w.0; grows = subst P (sym place) (grows_both a b c bs (take k.count cs) h k.grows) }

-- some bytes are left
pub some_left : (a : Option (List ℕ)) → (bs : List ℕ) × IsLeft a bs
some_left None = ([], tt)
some_left (Some xs) = (xs, refl)

-- what was read to the end is all that was left
pub whole_is_left : (a b : Option (List ℕ)) (bs : List ℕ) → IsWhole a b bs → IsLeft a bs
whole_is_left None b bs h = tt
whole_is_left (Some xs) None bs h = absurd h.consumes
whole_is_left (Some xs) (Some ys) bs h = h.consumes ∙ ap (λ x. bs ++ x) h.end ∙ append-nil bs
