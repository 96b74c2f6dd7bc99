-- Bytes that came in and aren't answered, before those that are still to come.
use Rattle.std.proofs.Common.{◌≡◌, ◌≤◌, ℕ, List, [], ◌++◌, length, take, drop, None, Some, sym, ap, refl, subst, ◌∙◌, append_assoc}
use Rattle.std.proofs.lemmas.List.{length-take-le, take-append-drop}
use Rattle.std.specs.declared.option.Option.{Option}
use Rattle.std.specs.Io.KnownBytes.{Keeps, Consumes, prepend_known}
use Rattle.kl1_host_door.specs.declared.limits.TheConstants.{MOST_HEAD_BYTES}
use Rattle.kl1_host_door.specs.declared.refusal.Refusal.{Refusal}
use Rattle.kl1_host_door.specs.declared.head.Head.{Head}
use Rattle.kl1_host_door.specs.Heads.{IsHead}
use Rattle.kl1_host_web.specs.Serving.{IsFront, IsNoHead, HasHead, HasNoHead, HasBody}

-- a piece that is read and kept is still to be answered
pub grown : (a b : Option (List ℕ)) (kept new piece : List ℕ) → Consumes a b piece → new ≡ kept ++ piece → Keeps (prepend_known kept a) (prepend_known new b)
grown None b kept new piece p e = tt
grown (Some x) None kept new piece p e = absurd p
grown (Some x) (Some y) kept new piece p e = ap (λ l. l ++ y) e ∙ append_assoc kept piece y ∙ ap (λ l. kept ++ l) (sym p)

pub keeps_same : (a : Option (List ℕ)) → Keeps a a
keeps_same None = tt
keeps_same (Some x) = refl

pub keeps_both : (a b c : Option (List ℕ)) → Keeps a b → Keeps b c → Keeps a c
keeps_both None b c p q = tt
keeps_both (Some x) None c p q = absurd p
keeps_both (Some x) (Some y) None p q = absurd q
keeps_both (Some x) (Some y) (Some z) p q = q ∙ p

-- the front of what is kept is taken
pub taken : (a b : Option (List ℕ)) (kept front rest : List ℕ) → Keeps a (prepend_known kept b) → kept ≡ front ++ rest → Consumes a (prepend_known rest b) front
taken None b kept front rest p e = tt
taken (Some x) None kept front rest p e = absurd p
taken (Some x) (Some y) kept front rest p e = sym p ∙ ap (λ l. l ++ y) e ∙ append_assoc front rest y

-- where nothing is kept, all is still to come
pub none_kept : (a : Option (List ℕ)) (kept : List ℕ) → kept ≡ [] → prepend_known kept a ≡ a
none_kept None kept e = refl
none_kept (Some x) kept e = ap (λ l. Some (l ++ x)) e

pub consumes_both : (a b c : Option (List ℕ)) (xs ys : List ℕ) → Consumes a b xs → Consumes b c ys → Consumes a c (xs ++ ys)
consumes_both None b c xs ys h k = tt
consumes_both (Some us) None c xs ys h k = absurd h
consumes_both (Some us) (Some vs) None xs ys h k = absurd k
consumes_both (Some us) (Some vs) (Some ws) xs ys h k = h ∙ ap (λ x. xs ++ x) k ∙ sym (append_assoc xs ys ws)

-- what is kept is the front of what isn't answered
kept_front : (a b : Option (List ℕ)) (kept : List ℕ) → Keeps a (prepend_known kept b) → IsFront kept a
kept_front None b kept p = tt
kept_front (Some x) None kept p = absurd p
kept_front (Some x) (Some y) kept p = (y, sym p)

pub consumed_front : (a b : Option (List ℕ)) (front : List ℕ) → Consumes a b front → IsFront front a
consumed_front None b front p = tt
consumed_front (Some x) None front p = absurd p
consumed_front (Some x) (Some y) front p = (y, p)

-- a head at the front of what is kept is taken
pub head_comes : (a b : Option (List ℕ)) (kept rest : List ℕ) (n : ℕ) (head : Head) → Keeps a (prepend_known kept b) → n ≤ length kept → IsHead (take n kept) head → n ≤ MOST_HEAD_BYTES → rest ≡ drop n kept → HasHead head a (prepend_known rest b)
head_comes a b kept rest n head keeps within is few e = record {
  bytes = take n kept;
  is = is;
  few = subst (λ m. m ≤ MOST_HEAD_BYTES) (sym (length-take-le n kept within)) few;
  consumes = taken a b kept (take n kept) rest keeps (sym (take-append-drop n kept) ∙ ap (λ l. take n kept ++ l) (sym e));
}

pub no_head : (a b : Option (List ℕ)) (kept : List ℕ) (why : Refusal) → Keeps a (prepend_known kept b) → IsNoHead why kept → HasNoHead why a
no_head a b kept why keeps refused = record { bytes = kept; front = kept_front a b kept keeps; refused = refused }

-- a body at the front of what is kept is taken
pub body_comes : (a b : Option (List ℕ)) (kept rest body : List ℕ) (n : ℕ) → Keeps a (prepend_known kept b) → n ≤ length kept → body ≡ take n kept → rest ≡ drop n kept → HasBody n body a (prepend_known rest b)
body_comes a b kept rest body n keeps within is e = record {
  long = ap length is ∙ length-take-le n kept within;
  consumes = taken a b kept body rest keeps (sym (take-append-drop n kept) ∙ ap (λ l. l ++ drop n kept) (sym is) ∙ ap (λ l. body ++ l) (sym e));
}
