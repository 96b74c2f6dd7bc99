-- Parts of a clause that are looked at one after another.
use Rattle.std.proofs.Common.{◌≡◌, ℕ, Bool, true, false, List, [], ◌∷◌, ◌++◌, refl, sym, ap, ◌∙◌, subst, append_assoc, append-nil}
use Rattle.kl1_model.specs.declared.built_in.BuiltIn.{BuiltIn}
use Rattle.kl1_model.specs.Answer.{Answer, yes, together}
use Rattle.kl1_text.specs.Reading.{Reads}
use Rattle.kl1_store.specs.Held.{Held}
use Rattle.kl1_match.specs.Waiting.{AreUnbound}
use Rattle.kl1_match.specs.Outcomes.{WaitsFor, ComesTo, Comes}
use Rattle.kl1_match.proofs.Outcomes.{both_come}

pub AreUnbound-append : {N : Type 0} (h : Held N) (vs ws : List ℕ) → AreUnbound h vs → AreUnbound h ws → AreUnbound h (vs ++ ws)
AreUnbound-append h [] ws a b = b
AreUnbound-append h (v ∷ vs) ws a b = (a.0, AreUnbound-append h vs ws a.1 b)

pub more_named : (before now next named more : List ℕ) → now ≡ before ++ named → next ≡ now ++ more → next ≡ before ++ (named ++ more)
more_named before now next named more e k = k ∙ ap (λ l. l ++ more) e ∙ append_assoc before named more

-- what is left, with what was named, comes to all
pub record LeftTo {N : Type 0} (built : BuiltIn → N) (h : Held N) (rest all : (N → List ℕ) → Answer) (before now : List ℕ) : Type 0 where
  pub named : List ℕ
  pub unbound : AreUnbound h named
  pub added : now ≡ before ++ named
  pub leads : (f : N → List ℕ) → Reads built f → (b : Bool) (more : List ℕ) → ComesTo b more (rest f) → ComesTo b (named ++ more) (all f)

pub parts_begin : {N : Type 0} (built : BuiltIn → N) (h : Held N) (all : (N → List ℕ) → Answer) (before : List ℕ) → LeftTo built h all all before before
parts_begin built h all before = record { named = []; unbound = tt; added = sym (append-nil before); leads = λ f reads b more c. c }

-- one part was looked at
pub part_done : {N : Type 0} (built : BuiltIn → N) (h : Held N) (one after rest all : (N → List ℕ) → Answer) (before now next : List ℕ) → ((f : N → List ℕ) → rest f ≡ together (one f) (after f)) →
    LeftTo built h rest all before now → Comes built h one now next true → LeftTo built h after all before next
part_done built h one after rest all before now next parts l c = record {
  named = l.named ++ c.named;
  unbound = AreUnbound-append h l.named c.named l.unbound c.unbound;
  added = more_named before now next l.named c.named l.added c.added;
  leads = λ f reads b more k.
      let P : List ℕ → Type 0 = λ ns. ComesTo b ns (all f) in
      let Q : Answer → Type 0 = λ o. ComesTo b (c.named ++ more) o in
      subst P (sym (append_assoc l.named c.named more)) (l.leads f reads b (c.named ++ more) (subst Q (sym (parts f)) (both_come b c.named more (one f) (after f) (c.comes f reads) k)));
}

-- one part clashes
pub part_clashes : {N : Type 0} (built : BuiltIn → N) (h : Held N) (one after rest all : (N → List ℕ) → Answer) (before now next : List ℕ) → ((f : N → List ℕ) → rest f ≡ together (one f) (after f)) →
    LeftTo built h rest all before now → Comes built h one now next false → Comes built h all before next false
part_clashes built h one after rest all before now next parts l c = record {
  named = l.named ++ c.named;
  unbound = AreUnbound-append h l.named c.named l.unbound c.unbound;
  added = more_named before now next l.named c.named l.added c.added;
  comes = λ f reads. l.leads f reads false [] (parts f ∙ ap (λ o. together o (after f)) (c.comes f reads));
}

-- nothing is left
pub parts_end : {N : Type 0} (built : BuiltIn → N) (h : Held N) (rest all : (N → List ℕ) → Answer) (before now : List ℕ) → ((f : N → List ℕ) → rest f ≡ yes) →
    LeftTo built h rest all before now → Comes built h all before now true
parts_end built h rest all before now none l = record {
  named = l.named;
  unbound = l.unbound;
  added = l.added;
  comes = λ f reads.
      let P : List ℕ → Type 0 = λ ns. WaitsFor ns (all f) in
      let Q : Answer → Type 0 = λ o. WaitsFor [] o in
      subst P (append-nil l.named) (l.leads f reads true [] (subst Q (sym (none f)) refl));
}
