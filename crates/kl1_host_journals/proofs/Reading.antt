-- What the next start reads of what was on disk.
use Rattle.std.proofs.Common.{◌≡◌, ℕ, zero, suc, ◌+◌, ◌≤◌, true, List, [], ◌∷◌, ◌++◌, length, take, drop, refl, sym, ap, ◌∙◌, subst, arith, inl, inr, append_assoc}
use Rattle.std.specs.Prelude.{Option, Some, None, is_none}
use Rattle.std.proofs.lemmas.Bool.{and_parts}
use Rattle.std.proofs.Math.Seq.{take-append-add}
use Rattle.std.proofs.lemmas.List.{append-nil, take-append-drop}
use Rattle.kl1_model_server.specs.Journal.{Entry}
use Rattle.kl1_log.specs.Cuts.{recovered, front_of}
use Rattle.kl1_log.specs.Deeds.{deeds_of, file_in, IsFile}
use Rattle.kl1_log.specs.Files.{FileState, Known, IfKnown, Bytes, content, MayLeave, IsBroughtBack, is_nil, is_at_rest}
use Rattle.kl1_log.proofs.Fronts.{appends_are_fronts}
use Rattle.kl1_log.proofs.DeedsDone.{deeds_more}
use Rattle.kl1_host_journals.specs.declared.edition.Edition.{Edition}
use Rattle.kl1_host_journals.specs.Editions.{last_of, StandsIn, IsUpToDate}
use Rattle.kl1_host_journals.specs.Texts.{IsTextOf}
use Rattle.kl1_host_journals.specs.Keeping.{IsReadWith, CrashesKeepDeeds, Keeps}
use Rattle.kl1_host_journals.proofs.Noting.{last_edited}

pub crashes_keep_deeds : CrashesKeepDeeds
crashes_keep_deeds covered text bytes n j k pre was is =
    let rest = pre.0 in
    let whole : covered ++ (rest ++ bytes) ≡ text ++ bytes = sym (append_assoc covered rest bytes) ∙ ap (λ (x : List ℕ). x ++ bytes) pre.1 in
    let at = appends_are_fronts covered (rest ++ bytes) was.plain.read is.plain.read (length rest + n) was.plain.is (subst (λ (x : List ℕ). file_in x ≡ Some is.plain.read) (sym whole) is.plain.is) in
    let r = front_of is.plain.read at.0 in
    let here : covered ++ take (length rest + n) (rest ++ bytes) ≡ text ++ take n bytes =
    ap (λ (x : List ℕ). covered ++ x) (take-append-add rest bytes n) ∙ sym (append_assoc covered rest (take n bytes)) ∙ ap (λ (x : List ℕ). x ++ take n bytes) pre.1 in
    record {
      read = r;
      is = ap recovered (sym here) ∙ at.1;
      more = deeds_of (drop (length was.plain.read.entries) r.entries);
      deeds =
          ap deeds_of (sym (take-append-drop (length was.plain.read.entries) r.entries))
          ∙ deeds_more (take (length was.plain.read.entries) r.entries) (drop (length was.plain.read.entries) r.entries)
          ∙ ap (λ (x : List Entry). deeds_of x ++ deeds_of (drop (length was.plain.read.entries) r.entries)) at.2
          ∙ ap (λ (x : List Entry). x ++ deeds_of (drop (length was.plain.read.entries) r.entries)) was.plain.says.deeds;
    }

nil_of : (bs : List ℕ) → is_nil bs ≡ true → bs ≡ []
nil_of [] h = refl
nil_of (b ∷ bs) h = absurd cc

none_of : (o : Option Bytes) (c : List ℕ) → is_none o ≡ true → IsBroughtBack o c → ⊥
none_of None c h back = back
none_of (Some b) c h back = absurd cc

-- what a crash leaves of bytes of which all is on disk
rest_left : (s : FileState) (c : List ℕ) → is_nil s.now.pending ≡ true → is_none s.before ≡ true → MayLeave s c → c ≡ content s.now
rest_left s c nil none (inl l) =
    let p = nil_of s.now.pending nil in
    l.1 ∙ ap (λ (x : List ℕ). s.now.synced ++ x) (ap (take l.0) p ∙ take_nil l.0 ∙ sym p)
  where
    take_nil : (m : ℕ) → take m (let x : List ℕ = [] in x) ≡ []
    take_nil zero = refl
    take_nil (suc m) = refl
rest_left s c nil none (inr back) = absurd (none_of s.before c none back)

read_by : (covered all : List Edition) (c : List ℕ) → 1 ≤ length covered → 1 ≤ length all → StandsIn (last_of covered) (last_of all) → IsUpToDate covered → IsUpToDate all → (last_of covered).generation ≡ (last_of all).generation → c ≡ (last_of all).text → IsReadWith c (last_of covered).journal.journal
read_by covered all c one two (inl less) was is same here = absurd (omega (arith, less, same))
read_by covered all c one two (inr stands) was is same here =
    let d = last_of covered in
    let e = last_of all in
    let file : IsFile (e.text ++ []) e.journal.journal = subst (λ (x : List ℕ). IsFile x e.journal.journal) (sym (append-nil e.text)) (last_edited all two is) in
    subst (λ (x : List ℕ). IsReadWith x d.journal.journal) (append-nil e.text ∙ sym here) (crashes_keep_deeds d.text e.text [] 0 d.journal.journal e.journal.journal stands.1 (last_edited covered one was) file)

some_inj : (x y : List ℕ) → (let o : Option (List ℕ) = Some x in o) ≡ Some y → x ≡ y
some_inj x y e = cc e

pub kept_on : (k : Known) (covered all : List Edition) → is_at_rest k ≡ true → IsTextOf k (last_of all).text → 1 ≤ length covered → 1 ≤ length all → StandsIn (last_of covered) (last_of all) → IsUpToDate covered → IsUpToDate all → IfKnown k (Keeps covered all)
kept_on None covered all rest text one two stands was is = tt
kept_on (Some k) covered all rest text one two stands was is = λ c may same.
    let both = and_parts (is_nil k.now.now.pending) (is_none k.now.before) rest in
    read_by covered all c one two stands was is same (rest_left k.now c both.0 both.1 may ∙ some_inj (content k.now.now) (last_of all).text text)
