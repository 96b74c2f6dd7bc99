-- Every writable term agrees with its text and its tree.
use Rattle.std.specs.Prelude.{◌≡◌, ℕ, ◌<◌, ◌==◌, nat_le, ◌&&◌, Bool, true, false, if◌then◌else◌, List, [], ◌∷◌, ◌++◌, codes, bytes_eq}
use Rattle.std.specs.List.{list_all}
use Rattle.std.proofs.Common.{refl, subst, sym, ◌∙◌, arith}
use Rattle.std.proofs.lemmas.Bool.{and_parts, not-true, leb-true, ne_eqb, true≢false}
use Rattle.std.proofs.lemmas.List.{append_assoc}
use Rattle.std.proofs.lemmas.Slice.Eq.{bytes_eq-Decides}
use Rattle.kl1_model.specs.declared.limits.TheConstants.{NUMBER_LIMIT}
use Rattle.kl1_model.specs.declared.pair_form.PairForm.{PairForm}
use Rattle.kl1_model.specs.declared.pair_form.PairForm.TheVariants.{Cell, Qualified, Call}
use Rattle.kl1_model.specs.declared.sign.Sign.TheVariants.{Colon}
use Rattle.kl1_model.specs.Text.{is_text}
use Rattle.kl1_model.specs.Name.{is_small_letter, is_word_byte, is_bare, quoted, name_text, atom_text}
use Rattle.kl1_model.specs.Term.{Term, variable, integer, atom, structure, Terms, none, more, count_of}
use Rattle.kl1_model.specs.Token.{sign_token, first_is}
use Rattle.kl1_model.specs.Grammar.{single, qualified, primary_tokens}
use Rattle.kl1_model.specs.Meaning.{pair, is_narrow, are_narrow, highest, highest_in}
use Rattle.kl1_model.specs.Print.{is_before_colon, is_behind_colon, form_of, Printed, plain, printed_atom, commas, call_text, printed_pair, printed, printed_each}
use Rattle.kl1_model_server.proofs.LexFronts.{Lexes, lexes_colon}
use Rattle.kl1_model_server.proofs.ReadPlanted.{Planted, planted_plain, planted_atom, primary_of, planted_pair, planted, Bears, qualified_bears}
use Rattle.kl1_model_server.proofs.ReadAgrees.{IsText, Agrees, EachAgrees, plain_agrees, variable_agrees, integer_agrees, atom_agrees, cell_agrees, arguments_agree}

-- a text begins neither with `-` nor with `=`
abbrev pub Tight : List ℕ → Type 0
Tight text = (bs : List ℕ) → (first_is (λ b. 45 == b) (text ++ bs) ≡ false) × (first_is (λ b. 61 == b) (text ++ bs) ≡ false)

bare_tight : (f : List ℕ) → is_bare f ≡ true → Tight f
bare_tight [] bare bs = cc
bare_tight (b ∷ f) bare bs =
    let letter = (and_parts (is_small_letter b) (list_all is_word_byte f) bare).0 in
    let least = leb-true 97 b (and_parts (nat_le 97 b) (nat_le b 122) letter).0 in
    (ne_eqb 45 b (λ e. omega arith), ne_eqb 61 b (λ e. omega arith))

name_tight_by : (x : Bool) (f : List ℕ) → is_bare f ≡ x → Tight (if x then f else quoted f)
name_tight_by true f is = bare_tight f is
name_tight_by false f is = λ bs. (refl, refl)

name_tight : (f : List ℕ) → Tight (name_text f)
name_tight f = name_tight_by (is_bare f) f refl

-- more after it changes nothing
tight_before : (n c : List ℕ) → Tight n → Tight (n ++ c)
tight_before n c h bs = rw append_assoc (h (c ++ bs))

call_tight : (f : List ℕ) (ps : List Printed) → Tight (call_text f ps)
call_tight f ps = tight_before (name_text f ++ codes "(" ++ commas ps) (codes ")") (tight_before (name_text f ++ codes "(") (commas ps) (tight_before (name_text f) (codes "(") (name_tight f)))

-- what may stand after a colon: it begins neither with `-` nor with `=`, and its tree is one primary
pub record StandsBehind (p : Printed) (q : Planted) : Type 0 where
  pub tight : Tight p.whole
  pub one : single (primary_of q.whole) ≡ q.whole

atom_behind : (x : Bool) (a : List ℕ) → bytes_eq a (codes "[]") ≡ x → StandsBehind (printed_atom a) (planted_atom a)
atom_behind true a is = subst (λ b. StandsBehind (printed_atom b) (planted_atom b)) (sym ((bytes_eq-Decides a (codes "[]")).0 is)) (record { tight = λ bs. (refl, refl); one = refl })
atom_behind false a is = rw (is, printed_atom, planted_atom, atom_text) (record { tight = name_tight a; one = refl })

pair_behind : (form : PairForm) (f : List ℕ) (p q : Printed) (a b : Planted) → (form ≡ Qualified → ⊥) → StandsBehind (printed_pair form f p q) (planted_pair form f a b)
pair_behind Cell f p q a b other = record { tight = λ bs. (refl, refl); one = refl }
pair_behind Qualified f p q a b other = absurd (other refl)
pair_behind Call f p q a b other = record { tight = call_tight f (p ∷ q ∷ []); one = refl }

-- what the form of a pair says
form_cell : (x y : Bool) → if◌then◌else◌ {A = PairForm} x Cell (if y then Qualified else Call) ≡ Cell → x ≡ true
form_cell true y h = refl
form_cell false true h = cc
form_cell false false h = cc

form_qualified : (x y : Bool) → if◌then◌else◌ {A = PairForm} x Cell (if y then Qualified else Call) ≡ Qualified → y ≡ true
form_qualified true y h = cc
form_qualified false true h = refl
form_qualified false false h = cc

structure_behind : (f : List ℕ) (ts : Terms) → is_behind_colon (structure f ts) ≡ true → StandsBehind (printed (structure f ts)) (planted (structure f ts))
structure_behind f none h = record { tight = call_tight f []; one = refl }
structure_behind f (more a none) h = record { tight = call_tight f (printed a ∷ []); one = refl }
structure_behind f (more a (more b none)) h =
    pair_behind (form_of f a b) f (printed a) (printed b) (planted a) (planted b) (λ is.
    let colon = form_qualified (bytes_eq f (codes ".")) (bytes_eq f (codes ":") && is_before_colon a && is_behind_colon b) is in
    let front = and_parts (bytes_eq f (codes ":") && is_before_colon a) (is_behind_colon b) colon in
    let there = and_parts (bytes_eq f (codes ":")) (is_before_colon a) front.0 in
    true≢false (sym there.0 ∙ not-true (bytes_eq f (codes ":")) h))
structure_behind f (more a (more b (more c ts))) h = record { tight = call_tight f (printed_each (more a (more b (more c ts)))); one = refl }

-- what may stand after a colon does
pub behind_colon : (t : Term) → is_behind_colon t ≡ true → StandsBehind (printed t) (planted t)
behind_colon (atom a) h = atom_behind (bytes_eq a (codes "[]")) a refl
behind_colon (structure f ts) h = structure_behind f ts h
behind_colon (variable v) h = cc
behind_colon (integer i) h = cc

before_colon : (t : Term) → is_before_colon t ≡ true → is_behind_colon t ≡ true
before_colon (atom a) h = refl
before_colon _ h = cc

qualified_agrees : (a b : Term) (pa pb : Printed) (qa qb : Planted) → Agrees a pa qa → Agrees b pb qb → StandsBehind pa qa → StandsBehind pb qb → Agrees (pair (codes ":") a b) (plain (pa.whole ++ codes ":" ++ pb.whole)) (planted_plain (qualified (primary_of qa.whole) (primary_of qb.whole)))
qualified_agrees a b pa pb qa qb h j k l =
    let p = primary_of qa.whole in
    let q = primary_of qb.whole in
    plain_agrees (pair (codes ":") a b) (pa.whole ++ codes ":" ++ pb.whole) (qualified p q)
    (qualified_bears a b p q (subst (Bears a) (sym k.one) h.bears) (subst (Bears b) (sym l.one) j.bears))
    (λ bs ts calm behind.
    subst (λ x. Lexes x (primary_tokens p (sign_token Colon ∷ primary_tokens q ts)))
    (sym (append_assoc (pa.whole ++ codes ":") pb.whole bs ∙ append_assoc pa.whole (codes ":") (pb.whole ++ bs)))
    (subst (IsText pa.whole) (sym k.one) h.whole (58 ∷ (pb.whole ++ bs)) (sign_token Colon ∷ primary_tokens q ts) (record { no_word = refl; no_quote = refl; no_open = refl })
    (lexes_colon (pb.whole ++ bs) (primary_tokens q ts) (l.tight bs).0 (l.tight bs).1 (subst (IsText pb.whole) (sym l.one) j.whole bs ts calm behind))))

pair_agrees : (form : PairForm) (f : List ℕ) (a b : Term) → form_of f a b ≡ form → is_text f ≡ true → Agrees a (printed a) (planted a) → Agrees b (printed b) (planted b) → Agrees (pair f a b) (printed_pair form f (printed a) (printed b)) (planted_pair form f (planted a) (planted b))
pair_agrees Cell f a b is fine h j =
    let dot = form_cell (bytes_eq f (codes ".")) (bytes_eq f (codes ":") && is_before_colon a && is_behind_colon b) is in
    subst (λ g. Agrees (pair g a b) (printed_pair Cell g (printed a) (printed b)) (planted_pair Cell g (planted a) (planted b))) (sym ((bytes_eq-Decides f (codes ".")).0 dot))
    (cell_agrees a b (printed a) (printed b) (planted a) (planted b) h j)
pair_agrees Qualified f a b is fine h j =
    let colon = form_qualified (bytes_eq f (codes ".")) (bytes_eq f (codes ":") && is_before_colon a && is_behind_colon b) is in
    let front = and_parts (bytes_eq f (codes ":") && is_before_colon a) (is_behind_colon b) colon in
    let there = and_parts (bytes_eq f (codes ":")) (is_before_colon a) front.0 in
    subst (λ g. Agrees (pair g a b) (printed_pair Qualified g (printed a) (printed b)) (planted_pair Qualified g (planted a) (planted b))) (sym ((bytes_eq-Decides f (codes ":")).0 there.0))
    (qualified_agrees a b (printed a) (printed b) (planted a) (planted b) h j (behind_colon a (before_colon a there.1)) (behind_colon b front.1))
pair_agrees Call f a b is fine h j = arguments_agree f a (more b none) fine h (j, tt)

structure_agrees : (f : List ℕ) (ts : Terms) → is_text f ≡ true → nat_le 1 (count_of ts) ≡ true → EachAgrees ts → Agrees (structure f ts) (printed (structure f ts)) (planted (structure f ts))
structure_agrees f none fine some hs = cc
structure_agrees f (more a none) fine some hs = arguments_agree f a none fine hs.0 tt
structure_agrees f (more a (more b none)) fine some hs = pair_agrees (form_of f a b) f a b refl fine hs.0 hs.1.0
structure_agrees f (more a (more b (more c ts))) fine some hs = arguments_agree f a (more b (more c ts)) fine hs.0 hs.1

-- every writable term with variables below number_limit
mutual
  pub agrees : (t : Term) → is_narrow t ≡ true → highest t < NUMBER_LIMIT → Agrees t (printed t) (planted t)
  agrees (variable v) narrow few = variable_agrees v few
  agrees (integer i) narrow few = integer_agrees i narrow
  agrees (atom a) narrow few = atom_agrees (bytes_eq a (codes "[]")) a refl narrow
  agrees (structure f ts) narrow few =
      let front = and_parts (is_text f && nat_le 1 (count_of ts) && nat_le (count_of ts) 8) (are_narrow ts) narrow in
      let named = and_parts (is_text f && nat_le 1 (count_of ts)) (nat_le (count_of ts) 8) front.0 in
      let some = and_parts (is_text f) (nat_le 1 (count_of ts)) named.0 in
      structure_agrees f ts some.0 some.1 (agree_each ts front.1 few)

  agree_each : (ts : Terms) → are_narrow ts ≡ true → highest_in ts < NUMBER_LIMIT → EachAgrees ts
  agree_each none narrow few = tt
  agree_each (more t ts) narrow few =
      let both = and_parts (is_narrow t) (are_narrow ts) narrow in
      (agrees t both.0 (omega arith), agree_each ts both.1 (omega arith))
