-- Names of the language, as they are found.
use Rattle.std.proofs.Common.{◌≡◌, ℕ, Bool, true, false, cond, ◌||◌, List, [], ◌∷◌, Some, None, bytes_eq, find, refl, sym, ap, ◌∙◌}
use Rattle.std.specs.List.{list_any}
use Rattle.std.proofs.lemmas.Slice.Eq.{bytes_eq-Decides}
use Rattle.kl1_model.specs.declared.built_in.BuiltIn.{BuiltIn}
use Rattle.kl1_model.specs.Text.{text_of, built_ins}
use Rattle.kl1_text.specs.BuiltIns.{built_in_of}
use Rattle.kl1_clause.specs.NameList.{is_of_language}

-- texts compared either way
pub bytes_eq_comm : (xs ys : List ℕ) (r s : Bool) → bytes_eq xs ys ≡ r → bytes_eq ys xs ≡ s → r ≡ s
bytes_eq_comm xs ys true true p q = refl
bytes_eq_comm xs ys false false p q = refl
bytes_eq_comm xs ys true false p q = let e : bytes_eq ys xs ≡ true = (bytes_eq-Decides ys xs).1 (sym ((bytes_eq-Decides xs ys).0 p)) in cc
bytes_eq_comm xs ys false true p q = let e : bytes_eq xs ys ≡ true = (bytes_eq-Decides xs ys).1 (sym ((bytes_eq-Decides ys xs).0 q)) in cc

-- what is found passes the test, and so something passes it
found_first : (p q : BuiltIn → Bool) (c b : BuiltIn) (cs : List BuiltIn) (v w : Bool) → p c ≡ v → q c ≡ w → v ≡ w → (find p cs ≡ Some b → (p b ≡ true) × (list_any q cs ≡ true)) → cond v (Some c) (find p cs) ≡ Some b → (p b ≡ true) × ((w || list_any q cs) ≡ true)
found_first p q c b cs true true e f same later h = let is : c ≡ b = cc in (ap p (sym is) ∙ e, refl)
found_first p q c b cs false false e f same later h = later h
found_first p q c b cs true false e f same later h = cc
found_first p q c b cs false true e f same later h = cc

found : (p q : BuiltIn → Bool) → ((b : BuiltIn) → p b ≡ q b) → (b : BuiltIn) (cs : List BuiltIn) → find p cs ≡ Some b → (p b ≡ true) × (list_any q cs ≡ true)
found p q same b [] h = cc
found p q same b (c ∷ cs) h = found_first p q c b cs (p c) (q c) refl refl (same c) (found p q same b cs) h

-- if nothing is found, nothing passes the test
missed_first : (p q : BuiltIn → Bool) (c : BuiltIn) (cs : List BuiltIn) (v w : Bool) → v ≡ w → (find p cs ≡ None → list_any q cs ≡ false) → cond v (Some c) (find p cs) ≡ None → (w || list_any q cs) ≡ false
missed_first p q c cs true true same later h = cc
missed_first p q c cs false false same later h = later h
missed_first p q c cs true false same later h = cc
missed_first p q c cs false true same later h = cc

missed : (p q : BuiltIn → Bool) → ((b : BuiltIn) → p b ≡ q b) → (cs : List BuiltIn) → find p cs ≡ None → list_any q cs ≡ false
missed p q same [] h = refl
missed p q same (c ∷ cs) h = missed_first p q c cs (p c) (q c) (same c) (missed p q same cs) h

-- a name of the language is found by its text
pub found_in_language : (text : List ℕ) (b : BuiltIn) → built_in_of text ≡ Some b → (text_of b ≡ text) × (is_of_language text ≡ true)
unfolding is_of_language
found_in_language text b h =
    let all = found (λ c. bytes_eq (text_of c) text) (λ c. bytes_eq text (text_of c)) (λ c. bytes_eq_comm (text_of c) text (bytes_eq (text_of c) text) (bytes_eq text (text_of c)) refl refl) b built_ins h in
    ((bytes_eq-Decides (text_of b) text).0 all.0, all.1)

-- a text that isn't found is no name of the language
pub missed_in_language : (text : List ℕ) → built_in_of text ≡ None → is_of_language text ≡ false
unfolding is_of_language
missed_in_language text h = missed (λ c. bytes_eq (text_of c) text) (λ c. bytes_eq text (text_of c)) (λ c. bytes_eq_comm (text_of c) text (bytes_eq (text_of c) text) (bytes_eq text (text_of c)) refl refl) built_ins h
