-- Whether a name is built in.
use Rattle.std.proofs.Common.{◌≡◌, ℕ, ◌||◌, Bool, true, false, List, [], ◌∷◌, bytes_eq, refl, sym, if◌then◌else◌}
use Rattle.std.specs.Prelude.{Option, Some, is_some, find}
use Rattle.std.specs.List.{list_any}
use Rattle.std.proofs.lemmas.Slice.Eq.{bytes_eq-Decides}
use Rattle.kl1_model.specs.declared.built_in.BuiltIn.{BuiltIn}
use Rattle.kl1_model.specs.Text.{text_of, built_ins, is_built_in}
use Rattle.kl1_text.specs.BuiltIns.{built_in_of}
use Rattle.kl1_journal_entries.proofs.Joined.{same_by}

either_way : (a b : List ℕ) → bytes_eq a b ≡ bytes_eq b a
either_way a b = same_by _ _ (λ h. (bytes_eq-Decides b a).1 (sym ((bytes_eq-Decides a b).0 h))) (λ h. (bytes_eq-Decides a b).1 (sym ((bytes_eq-Decides b a).0 h)))

first_by : (x y : Bool) (b : BuiltIn) (o : Option BuiltIn) (rest : Bool) → x ≡ y → is_some o ≡ rest → is_some (if x then Some b else o) ≡ y || rest
first_by true true b o rest same is = refl
first_by true false b o rest same is = cc
first_by false true b o rest same is = cc
first_by false false b o rest same is = is

found_in : (t : List ℕ) (bs : List BuiltIn) → is_some (find (λ b. bytes_eq (text_of b) t) bs) ≡ list_any (λ b. bytes_eq t (text_of b)) bs
found_in t [] = refl
found_in t (b ∷ bs) = first_by (bytes_eq (text_of b) t) (bytes_eq t (text_of b)) b (find (λ b. bytes_eq (text_of b) t) bs) (list_any (λ b. bytes_eq t (text_of b)) bs) (either_way (text_of b) t) (found_in t bs)

-- a name is built in if there is a built-in name of that text
pub built_in_found : (t : List ℕ) → is_some (built_in_of t) ≡ is_built_in t
built_in_found t = found_in t built_ins
