-- Bytes in base64, in a text that they fill.
use Rattle.std.proofs.Common.{◌≡◌, ◌≤◌, ℕ, nat_le, Bool, true, false, List, ◌++◌, length, drop, Result, Ok, ap, ◌∙◌, refl, append-nil, arith}
use Rattle.std.proofs.lemmas.List.{drop_all}
use Rattle.base64.specs.GeneralPurpose.{encode_of}
use Rattle.base64.specs.declared.engine.general_purpose.GeneralPurpose.{GeneralPurpose}

ok_same : {E : Type 0} (m n : ℕ) (r : Result ℕ E) → r ≡ Ok m → r ≡ Ok n → m ≡ n
ok_same m n r p q = cc

-- bytes that are as many as the text has fill it
filled : {E : Type 0} (old : List ℕ) (n size : ℕ) (r : Result ℕ E) (v : Bool) → nat_le size (length old) ≡ v → length old ≡ n → r ≡ Ok n → (size ≤ length old → r ≡ Ok size) → length old ≤ size
filled old n size r true t long is fits =
    let le : size ≤ length old = grind (arith, t) in
    let same : n ≡ size = ok_same n size r is (fits le) in
    omega (arith, long, same)
filled old n size r false t long is fits = grind (arith, t)

-- a text that was written over by as many bytes as it has is these
pub encoded_is : {E : Type 0} (e : GeneralPurpose) (m old new : List ℕ) (n size : ℕ) (r : Result ℕ E) → length old ≡ n → r ≡ Ok n → (size ≤ length old → r ≡ Ok size) → new ≡ encode_of e m ++ drop size old → new ≡ encode_of e m
encoded_is e m old new n size r long is fits written =
    written ∙ ap (λ l. encode_of e m ++ l) (drop_all size old (filled old n size r (nat_le size (length old)) refl long is fits)) ∙ append-nil (encode_of e m)
