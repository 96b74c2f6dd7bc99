-- Names that an account is given before anything happens.
use Rattle.kl1_user_account.proofs.Words.{◌≡◌, ℕ, zero, suc, ◌+◌, ◌<◌, ◌≤◌, List, [], length, take, get_or, add-one, sym, ap, ◌∙◌, subst, arith, get_or_default, take_all, Known, with_text, with_texts, IsNameList, with_none, texts_of, next_take, next_text, not_before, not_there}

-- the first of a list of names, put to none, are these
first_names : (texts : List (List ℕ)) → IsNameList texts → (i : ℕ) → i ≤ length texts → with_texts [] (take i texts) ≡ take i texts
first_names texts list zero le = with_none []
first_names texts list (suc i) le =
    let t : List ℕ = get_or texts i [] in
    let low : i < length texts = omega arith in
    let step : with_texts [] (take (i + 1) texts) ≡ take (i + 1) texts =
    next_text [] texts i t low (get_or_default texts i [] t low)
    ∙ ap (λ (l : List (List ℕ)). with_text l t) (first_names texts list i (omega arith))
    ∙ not_there (take i texts) t (list.others i low) (not_before texts i t list low (get_or_default texts i [] t low))
    ∙ sym (next_take texts i t low (get_or_default texts i [] t low)) in
    rw (add-one i) at step

-- a list of names, put to the names of an account that has used none, is what it has used then
pub put_to_none : (known : List Known) (texts : List (List ℕ)) → known ≡ [] → IsNameList texts → with_texts (texts_of known) texts ≡ texts
put_to_none known texts none list =
    let all : take (length texts) texts ≡ texts = take_all (length texts) texts (omega arith) in
    ap (λ (ks : List Known). with_texts (texts_of ks) texts) none ∙ ap (with_texts []) (sym all) ∙ first_names texts list (length texts) (omega arith) ∙ all
