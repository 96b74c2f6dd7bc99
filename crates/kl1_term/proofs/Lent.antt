-- Terms side by side in rows of nodes.
use Rattle.std.proofs.Common.{◌≡◌, List, [], ◌∷◌, append-nil, refl, ap, ◌∙◌}
use Rattle.kl1_model.specs.Term.{Term, Terms, none, more, terms_of, list_of}
use Rattle.kl1_model.specs.code.TermCode.{NodeCode, nodes_of_all, read_nodes, all-read-back}

-- terms as arguments and back
pub terms_of-list_of : (ts : Terms) → terms_of (list_of ts) ≡ ts
terms_of-list_of none = refl
terms_of-list_of (more t ts) = ap (λ x. more t x) (terms_of-list_of ts)

pub list_of-terms_of : (ts : List Term) → list_of (terms_of ts) ≡ ts
list_of-terms_of [] = refl
list_of-terms_of (t ∷ ts) = ap (λ (x : List Term). t ∷ x) (list_of-terms_of ts)

-- the codes of terms in a row make these terms, and no others
pub row_is : (cs : List NodeCode) (ts : Terms) → cs ≡ nodes_of_all ts → read_nodes cs [] ≡ list_of ts
row_is cs ts e = ap (λ (x : List NodeCode). read_nodes x []) e ∙ (all-read-back ts [] ∙ append-nil (list_of ts))
