-- What is put after bytes, piece by piece.
use Rattle.std.specs.Prelude.{◌≡◌, ℕ, List, [], ◌∷◌, ◌++◌, codes, decimal, Vec}
use Rattle.std.specs.declared.alloc.Global.{Global}
use Rattle.std.proofs.Common.{ap, ◌∙◌, append_assoc}
use Rattle.kl1_reasons.specs.declared.reason.Reason.{Reason}
use Rattle.kl1_reasons.specs.Told.{hint_lines, lines_of}

-- what was put so far, and one piece more
next : (out so_far before after piece : List ℕ) → before ≡ out ++ so_far → after ≡ before ++ piece → after ≡ out ++ (so_far ++ piece)
next out so_far before after piece was is = is ∙ ap (λ x. x ++ piece) was ∙ append_assoc out so_far piece

-- the pieces of a reason's lines
pub pieces_put : (out name severity : List ℕ) (r : Reason) (why : List ℕ) (hints : List (Vec ℕ Global)) (a b c d e f g h i j : List ℕ) →
    a ≡ out ++ name → b ≡ a ++ codes ":" → c ≡ b ++ decimal r.place.line → d ≡ c ++ codes ":" → e ≡ d ++ decimal r.place.column → f ≡ e ++ codes ": " → g ≡ f ++ severity → h ≡ g ++ codes ": " →
    why ≡ r.words.why.items → i ≡ h ++ why → j ≡ i ++ 10 ∷ [] → hints ≡ r.words.hints.items → j ++ hint_lines hints ≡ out ++ lines_of name severity r
pieces_put out name severity r why hints a b c d e f g h i j one two three four five six seven eight reason nine ten told =
    let to_b = next out name a b (codes ":") one two in
    let to_c = next out (name ++ codes ":") b c (decimal r.place.line) to_b three in
    let to_d = next out (name ++ codes ":" ++ decimal r.place.line) c d (codes ":") to_c four in
    let to_e = next out (name ++ codes ":" ++ decimal r.place.line ++ codes ":") d e (decimal r.place.column) to_d five in
    let to_f = next out (name ++ codes ":" ++ decimal r.place.line ++ codes ":" ++ decimal r.place.column) e f (codes ": ") to_e six in
    let to_g = next out (name ++ codes ":" ++ decimal r.place.line ++ codes ":" ++ decimal r.place.column ++ codes ": ") f g severity to_f seven in
    let to_h = next out (name ++ codes ":" ++ decimal r.place.line ++ codes ":" ++ decimal r.place.column ++ codes ": " ++ severity) g h (codes ": ") to_g eight in
    let to_i = next out (name ++ codes ":" ++ decimal r.place.line ++ codes ":" ++ decimal r.place.column ++ codes ": " ++ severity ++ codes ": ") h i why to_h nine in
    ap (λ x. x ++ hint_lines hints) ten
    ∙ append_assoc i (10 ∷ []) (hint_lines hints)
    ∙ ap (λ x. x ++ 10 ∷ hint_lines hints) to_i
    ∙ append_assoc out (name ++ codes ":" ++ decimal r.place.line ++ codes ":" ++ decimal r.place.column ++ codes ": " ++ severity ++ codes ": " ++ why) (10 ∷ hint_lines hints)
    ∙ ap (λ x. out ++ (name ++ codes ":" ++ decimal r.place.line ++ codes ":" ++ decimal r.place.column ++ codes ": " ++ severity ++ codes ": " ++ x ++ 10 ∷ hint_lines hints)) reason
    ∙ ap (λ x. out ++ (name ++ codes ":" ++ decimal r.place.line ++ codes ":" ++ decimal r.place.column ++ codes ": " ++ severity ++ codes ": " ++ r.words.why.items ++ 10 ∷ hint_lines x)) told
