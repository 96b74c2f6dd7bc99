-- What is left of a row and of cells, and the answer of all.
use Rattle.std.proofs.Common.{◌≡◌, ℕ, List, [], ◌∷◌, ◌++◌, refl, sym, ap, ◌∙◌, subst, arith, append_assoc}
use Rattle.std.proofs.lemmas.List.{append-nil}
use Rattle.kl1_model.specs.Term.{Term, variable, integer, atom, structure, Terms, none, more, count_of, Replacement}
use Rattle.kl1_model.specs.code.TermCode.{NodeCode, nodes_of_all}
use Rattle.kl1_model.specs.Answer.{Answer, yes, no, wait, together}
use Rattle.kl1_model.specs.Match.{Match, with_answer, match_both, match_pattern, match_patterns}
use Rattle.kl1_store.specs.declared.cell.Cell.{Cell}
use Rattle.kl1_store.specs.Held.{Held}
use Rattle.kl1_store.specs.Meaning.{term_of, terms_of}
use Rattle.kl1_match.specs.declared.place.Place.{Place}
use Rattle.kl1_match.specs.Instances.{replacements_of}
use Rattle.kl1_match.specs.Matching.{joined, Begins, GoesInto}
use Rattle.kl1_match.proofs.Skipping.{nodes_of-joined}

-- ---- outcomes

pub together-yes : (o : Answer) → together o yes ≡ o
together-yes yes = refl
together-yes no = refl
together-yes (wait vs) = refl

pub together-no : (o : Answer) → together o no ≡ no
together-no yes = refl
together-no no = refl
together-no (wait vs) = refl

pub together-group : (a b c : Answer) → together (together a b) c ≡ together a (together b c)
together-group yes b c = refl
together-group no b c = refl
together-group (wait us) yes c = refl
together-group (wait us) no c = refl
together-group (wait us) (wait vs) yes = refl
together-group (wait us) (wait vs) no = refl
together-group (wait us) (wait vs) (wait ws) = ap wait (append_assoc us vs ws)

-- the outcome so far, which is no clash, with the variables that were waited for
abbrev pub so_far : List ℕ → Answer
so_far [] = yes
so_far (v ∷ vs) = wait (v ∷ vs)

pub waits-now : (vs : List ℕ) (w : ℕ) → together (so_far vs) (wait (w ∷ [])) ≡ so_far (vs ++ w ∷ [])
waits-now [] w = refl
waits-now (v ∷ vs) w = refl

-- an outcome with places
abbrev pub matched_with : Answer → List Replacement → Match
matched_with o ps = record { answer = o; places = ps }

match-group : (a b c : Match) → match_both (match_both a b) c ≡ match_both a (match_both b c)
match-group a b c =
    ap (λ o. matched_with o ((a.places ++ b.places) ++ c.places)) (together-group a.answer b.answer c.answer)
    ∙ ap (λ (l : List Replacement). matched_with (together a.answer (together b.answer c.answer)) l) (append_assoc a.places b.places c.places)

-- arguments beside arguments, and then others beside others
match-joined : (ps ts qs us : Terms) → count_of ps ≡ count_of ts → match_both (match_patterns ps ts) (match_patterns qs us) ≡ match_patterns (joined ps qs) (joined ts us)
match-joined none none qs us e = refl
match-joined none (more t ts) qs us e = absurd (omega arith)
match-joined (more p ps) none qs us e = absurd (omega arith)
match-joined (more p ps) (more t ts) qs us e =
    match-group (match_pattern p t) (match_patterns ps ts) (match_patterns qs us)
    ∙ ap (match_both (match_pattern p t)) (match-joined ps ts qs us (omega arith))

-- ---- one step

-- what is left of a row and of cells gives the answer of all
pub record IsLeft {N : Type 0} (f : N → List ℕ) (h : Held N) (patterns arguments : Terms) (nodes : List NodeCode) (cells : List (Cell N)) (places : List (Place N)) (named : List ℕ) : Type 0 where
  pub left : Terms
  pub nodes_are : nodes ≡ nodes_of_all left
  pub answer : match_patterns patterns arguments ≡ match_both (matched_with (so_far named) (replacements_of f h places)) (match_patterns left (terms_of f h cells))

pub begun : {N : Type 0} (f : N → List ℕ) (h : Held N) (patterns arguments : Terms) (nodes : List NodeCode) (cells : List (Cell N)) (places : List (Place N)) →
    nodes ≡ nodes_of_all patterns → terms_of f h cells ≡ arguments → places ≡ [] → IsLeft f h patterns arguments nodes cells places []
begun {N = N} f h patterns arguments nodes cells places are e none_yet =
    let P : List (Place N) → Type 0 = λ l. IsLeft f h patterns arguments nodes cells l [] in
    subst P (sym none_yet) (record { left = patterns; nodes_are = are; answer = ap (match_patterns patterns) (sym e) })

terms_of-pop : {N : Type 0} (f : N → List ℕ) (h : Held N) (cells rest : List (Cell N)) (x : Cell N) → cells ≡ x ∷ rest → terms_of f h cells ≡ more (term_of f h x) (terms_of f h rest)
unfolding terms_of
terms_of-pop f h cells rest x e = ap (λ l. terms_of f h l) e

-- the first pattern that is left
pub record IsNext {N : Type 0} (f : N → List ℕ) (h : Held N) (patterns arguments : Terms) (c : NodeCode) (behind : List NodeCode) (x : Cell N) (cells : List (Cell N)) (places : List (Place N)) (named : List ℕ) : Type 0 where
  pub first : Term
  pub others : Terms
  pub begins : Begins c first
  pub nodes_are : c ∷ behind ≡ nodes_of_all (more first others)
  pub answer : match_patterns patterns arguments ≡ match_both (matched_with (so_far named) (replacements_of f h places)) (match_both (match_pattern first (term_of f h x)) (match_patterns others (terms_of f h cells)))

begins-with : (c : NodeCode) (behind : List NodeCode) (p : Term) (ps : Terms) → c ∷ behind ≡ nodes_of_all (more p ps) → Begins c p
begins-with c behind (variable n) ps e = record { behind = []; nodes = cc }
begins-with c behind (integer i) ps e = record { behind = []; nodes = cc }
begins-with c behind (atom a) ps e = record { behind = []; nodes = cc }
begins-with c behind (structure f us) ps e = record { behind = nodes_of_all us; nodes = cc }

pub next_of : {N : Type 0} (f : N → List ℕ) (h : Held N) (patterns arguments : Terms) (c : NodeCode) (nodes behind : List NodeCode) (x : Cell N) (cells rest : List (Cell N)) (places : List (Place N)) (named : List ℕ) →
    nodes ≡ c ∷ behind → cells ≡ x ∷ rest → IsLeft f h patterns arguments nodes cells places named → IsNext f h patterns arguments c behind x rest places named
next_of f h patterns arguments c nodes behind x cells rest places named e popped l = of_terms l.left (sym e ∙ l.nodes_are) l.answer
  where
    of_terms : (ps : Terms) → c ∷ behind ≡ nodes_of_all ps → match_patterns patterns arguments ≡ match_both (matched_with (so_far named) (replacements_of f h places)) (match_patterns ps (terms_of f h cells)) →
        IsNext f h patterns arguments c behind x rest places named
    of_terms none is answer = absurd (cc)
    of_terms (more p ps) is answer = record {
      first = p;
      others = ps;
      begins = begins-with c behind p ps is;
      nodes_are = is;
      answer = answer ∙ ap (λ ts. match_both (matched_with (so_far named) (replacements_of f h places)) (match_patterns (more p ps) ts)) (terms_of-pop f h cells rest x popped);
    }

behind_same : {A : Type 0} {x : A} {xs ys : List A} → x ∷ xs ≡ x ∷ ys → xs ≡ ys
behind_same e = cc

-- a pattern that agrees is passed, with its arguments in front of the others
pub agreed : {N : Type 0} (f : N → List ℕ) (h : Held N) (patterns arguments : Terms) (c : NodeCode) (behind : List NodeCode) (x : Cell N) (cells now : List (Cell N)) (places longer : List (Place N)) (named : List ℕ) →
    (n : IsNext f h patterns arguments c behind x cells places named) → GoesInto f h c n.first (term_of f h x) cells now places longer → IsLeft f h patterns arguments behind now longer named
agreed f h patterns arguments c behind x cells now places longer named n g =
    let ts = terms_of f h cells in
    let old = matched_with (so_far named) (replacements_of f h places) in
    let here = matched_with yes g.taken in
    let inner = match_patterns g.inner g.arguments in
    let rest = match_patterns n.others ts in
    record {
      left = joined g.inner n.others;
      nodes_are = behind_same (n.nodes_are ∙ ap (λ l. l ++ nodes_of_all n.others) g.nodes) ∙ sym (nodes_of-joined g.inner n.others);
      answer =
          n.answer
          ∙ ap (λ m. match_both old (match_both m rest)) g.matched
          ∙ ap (match_both old) (match-group here inner rest)
          ∙ sym (match-group old here (match_both inner rest))
          ∙ ap (λ m. match_both (match_both old here) m) (match-joined g.inner g.arguments n.others ts g.counted)
          ∙ ap (λ o. match_both (matched_with o (replacements_of f h places ++ g.taken)) (match_patterns (joined g.inner n.others) (joined g.arguments ts))) (together-yes (so_far named))
          ∙ ap (λ (l : List Replacement). match_both (matched_with (so_far named) l) (match_patterns (joined g.inner n.others) (joined g.arguments ts))) (sym g.places_are)
          ∙ ap (λ us. match_both (matched_with (so_far named) (replacements_of f h longer)) (match_patterns (joined g.inner n.others) us)) (sym g.cells_are);
    }

-- a pattern that waits is passed
pub waited : {N : Type 0} (f : N → List ℕ) (h : Held N) (patterns arguments : Terms) (c : NodeCode) (behind nodes : List NodeCode) (x : Cell N) (cells : List (Cell N)) (places : List (Place N)) (named : List ℕ) (w : ℕ) →
    (n : IsNext f h patterns arguments c behind x cells places named) → match_pattern n.first (term_of f h x) ≡ with_answer (wait (w ∷ [])) → nodes ≡ nodes_of_all n.others → IsLeft f h patterns arguments nodes cells places (named ++ w ∷ [])
waited f h patterns arguments c behind nodes x cells places named w n m are =
    let rest = match_patterns n.others (terms_of f h cells) in
    let old = matched_with (so_far named) (replacements_of f h places) in
    record {
      left = n.others;
      nodes_are = are;
      answer =
          n.answer
          ∙ ap (λ k. match_both old (match_both k rest)) m
          ∙ sym (match-group old (with_answer (wait (w ∷ []))) rest)
          ∙ ap (λ o. match_both (matched_with o (replacements_of f h places ++ [])) rest) (waits-now named w)
          ∙ ap (λ (l : List Replacement). match_both (matched_with (so_far (named ++ w ∷ [])) l) rest) (append-nil (replacements_of f h places));
    }

-- a pattern that clashes decides
pub clashed : {N : Type 0} (f : N → List ℕ) (h : Held N) (patterns arguments : Terms) (c : NodeCode) (behind : List NodeCode) (x : Cell N) (cells : List (Cell N)) (places : List (Place N)) (named : List ℕ) →
    (n : IsNext f h patterns arguments c behind x cells places named) → match_pattern n.first (term_of f h x) ≡ with_answer no → (match_patterns patterns arguments).answer ≡ no
clashed f h patterns arguments c behind x cells places named n m =
    let rest = match_patterns n.others (terms_of f h cells) in
    ap (λ (k : Match). k.answer) (n.answer ∙ ap (λ k. match_both (matched_with (so_far named) (replacements_of f h places)) (match_both k rest)) m) ∙ together-no (so_far named)

-- patterns without terms, or terms without patterns, clash
pub no_terms : {N : Type 0} (f : N → List ℕ) (h : Held N) (patterns arguments : Terms) (c : NodeCode) (behind nodes : List NodeCode) (cells : List (Cell N)) (places : List (Place N)) (named : List ℕ) →
    nodes ≡ c ∷ behind → cells ≡ [] → IsLeft f h patterns arguments nodes cells places named → (match_patterns patterns arguments).answer ≡ no
unfolding terms_of
no_terms f h patterns arguments c behind nodes cells places named e empty l = of_terms l.left (sym e ∙ l.nodes_are) l.answer
  where
    of_terms : (ps : Terms) → c ∷ behind ≡ nodes_of_all ps → match_patterns patterns arguments ≡ match_both (matched_with (so_far named) (replacements_of f h places)) (match_patterns ps (terms_of f h cells)) → (match_patterns patterns arguments).answer ≡ no
    of_terms none is answer = absurd (cc)
    of_terms (more p ps) is answer =
        ap (λ (k : Match). k.answer) (answer ∙ ap (λ s. match_both (matched_with (so_far named) (replacements_of f h places)) (match_patterns (more p ps) (terms_of f h s))) empty) ∙ together-no (so_far named)

no_nodes : (ps : Terms) → [] ≡ nodes_of_all ps → ps ≡ none
no_nodes none e = refl
no_nodes (more (variable n) ps) e = absurd (cc)
no_nodes (more (integer i) ps) e = absurd (cc)
no_nodes (more (atom a) ps) e = absurd (cc)
no_nodes (more (structure f us) ps) e = absurd (cc)

pub no_patterns : {N : Type 0} (f : N → List ℕ) (h : Held N) (patterns arguments : Terms) (nodes : List NodeCode) (cells rest : List (Cell N)) (x : Cell N) (places : List (Place N)) (named : List ℕ) →
    nodes ≡ [] → cells ≡ x ∷ rest → IsLeft f h patterns arguments nodes cells places named → (match_patterns patterns arguments).answer ≡ no
no_patterns f h patterns arguments nodes cells rest x places named e more_terms l =
    let old = matched_with (so_far named) (replacements_of f h places) in
    ap (λ (k : Match). k.answer)
    (l.answer ∙ ap (λ ps. match_both old (match_patterns ps (terms_of f h cells))) (no_nodes l.left (sym e ∙ l.nodes_are)) ∙ ap (λ ts. match_both old (match_patterns none ts)) (terms_of-pop f h cells rest x more_terms))
    ∙ together-no (so_far named)

-- nothing is left
pub all_matched : {N : Type 0} (f : N → List ℕ) (h : Held N) (patterns arguments : Terms) (nodes : List NodeCode) (cells : List (Cell N)) (places : List (Place N)) (named : List ℕ) →
    nodes ≡ [] → cells ≡ [] → IsLeft f h patterns arguments nodes cells places named → match_patterns patterns arguments ≡ matched_with (so_far named) (replacements_of f h places)
unfolding terms_of
all_matched f h patterns arguments nodes cells places named e empty l =
    let old = matched_with (so_far named) (replacements_of f h places) in
    l.answer
    ∙ ap (λ ps. match_both old (match_patterns ps (terms_of f h cells))) (no_nodes l.left (sym e ∙ l.nodes_are))
    ∙ ap (λ s. match_both old (match_patterns none (terms_of f h s))) empty
    ∙ ap (λ o. matched_with o (replacements_of f h places ++ [])) (together-yes (so_far named))
    ∙ ap (λ (ps : List Replacement). matched_with (so_far named) ps) (append-nil (replacements_of f h places))
