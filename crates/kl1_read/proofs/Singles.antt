-- One expression is a series of one.
use Rattle.std.proofs.Common.{◌≡◌, ◌&&◌, Bool, true, false, List, [], ◌∷◌, Option, Some, None, option_map, option_and_then, if◌then◌else◌, refl, ap, ◌∙◌}
use Rattle.kl1_model.specs.Term.{Term, list_of}
use Rattle.kl1_model.specs.Grammar.{Numbered, Expression, Series, last, another}
use Rattle.kl1_model.specs.Meaning.{expression_term, series_terms, is_writable}
use Rattle.kl1_model.specs.reader.Reader.{Answer, then_read, if_there, behind_comma, series_at, all_read, expression_tree}
use Rattle.kl1_model.proofs.ReadSteps.{series_go_on}
use Rattle.kl1_read.specs.Pieces.{writable}
use Rattle.kl1_read.specs.Series.{single}
use Rattle.kl1_read.specs.Meanings.{reading, answer_map, series_read, fit}

-- a list with something after it is not read alone
behind_fits : (b : Bool) (es : List Term) (t : Numbered) (ts : List Numbered) → single (if◌then◌else◌ {A = Answer (List Term)} b (Some (es, t ∷ ts)) None) ≡ None
behind_fits true es t ts = refl
behind_fits false es t ts = refl

two_fit : (b : Bool) (a c : Term) (es : List Term) (ts : List Numbered) → single (if◌then◌else◌ {A = Answer (List Term)} b (Some (a ∷ c ∷ es, ts)) None) ≡ None
two_fit true a c es [] = refl
two_fit true a c es (t ∷ ts) = refl
two_fit false a c es ts = refl

one_fits : (b : Bool) (t : Term) → single (if◌then◌else◌ {A = Answer (List Term)} (b && true) (Some (t ∷ [], [])) None) ≡ if◌then◌else◌ {A = Option Term} b (Some t) None
one_fits true t = refl
one_fits false t = refl

-- more than one term was read
more_read : (e : Expression) (s : Series) (ts : List Numbered) → single (fit (Some (expression_term e ∷ list_of (series_terms s), ts))) ≡ None
more_read e (last d) ts = two_fit _ (expression_term e) (expression_term d) [] ts
more_read e (another d s) ts = two_fit _ (expression_term e) (expression_term d) (list_of (series_terms s)) ts

others_read : (e : Expression) (x : Answer Series) → single (fit (answer_map (λ s. list_of (series_terms s)) (then_read x (λ s ws. Some (another e s, ws))))) ≡ None
others_read e None = refl
others_read e (Some r) = more_read e r.0 r.1

behind_one : (e : Expression) (t : Numbered) (ts : List Numbered) (x : Option (List Numbered)) → single (fit (answer_map (λ s. list_of (series_terms s)) (if_there x (Some (last e, t ∷ ts)) (λ vs. then_read (series_at reading vs) (λ s ws. Some (another e s, ws)))))) ≡ None
behind_one e t ts None = behind_fits _ (expression_term e ∷ []) t ts
behind_one e t ts (Some vs) = others_read e (series_at reading vs)

one_by : (e : Expression) (us : List Numbered) → single (fit (answer_map (λ s. list_of (series_terms s)) (if_there (behind_comma us) (Some (last e, us)) (λ vs. then_read (series_at reading vs) (λ s ws. Some (another e s, ws)))))) ≡ option_and_then writable (option_map expression_term (all_read (Some (e, us))))
one_by e [] = one_fits (is_writable (expression_term e)) (expression_term e)
one_by e (t ∷ ts) = behind_one e t ts (behind_comma (t ∷ ts))

single_by : (x : Answer Expression) → single (fit (answer_map (λ s. list_of (series_terms s)) (then_read x (λ e us. if_there (behind_comma us) (Some (last e, us)) (λ vs. then_read (series_at reading vs) (λ s ws. Some (another e s, ws))))))) ≡ option_and_then writable (option_map expression_term (all_read x))
single_by None = refl
single_by (Some r) = one_by r.0 r.1

-- the only term that is read is that of the tree
pub single_reads : (ts : List Numbered) → single (fit (series_read ts)) ≡ option_and_then writable (option_map expression_term (expression_tree ts))
unfolding series_read
single_reads ts =
    ap (λ x. single (fit (answer_map (λ s. list_of (series_terms s)) x))) (series_go_on ts) ∙ single_by (reading ts)
