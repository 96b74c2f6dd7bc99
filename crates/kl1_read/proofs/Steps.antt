-- One step of reading.
use Rattle.std.proofs.Common.{◌≡◌, List, [], ◌∷◌, ◌++◌, reverse, Some, None, IsTrue, IfOk, Result, Ok, Err, if◌then◌else◌, refl, ap, sym, ◌∙◌}
use Rattle.std.specs.List.{list_all}
use Rattle.std.proofs.lemmas.Bool.{and_from}
use Rattle.std.proofs.lemmas.List.Folds.{list_all-append}
use Rattle.kl1_model.specs.Meaning.{is_writable}
use Rattle.std.proofs.lemmas.List.{reverse-append}
use Rattle.kl1_model.specs.Term.{Term}
use Rattle.kl1_model.specs.Grammar.{Numbered}
use Rattle.kl1_model.specs.reader.Reader.{Answer, then_read, if_there, behind_comma}
use Rattle.kl1_read.specs.declared.opened.Opened.{Opened}
use Rattle.kl1_read.specs.declared.left.Left.{Left}
use Rattle.kl1_read.specs.declared.frame.Frame.{Frame}
use Rattle.kl1_read.specs.Waits.{no_left, opened_of, left_of}
use Rattle.kl1_read.specs.declared.begun.Begun.{Begun}
use Rattle.kl1_read.specs.declared.joined.Joined.{Joined}
use Rattle.kl1_read.specs.declared.closed.Closed.{Closed}
use Rattle.kl1_read.specs.Beginnings.{begun_then, Begins}
use Rattle.kl1_read.specs.Joins.{joined_then, Joins, closed_then, Closes}
use Rattle.kl1_read.specs.Meanings.{series_read, after_primary, after_opened, after_last, after_expression, open_then, primary_then, fit}
use Rattle.kl1_read.proofs.Doomed.{primary_dooms, expression_dooms}
use Rattle.kl1_read.proofs.Goings.{expression_goes, series_behind, one_more}

-- what follows from what holds of a result
pub ok_along : {A E : Type 0} (P Q : A → Type 0) (r : Result A E) → IfOk r P → ((a : A) → P a → Q a) → IfOk r Q
ok_along P Q (Ok a) h f = f a h
ok_along P Q (Err e) h f = h

-- what was opened waits after those before
pub frame_opens : (fs gs : List Frame) (f : Frame) (opened : Opened) (left : Left) (done : List Term) (us : List Numbered) → gs ≡ fs ++ f ∷ [] → opened_of f ≡ opened → left_of f ≡ left → primary_then no_left (after_expression (reverse gs) done) us ≡ open_then opened (after_primary left (after_expression (reverse fs) done)) us
frame_opens fs gs f opened left done us e o l =
    ap (λ xs. primary_then no_left (after_expression xs done) us) (ap reverse e ∙ reverse-append fs (f ∷ []))
    ∙ sym (expression_goes (after_expression (f ∷ reverse fs) done) us)
    ∙ ap (λ x. open_then x (after_primary (left_of f) (after_expression (reverse fs) done)) us) o
    ∙ ap (λ x. open_then opened (after_primary x (after_expression (reverse fs) done)) us) l

-- the frame that was opened last waits for an expression
pub frame_closes : (fs gs : List Frame) (f : Frame) (opened : Opened) (left : Left) (done : List Term) (e : Term) (ts : List Numbered) → gs ≡ fs ++ f ∷ [] → opened ≡ opened_of f → left ≡ left_of f → after_opened opened (after_primary left (after_expression (reverse fs) done)) e ts ≡ after_expression (reverse gs) done e ts
frame_closes fs gs f opened left done e ts h o l =
    ap (λ x. after_opened x (after_primary left (after_expression (reverse fs) done)) e ts) o
    ∙ ap (λ x. after_opened (opened_of f) (after_primary x (after_expression (reverse fs) done)) e ts) l
    ∙ ap (λ xs. after_expression xs done e ts) (sym (ap reverse h ∙ reverse-append fs (f ∷ [])))

-- more terms are read after those that are done
pub more_terms : (done : List Term) (us : List Numbered) → primary_then no_left (after_expression [] done) us ≡ then_read (series_read us) (λ s vs. Some (done ++ s, vs))
more_terms done us =
    sym (expression_goes (after_last done) us) ∙ sym (series_behind (λ es vs. Some (es, vs)) done us)

-- one term more is done
pub term_done : (done now : List Term) (e : Term) (ts us : List Numbered) → now ≡ done ++ e ∷ [] → Some us ≡ behind_comma ts → primary_then no_left (after_expression [] now) us ≡ after_last done e ts
term_done done now e ts us n h =
    ap (λ es. primary_then no_left (after_expression [] es) us) n
    ∙ more_terms (done ++ e ∷ []) us
    ∙ sym (one_more (λ es vs. Some (es, vs)) done e us)
    ∙ ap (λ x. if_there x (Some (done ++ e ∷ [], ts)) (λ us. then_read (series_read us) (λ s vs. Some (done ++ e ∷ s, vs)))) h

read_again : (x : Answer (List Term)) → then_read x (λ s vs. Some ([] ++ s, vs)) ≡ x
read_again None = refl
read_again (Some r) = refl

-- terms from the first on
pub terms_begin : (ts : List Numbered) → primary_then no_left (after_expression [] []) ts ≡ series_read ts
terms_begin ts = more_terms [] ts ∙ read_again (series_read ts)

-- goes on after the front of a primary
pub begun_on : (b c : Begun) (left : Left) (fs : List Frame) (done : List Term) (ts : List Numbered) → b ≡ c → Begins b ts → fit (begun_then c (after_primary left (after_expression fs done))) ≡ fit (primary_then left (after_expression fs done) ts)
begun_on b c left fs done ts e h =
    ap (λ x. fit (begun_then x (after_primary left (after_expression fs done)))) (sym e) ∙ h (after_primary left (after_expression fs done)) (primary_dooms left (after_expression fs done) (expression_dooms fs done))

-- goes on after a primary
pub joined_on : (b c : Joined) (left now : Left) (fs : List Frame) (done : List Term) (p : Term) (ts : List Numbered) → b ≡ c → Joins left p ts now b → fit (joined_then now c (after_expression fs done)) ≡ fit (after_primary left (after_expression fs done) p ts)
joined_on b c left now fs done p ts e h =
    ap (λ x. fit (joined_then now x (after_expression fs done))) (sym e) ∙ h (after_expression fs done) (expression_dooms fs done)

-- goes on after an expression in what was opened
pub closed_on : (b c : Closed) (opened : Opened) (left : Left) (fs : List Frame) (done : List Term) (e : Term) (ts : List Numbered) → b ≡ c → Closes opened e ts b → fit (closed_then c (after_primary left (after_expression fs done))) ≡ fit (after_opened opened (after_primary left (after_expression fs done)) e ts)
closed_on b c opened left fs done e ts i h =
    ap (λ x. fit (closed_then x (after_primary left (after_expression fs done)))) (sym i) ∙ h (after_primary left (after_expression fs done)) (primary_dooms left (after_expression fs done) (expression_dooms fs done))

-- terms that can be written are there
pub finished_fits : (done : List Term) (ts : List Numbered) → IsTrue (list_all is_writable done) → ◌≡◌ {A = Answer (List Term)} (Some (done, ts)) (fit (Some (done, ts)))
finished_fits done ts h = sym (ap (λ b. if◌then◌else◌ {A = Answer (List Term)} b (Some (done, ts)) None) h)

-- one more term that can be written
pub done_grows : (done : List Term) (t : Term) → IsTrue (list_all is_writable done) → IsTrue (is_writable t) → IsTrue (list_all is_writable (done ++ t ∷ []))
done_grows done t h k = rw list_all-append (and_from _ _ h (and_from _ _ k refl))
