-- Goals that were read can be read from their prints, and so texts of the strict form are those prints.
use Rattle.std.specs.Prelude.{◌≡◌, ◌↔◌, ℕ, ◌≤◌, ◌<◌, nat_lt, ◌&&◌, Bool, true, false, if◌then◌else◌, List, [], length, Option, Some, None, option_map, bytes_eq}
use Rattle.std.proofs.Common.{refl, ap, sym, ◌∙◌, arith}
use Rattle.std.proofs.lemmas.Bool.{and_parts, and_from, lt-ltb}
use Rattle.std.proofs.lemmas.List.{append-nil, length-map}
use Rattle.std.proofs.lemmas.Option.{none-some, same_Some}
use Rattle.std.proofs.lemmas.Slice.Eq.{bytes_eq-Decides}
use Rattle.kl1_model.specs.declared.limits.TheConstants.{NUMBER_LIMIT}
use Rattle.kl1_model.specs.Term.{Term}
use Rattle.kl1_model.specs.Token.{Token, Placed, tokens_of_text}
use Rattle.kl1_model.specs.Grammar.{Expression}
use Rattle.kl1_model.specs.reader.Reader.{expression_tree}
use Rattle.kl1_model.specs.Numbering.{numbered_tokens}
use Rattle.kl1_model.specs.Meaning.{expression_term, is_writable, variables_of, is_numbered, highest, numbered_after}
use Rattle.kl1_model.specs.Goal.{is_goal}
use Rattle.kl1_model.specs.Print.{print}
use Rattle.kl1_model.specs.Module.{Reading, good, bad, startable, bare_tokens, first_line, term_of_tokens, read_goal}
use Rattle.kl1_model.specs.laws.ReadLaws.{is_printable, strict_by, strict_goal}
use Rattle.kl1_model.proofs.ReadSound.{expression_trees_sound}
use Rattle.kl1_model.proofs.ReadMeans.{numbers_of, expression_variables}
use Rattle.kl1_model.proofs.ReadOrder.{numbered_in_order}
use Rattle.kl1_model_server.proofs.ReadCounts.{length_numbered, few_numbers, numbered_upto, highest_upto, few_tokens}
use Rattle.kl1_model_server.proofs.ReadBack.{printed_goals_read_back}

-- a term that was read has its variables numbered by first occurrence, and no more of them than tokens
record Counted (t : Term) (most : ℕ) : Type 0 where
  numbered : is_numbered t ≡ true
  few : highest t ≤ most

tree_counted : (ts : List (Token (List ℕ))) (e : Expression) → expression_tree (numbered_tokens ts) ≡ Some e → Counted (expression_term e) (length ts)
tree_counted ts e h =
    let t = expression_term e in
    let rows : numbers_of (numbered_tokens ts) ≡ variables_of t = ap numbers_of (sym (expression_trees_sound (numbered_tokens ts) e h)) ∙ expression_variables e [] ∙ append-nil (variables_of t) in
    let order : is_numbered t ≡ true = ap (numbered_after 0) (sym rows) ∙ numbered_in_order ts [] in
    let least : length (variables_of t) ≤ length ts = omega (arith, ap (length {A = ℕ}) rows, few_numbers (numbered_tokens ts), length_numbered ts []) in
    record { numbered = order; few = highest_upto t (length ts) (numbered_upto (variables_of t) 0 (length ts) order (omega arith)) }

mapped_case : (ts : List (Token (List ℕ))) (x : Option Expression) → expression_tree (numbered_tokens ts) ≡ x → (t : Term) → option_map expression_term x ≡ Some t → Counted t (length ts)
mapped_case ts None is t h = absurd (none-some t h)
mapped_case ts (Some e) is t h = rw (← same_Some (expression_term e) t h) (tree_counted ts e is)

term_counted : (ts : List (Token (List ℕ))) (t : Term) → term_of_tokens ts ≡ Some t → Counted t (length ts)
term_counted ts t h = mapped_case ts (expression_tree (numbered_tokens ts)) refl t h

-- what is known of a goal that was read
record Started (x : Option Term) (t : Term) : Type 0 where
  found : x ≡ Some t
  writable : is_writable t ≡ true
  goal : is_goal t ≡ true

goods : (t u : Term) → good t ≡ good u → t ≡ u
goods t u h = cc

started_by : (x : Bool) (line : ℕ) (t u : Term) → is_writable t && is_goal t ≡ x → if◌then◌else◌ {A = Reading Term} x (good t) (bad line) ≡ good u → Started (Some t) u
started_by true line t u is h =
    let both = and_parts (is_writable t) (is_goal t) is in
    rw (← goods t u h) (record { found = refl; writable = both.0; goal = both.1 })
started_by false line t u is h = cc

started : (line : ℕ) (x : Option Term) (t : Term) → startable line x ≡ good t → Started x t
started line None t h = cc
started line (Some u) t h = started_by (is_writable u && is_goal u) line u t refl h

-- what is known of a goal that was read from tokens
goal_read : (ts : List Placed) (broken_at : Option ℕ) (t : Term) → startable (first_line ts broken_at) (elim broken_at [ None ↦ term_of_tokens (bare_tokens ts) | Some line ↦ None ]) ≡ good t → Started (term_of_tokens (bare_tokens ts)) t
goal_read ts None t h = started (first_line ts None) (term_of_tokens (bare_tokens ts)) t h
goal_read ts (Some line) t h = absurd (none-some t (started (first_line ts (Some line)) None t h).found)

-- a goal that was read can be read from its print
pub goals_read_are_printable : (bs : List ℕ) (t : Term) → length bs < NUMBER_LIMIT → read_goal bs ≡ good t → (is_printable t ≡ true) × (is_goal t ≡ true)
goals_read_are_printable bs t short h =
    let ts = tokens_of_text bs in
    let s = goal_read ts.placed ts.broken_at t h in
    let c = term_counted (bare_tokens ts.placed) t s.found in
    let few : highest t < NUMBER_LIMIT = omega (arith, c.few, length-map ts.placed (λ (p : Placed). p.token), few_tokens bs) in
    (and_from (is_writable t && is_numbered t) (nat_lt (highest t) NUMBER_LIMIT) (and_from (is_writable t) (is_numbered t) s.writable c.numbered) (lt-ltb (highest t) NUMBER_LIMIT few), s.goal)

strict_case : (x : Bool) (bs : List ℕ) (t u : Term) → bytes_eq (print t) bs ≡ x → if◌then◌else◌ {A = Option Term} x (Some t) None ≡ Some u → (good t ≡ good u) × (print u ≡ bs)
strict_case true bs t u is h =
    let same = same_Some t u h in
    (ap good same, ap print (sym same) ∙ (bytes_eq-Decides (print t) bs).0 is)
strict_case false bs t u is h = absurd (none-some u h)

strict_read : (x : Reading Term) (bs : List ℕ) (t : Term) → strict_by bs x ≡ Some t → (x ≡ good t) × (print t ≡ bs)
strict_read (good u) bs t h = strict_case (bytes_eq (print u) bs) bs u t refl h
strict_read (bad line) bs t h = absurd (none-some t h)

-- a text is of the strict form exactly if it is the print of such a goal
pub strict_texts_are_prints : (bs : List ℕ) (t : Term) → length bs < NUMBER_LIMIT → ((strict_goal bs ≡ Some t) ↔ ((is_printable t ≡ true) × (is_goal t ≡ true) × (print t ≡ bs)))
strict_texts_are_prints bs t short = (
  λ h.
      let s = strict_read (read_goal bs) bs t h in
      let p = goals_read_are_printable bs t short s.0 in
      (p.0, p.1, s.1),
  λ h.
      ap (strict_by bs) (ap read_goal (sym h.2) ∙ printed_goals_read_back t h.0 h.1)
      ∙ ap (λ x. if◌then◌else◌ {A = Option Term} x (Some t) None) ((bytes_eq-Decides (print t) bs).1 h.2),
)
