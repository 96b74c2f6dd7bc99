-- The goal of an answer that tells variables is one of the account with other numbers.
use Rattle.std.proofs.Common.{◌≡◌, ℕ, ◌+◌, ◌==◌, not, ◌||◌, Bool, true, false, if◌then◌else◌, List, [], refl, sym, ap, ap₂, ◌∙◌}
use Rattle.std.specs.Prelude.{Option, Some, None, option_map}
use Rattle.std.proofs.lemmas.Bool.{and_parts, eqb-true, false≢true}
use Rattle.kl1_model.specs.Term.{Term, variable, integer, atom, structure, Terms, none, more, occurs, occurs_in, substituted, each_substituted}
use Rattle.kl1_model.specs.Meaning.{variables_of, highest}
use Rattle.kl1_model.specs.Opening.{with_next_variables}
use Rattle.kl1_model.specs.Telling.{Asked, Given, stands_at, new_among, place_among, given_variable, given_told}
use Rattle.kl1_model.specs.Answering.{given}
use Rattle.kl1_model.specs.laws.RelabelLaws.{ShiftsFrom, renamed, each_renamed, relabelled, asked_renamed, GivenIsRenamed}

-- a term with another number for each variable
abbrev Made : (ℕ → ℕ) → Term → Type 0
Made g t = (u : Term) × (renamed g u ≡ t)

mutual
  made : (g : ℕ → ℕ) (f : ℕ → Term) → ((v : ℕ) → Made g (f v)) → (t : Term) → Made g (substituted f t)
  made g f k (variable v) = k v
  made g f k (integer i) = (integer i, refl)
  made g f k (atom a) = (atom a, refl)
  made g f k (structure h ts) = let m = each_made g f k ts in (structure h m.0, ap (structure h) m.1)

  each_made : (g : ℕ → ℕ) (f : ℕ → Term) → ((v : ℕ) → Made g (f v)) → (ts : Terms) → (us : Terms) × (each_renamed g us ≡ each_substituted f ts)
  each_made g f k none = (none, refl)
  each_made g f k (more t ts) = let m = made g f k t in let n = each_made g f k ts in (more m.0 n.0, ap₂ more m.1 n.1)

-- a variable that has this number now
abbrev From : (ℕ → ℕ) → ℕ → Type 0
From g v = (u : ℕ) × (g u ≡ v)

from_either : (g : ℕ → ℕ) (v : ℕ) (b c : Bool) → (b || c) ≡ true → (b ≡ true → From g v) → (c ≡ true → From g v) → From g v
from_either g v true c e f h = f refl
from_either g v false c e f h = h e

mutual
  from_term : (g : ℕ → ℕ) (v : ℕ) (t : Term) → occurs v (renamed g t) ≡ true → From g v
  from_term g v (variable n) e = (n, sym (eqb-true v (g n) e))
  from_term g v (integer i) e = absurd (false≢true e)
  from_term g v (atom a) e = absurd (false≢true e)
  from_term g v (structure f ts) e = from_terms g v ts e

  from_terms : (g : ℕ → ℕ) (v : ℕ) (ts : Terms) → occurs_in v (each_renamed g ts) ≡ true → From g v
  from_terms g v none e = absurd (false≢true e)
  from_terms g v (more t ts) e = from_either g v (occurs v (renamed g t)) (occurs_in v (each_renamed g ts)) e (λ h. from_term g v t h) (λ h. from_terms g v ts h)

from_asked : (g : ℕ → ℕ) (v : ℕ) (o : Option Asked) → stands_at (option_map (asked_renamed g) o) v ≡ true → From g v
from_asked g v None e = absurd (false≢true e)
from_asked g v (Some a) e = from_term g v a.goal (and_parts (occurs v (renamed g a.goal)) (not (v == g a.new)) e).0

variable_by : (g : ℕ → ℕ) (o : Option Asked) (new : List ℕ) (last v : ℕ) (b : Bool) → ShiftsFrom g last → stands_at (option_map (asked_renamed g) o) v ≡ b → Made g (if b then variable v else variable (g last + place_among new v))
variable_by g o new last v true on e = let u = from_asked g v o e in (variable u.0, ap variable u.1)
variable_by g o new last v false on e = (variable (last + place_among new v), ap variable (on (place_among new v)))

pub given_is_renamed : GivenIsRenamed
given_is_renamed g s a t up on told =
    let o = option_map (asked_renamed g) a in
    let last = s.last_variable in
    let new = new_among o [] (variables_of t) in
    let m = made g (given_variable o new (g last)) (λ v. variable_by g a new last v (stands_at o v) on refl) t in
    let is : (given (relabelled g s) o t).goal ≡ (given_told o (g last) t).goal =
    ap (λ (b : Bool). let x : Given = if b then given_told o (g last) t else record { goal = with_next_variables (g last) t; new = highest t; tells_gone = false } in x.goal) told in
    (m.0, m.1 ∙ sym is)
