-- What places of a head come to, two at a time, and the tests with them.
use Rattle.std.specs.Prelude.{ℕ, Bool, List}
use Rattle.kl1_model.specs.declared.built_in.BuiltIn.{BuiltIn}
use Rattle.kl1_model.specs.Answer.{together}
use Rattle.kl1_model.specs.Match.{two_answer, one_answer, each_answer, tests_answer}
use Rattle.kl1_store.specs.Held.{Held}
use Rattle.kl1_match.specs.declared.place.Place.{Place}
use Rattle.kl1_match.specs.Instances.{replacement_of, replacements_of}
use Rattle.kl1_match.specs.Outcomes.{Comes}
use Rattle.kl1_match.specs.TestTerms.{Tests, last_of}
use Rattle.kl1_match.specs.Testing.{tests_from}

-- what comes of two places of a head
abbrev pub TwoCome : {N : Type 0} → (BuiltIn → N) → Held N → Place N → Place N → List ℕ → List ℕ → Bool → Type 0
TwoCome built h p q before after answer = Comes built h (λ f. two_answer (replacement_of f h p) (replacement_of f h q)) before after answer

-- what comes of a place beside others
abbrev pub OneComes : {N : Type 0} → (BuiltIn → N) → Held N → Place N → List (Place N) → List ℕ → List ℕ → Bool → Type 0
OneComes built h p qs before after answer = Comes built h (λ f. one_answer (replacement_of f h p) (replacements_of f h qs)) before after answer

-- what comes of each two places
abbrev pub EachComes : {N : Type 0} → (BuiltIn → N) → Held N → List (Place N) → List ℕ → List ℕ → Bool → Type 0
EachComes built h ps before after answer = Comes built h (λ f. each_answer (replacements_of f h ps)) before after answer

-- what comes of each two places of a variable, and of all tests
abbrev pub RestComes : {N : Type 0} → (BuiltIn → N) → Tests N → List ℕ → List ℕ → Bool → Type 0
RestComes built t before after answer = Comes built t.held (λ f. together (each_answer (replacements_of f t.held t.places)) (tests_answer (last_of t) (replacements_of f t.held t.places) (tests_from built f t 0))) before after answer
