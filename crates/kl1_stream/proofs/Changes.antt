-- What a report, an end and a message of the console do to an account's state, by the definitions.
use Rattle.std.proofs.Common.{◌≡◌, ℕ, suc, ◌+◌, Bool, ◌||◌, if◌then◌else◌, List, refl, sym, ap, ◌∙◌}
use Rattle.std.specs.Prelude.{Some, None}
use Rattle.kl1_model.specs.declared.built_in.BuiltIn.{BuiltIn}
use Rattle.kl1_model.specs.Term.{Term, variable, integer, atom, structure, occurs}
use Rattle.kl1_model.specs.Meaning.{cell}
use Rattle.kl1_model.specs.State.{Shoen, State, shoen_at, change_shoen, replace_in_state}
use Rattle.kl1_model.specs.Report.{has_made_last, reported_on, report, reported_at, broken_at, close, closed_at}
use Rattle.kl1_model.specs.code.Steps.{report_of, close_of}
use Rattle.kl1_model.specs.declared.message.Message.{Message}
use Rattle.kl1_model.specs.Control.{message_term, message_nodes}
use Rattle.kl1_model.specs.Sending.{with_control_tail, sent_on}
use Rattle.kl1_text.specs.Reading.{Reads}
use Rattle.kl1_store.specs.declared.cell.Cell.{Cell}
use Rattle.kl1_store.specs.Held.{Held}
use Rattle.kl1_store.specs.Meaning.{term_of}
use Rattle.kl1_stream.specs.declared.told.Told.TheVariants.{Dropped, Broken, Sent}
use Rattle.kl1_stream.specs.Reports.{Breaks, ToldAs}
use Rattle.kl1_stream.specs.Messages.{IsNoVariable, PutAs}

-- a state whose shoen `n` has the tail that a cell means, and whose variables are those of a store
pub record IsStateOf {N : Type 0} (f : N → List ℕ) (old : Held N) (tail : Cell N) (is_broken is_last : Bool) (n : ℕ) (s : State) : Type 0 where
  pub shoen : Shoen
  pub there : shoen_at n s.shoens ≡ Some shoen
  pub tail_is : shoen.tail ≡ term_of f old tail
  pub broken_is : shoen.is_broken ≡ is_broken
  pub variables : suc s.last_variable ≡ old.variables
  pub last_is : is_last ≡ has_made_last s

reports_as : {N : Type 0} (f : N → List ℕ) (old : Held N) (tail : Cell N) (is_broken is_last : Bool) (n : ℕ) (s : State) (m : Term) → IsStateOf f old tail is_broken is_last n s →
    report n m s ≡ (if is_broken then s else reported_at n m (term_of f old tail) s)
reports_as f old tail is_broken is_last n s m p =
    ap (λ o. report_of o n m s) p.there
    ∙ ap (λ b. if b then s else reported_at n m p.shoen.tail s) p.broken_is
    ∙ ap (λ t. if is_broken then s else reported_at n m t s) p.tail_is

-- a report that was made in place of a variable, the next of which has this number
abbrev pub made_at : ℕ → ℕ → Term → ℕ → State → State
made_at n v m next s = change_shoen n (λ h. record h { tail = variable next }) (record (replace_in_state v (cell m (variable next)) s) { last_variable = next; reports = suc s.reports })

broken_by : (n : ℕ) (t m : Term) (s : State) (is_last : Bool) → is_last ≡ has_made_last s → Breaks is_last t m → reported_at n m t s ≡ broken_at n s
broken_by n (variable v) m s is_last q e =
    ap (λ b. reported_on n m (if occurs v m || b then None else Some v) s) (sym q)
    ∙ ap (λ b. reported_on n m (if b then None else Some v) s) e
broken_by n (integer i) m s is_last q e = refl
broken_by n (atom a) m s is_last q e = refl
broken_by n (structure g ts) m s is_last q e = refl

-- a report that is dropped leaves the state
pub report_dropped : {N : Type 0} (built : BuiltIn → N) (f : N → List ℕ) (old new : Held N) (tail message : Cell N) (is_broken is_last : Bool) (n : ℕ) (s : State) → Reads built f → IsStateOf f old tail is_broken is_last n s →
    ToldAs built old new tail is_broken is_last message Dropped → report n (term_of f old message) s ≡ s
report_dropped built f old new tail message is_broken is_last n s reads p d =
    let m = term_of f old message in
    reports_as f old tail is_broken is_last n s m p ∙ ap (λ b. if b then s else reported_at n m (term_of f old tail) s) d.0

-- a report that breaks the stream
pub report_broken : {N : Type 0} (built : BuiltIn → N) (f : N → List ℕ) (old new : Held N) (tail message : Cell N) (is_broken is_last : Bool) (n : ℕ) (s : State) → Reads built f → IsStateOf f old tail is_broken is_last n s →
    ToldAs built old new tail is_broken is_last message Broken → report n (term_of f old message) s ≡ broken_at n s
report_broken built f old new tail message is_broken is_last n s reads p d =
    let m = term_of f old message in
    reports_as f old tail is_broken is_last n s m p
    ∙ ap (λ b. if b then s else reported_at n m (term_of f old tail) s) d.whole
    ∙ broken_by n (term_of f old tail) m s is_last p.last_is (d.breaks f reads)

-- a report that is sent
pub report_sent : {N : Type 0} (built : BuiltIn → N) (f : N → List ℕ) (old new : Held N) (tail message : Cell N) (is_broken is_last : Bool) (next n : ℕ) (s : State) → Reads built f → IsStateOf f old tail is_broken is_last n s →
    (d : ToldAs built old new tail is_broken is_last message (Sent next)) →
    report n (term_of f old message) s ≡ made_at n d.number (term_of f old message) next s
report_sent built f old new tail message is_broken is_last next n s reads p d =
    let m = term_of f old message in
    let sent = d.sent.each f reads in
    let moved : ℕ → State = λ k. made_at n d.number m k s in
    reports_as f old tail is_broken is_last n s m p
    ∙ ap (λ b. if b then s else reported_at n m (term_of f old tail) s) d.whole
    ∙ ap (λ t. reported_at n m t s) (d.tail_is f)
    ∙ ap (λ b. reported_on n m (if b || has_made_last s then None else Some d.number) s) sent.free
    ∙ ap (λ b. reported_on n m (if b then None else Some d.number) s) (sym p.last_is ∙ d.more)
    ∙ ap moved (p.variables ∙ sym d.sent.next_is)

-- the end of a stream: on a broken one nothing, else what the definitions do at its tail
pub closes : {N : Type 0} (f : N → List ℕ) (old : Held N) (tail : Cell N) (is_broken is_last : Bool) (n : ℕ) (s : State) → IsStateOf f old tail is_broken is_last n s →
    close n s ≡ (if is_broken then s else closed_at (term_of f old tail) s)
closes f old tail is_broken is_last n s p =
    ap (λ o. close_of o s) p.there
    ∙ ap (λ b. if b then s else closed_at p.shoen.tail s) p.broken_is
    ∙ ap (λ t. if is_broken then s else closed_at t s) p.tail_is

-- a message that was put in place of a variable, the next of which has this number
abbrev pub put_at : ℕ → ℕ → Message → ℕ → State → State
put_at n v m next s =
    change_shoen n (with_control_tail (variable next)) (record (replace_in_state v (cell (message_term m) (variable next)) s) {
      last_variable = next;
      variables = suc s.variables;
      nodes = s.nodes + message_nodes m;
    })

-- a message of the console that was put at the end of a control stream
pub puts : {N : Type 0} (built : BuiltIn → N) (f : N → List ℕ) (old new : Held N) (tail : Cell N) (m : Message) (next n : ℕ) (s : State) → suc s.last_variable ≡ old.variables → (d : PutAs built old new tail m (Some next)) →
    sent_on n m (term_of f old tail) s ≡ put_at n d.number m next s
puts built f old new tail m next n s e d = ap (λ t. sent_on n m t s) (d.tail_is f) ∙ ap (λ k. put_at n d.number m k s) (e ∙ sym d.next_is)

pub no_end : (n : ℕ) (m : Message) (t : Term) (s : State) → IsNoVariable t → sent_on n m t s ≡ s
no_end n m (variable v) s e = absurd e
no_end n m (integer i) s e = refl
no_end n m (atom a) s e = refl
no_end n m (structure g ts) s e = refl

-- if the end of the stream is no variable, nothing is put
pub puts_nothing : {N : Type 0} (built : BuiltIn → N) (f : N → List ℕ) (old new : Held N) (tail : Cell N) (m : Message) (n : ℕ) (s : State) → Reads built f → PutAs built old new tail m None → sent_on n m (term_of f old tail) s ≡ s
puts_nothing built f old new tail m n s reads d = no_end n m (term_of f old tail) s (d f reads).1
