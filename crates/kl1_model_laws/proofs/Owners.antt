-- What goals, reports and shoens have no control tail of the console, and effects that keep that.
use Rattle.std.proofs.Common.{◌≡◌, ◌≤◌, ◌<◌, ℕ, suc, ◌==◌, ◌||◌, not, ◌&&◌, Bool, true, false, if◌then◌else◌, List, [], ◌∷◌, ◌++◌, refl, sym, ap, ap₂, ◌∙◌, subst, arith}
use Rattle.std.specs.Prelude.{map, filter, codes, Option, Some, None, option_map}
use Rattle.std.specs.List.{AllByRecursion}
use Rattle.std.proofs.lemmas.Bool.{eqb-true, ne_eqb}
use Rattle.kl1_model.specs.declared.life.Life.{Life}
use Rattle.kl1_model.specs.declared.rules.Rules.{Rules}
use Rattle.kl1_model.specs.declared.life.Life.TheVariants.{Terminated, Aborted}
use Rattle.kl1_model.specs.declared.message.Message.{Message}
use Rattle.kl1_model.specs.declared.message.Message.TheVariants.{Stop, Start, Abort, Allow}
use Rattle.kl1_model.specs.Term.{Term, variable, integer, atom, structure, none, more, occurs, replace, Replacement}
use Rattle.kl1_model.specs.Meaning.{nil, cell}
use Rattle.kl1_model.specs.Control.{message_term, Control, awaits_message, tells, tells_other, ends, breaks_off, control_of, word_of}
use Rattle.kl1_model.proofs.ControlStays.{control_by}
use Rattle.kl1_model.specs.State.{Task, monitor, reduces, substitutes, Goal, Origin, Shoen, State, is_monitor, shoen_at, replace_in_task, replace_in_goal, replace_in_origin, replace_in_shoen, replace_in_state, replace_all, change_shoen, is_living, has_forgetting}
use Rattle.kl1_model.specs.Tree.{path, is_on_path}
use Rattle.kl1_model.specs.Report.{broken_at, has_made_last, report_tail, reported_on, reported_at, report, report_each, closed_at, close, exception, illegal_input, exhausted_report, stopped_report, resumed_report}
use Rattle.kl1_model.specs.Ending.{ended_at, ending_of, without_monitor, terminate, terminate_each, settle, newly_exhausted, after_reduction, ended_below, abort, ended_as, control_left}
use Rattle.kl1_model.specs.Reduction.{obeyed, with_control, heard}
use Rattle.kl1_model.specs.code.Steps.{report_of, close_of, aborted_below, stopped_of, resumed_of, allowed_more}
use Rattle.kl1_model.specs.laws.TreeLaws.{IsTree}
use Rattle.kl1_model_laws.specs.ControlLaws.{messages_then}
use Rattle.kl1_model_laws.proofs.Holds.{Holds, holds_replace, holds_weaker, EachReplaced}
use Rattle.kl1_model_laws.proofs.Each.{all_map, all_weaker, all_fewer, found_shoen, Only, only}
use Rattle.kl1_model.specs.Found.{Found, found, awaits, wrong}

-- ---- what is said of a state

-- a variable that is no control tail of the console, by the shoen whose tail it is, and that is numbered up to the last
abbrev pub Free : (ℕ → ℕ) → ℕ → ℕ → Type 0
Free c last v = (c v ≡ 0) × (v ≤ last)

-- a term with free variables alone
abbrev pub IsFree : (ℕ → ℕ) → ℕ → Term → Type 0
IsFree c last t = Holds (Free c last) t

-- a task with free variables alone
abbrev pub TaskFree : (ℕ → ℕ) → ℕ → Task → Type 0
TaskFree c last monitor = Unit {0}
TaskFree c last (reduces t) = IsFree c last t
TaskFree c last (substitutes t) = IsFree c last t

-- a control stream of the console: messages, and then a tail that is this shoen's alone; and its reports have free variables alone
pub record Console (c : ℕ → ℕ) (last n : ℕ) (t : Term) (o : Origin) : Type 0 where
  pub tail : ℕ
  pub messages : List Message
  pub is : o.control ≡ variable tail
  pub stream : t ≡ messages_then messages (variable tail)
  pub owner : c tail ≡ n
  pub some : 0 < n
  pub low : tail ≤ last
  pub reports : IsFree c last o.reports

-- a control stream: of the console, or with free variables alone
abbrev pub ControlOf : (ℕ → ℕ) → ℕ → ℕ → Term → Option Origin → Type 0
ControlOf c last n t None = IsFree c last t
ControlOf c last n t (Some o) = Console c last n t o

pub record Owned (c : ℕ → ℕ) (last : ℕ) (h : Shoen) : Type 0 where
  pub tail : IsFree c last h.tail
  pub control : ControlOf c last h.number h.control h.origin

-- goals, reports and the control streams of other shoens have free variables alone, and no control tail is numbered above the last
pub record AreOwned (c : ℕ → ℕ) (last : ℕ) (gs : List Goal) (hs : List Shoen) : Type 0 where
  pub goals : AllByRecursion (λ g. TaskFree c last g.task) gs
  pub shoens : AllByRecursion (Owned c last) hs
  pub above : (v : ℕ) → last < v → c v ≡ 0

abbrev pub Of : (ℕ → ℕ) → State → Type 0
Of c s = AreOwned c s.last_variable s.goals s.shoens

-- ---- control streams

message_stays : (v : ℕ) (u : Term) (m : Message) → replace v u (message_term m) ≡ message_term m
message_stays v u Stop = refl
message_stays v u Start = refl
message_stays v u Abort = refl
message_stays v u (Allow n) = refl

pub stream_replaced : (v : ℕ) (u t : Term) (ms : List Message) → replace v u (messages_then ms t) ≡ messages_then ms (replace v u t)
stream_replaced v u t [] = refl
stream_replaced v u t (m ∷ ms) = ap₂ cell (message_stays v u m) (stream_replaced v u t ms)

pub stream_longer : (ms : List Message) (m : Message) (t : Term) → messages_then ms (cell (message_term m) t) ≡ messages_then (ms ++ m ∷ []) t
stream_longer [] m t = refl
stream_longer (k ∷ ms) m t = ap (cell (message_term k)) (stream_longer ms m t)

tells_message : (m : Message) (rest : Term) → control_of (cell (message_term m) rest) ≡ tells m rest
tells_message Stop rest = refl
tells_message Start rest = refl
tells_message Abort rest = refl
tells_message (Allow n) rest = refl

tail_stays : (c : ℕ → ℕ) (v n w : ℕ) (u : Term) → c v ≡ 0 → c w ≡ n → 0 < n → replace v u (variable w) ≡ variable w
tail_stays c v n w u e f some = ap (λ b. if b then u else variable w) (ne_eqb w v (λ same. let x = ap c same in omega (arith, x, e, f, some)))

control_replaced : (c : ℕ → ℕ) (last v n : ℕ) (u t : Term) (o : Option Origin) → c v ≡ 0 → IsFree c last u → ControlOf c last n t o → ControlOf c last n (replace v u t) (option_map (replace_in_origin v u) o)
control_replaced c last v n u t None e k a = holds_replace (Free c last) v u t k a
control_replaced c last v n u t (Some o) e k a =
    let stays = tail_stays c v n a.tail u e a.owner a.some in record {
      tail = a.tail;
      messages = a.messages;
      is = ap (replace v u) a.is ∙ stays;
      stream = ap (replace v u) a.stream ∙ stream_replaced v u (variable a.tail) a.messages ∙ ap (messages_then a.messages) stays;
      owner = a.owner;
      some = a.some;
      low = a.low;
      reports = holds_replace (Free c last) v u o.reports k a.reports;
    }

task_replaced : (c : ℕ → ℕ) (last v : ℕ) (u : Term) (task : Task) → IsFree c last u → TaskFree c last task → TaskFree c last (replace_in_task v u task)
task_replaced c last v u monitor k a = tt
task_replaced c last v u (reduces t) k a = holds_replace (Free c last) v u t k a
task_replaced c last v u (substitutes t) k a = holds_replace (Free c last) v u t k a

-- ---- a higher last number

pub term_raised : (c : ℕ → ℕ) (last top : ℕ) (t : Term) → last ≤ top → IsFree c last t → IsFree c top t
term_raised c last top t e a = holds_weaker (Free c last) (Free c top) (λ v f. (f.0, let x = f.1 in omega (arith, x, e))) t a

control_raised : (c : ℕ → ℕ) (last top n : ℕ) (t : Term) (o : Option Origin) → last ≤ top → ControlOf c last n t o → ControlOf c top n t o
control_raised c last top n t None e a = term_raised c last top t e a
control_raised c last top n t (Some o) e a = record {
  tail = a.tail;
  messages = a.messages;
  is = a.is;
  stream = a.stream;
  owner = a.owner;
  some = a.some;
  low = let x = a.low in omega (arith, x, e);
  reports = term_raised c last top o.reports e a.reports;
}

task_raised : (c : ℕ → ℕ) (last top : ℕ) (task : Task) → last ≤ top → TaskFree c last task → TaskFree c top task
task_raised c last top monitor e a = tt
task_raised c last top (reduces t) e a = term_raised c last top t e a
task_raised c last top (substitutes t) e a = term_raised c last top t e a

pub own_higher : (c : ℕ → ℕ) (last top : ℕ) (gs : List Goal) (hs : List Shoen) → last ≤ top → AreOwned c last gs hs → AreOwned c top gs hs
own_higher c last top gs hs e a = record {
  goals = all_weaker (λ g. TaskFree c last g.task) (λ g. TaskFree c top g.task) (λ g f. task_raised c last top g.task e f) gs a.goals;
  shoens = all_weaker (Owned c last) (Owned c top) (λ h f. record { tail = term_raised c last top h.tail e f.tail; control = control_raised c last top h.number h.control h.origin e f.control }) hs a.shoens;
  above = λ v low. a.above v (omega (arith, low, e));
}

-- ---- effects

pub own_replace : (c : ℕ → ℕ) (last v : ℕ) (u : Term) (gs : List Goal) (hs : List Shoen) → c v ≡ 0 → IsFree c last u → AreOwned c last gs hs → AreOwned c last (map (replace_in_goal v u) gs) (map (replace_in_shoen v u) hs)
own_replace c last v u gs hs e k a = record {
  goals = all_map (λ g. TaskFree c last g.task) (λ g. TaskFree c last g.task) (replace_in_goal v u) (λ g f. task_replaced c last v u g.task k f) gs a.goals;
  shoens = all_map (Owned c last) (Owned c last) (replace_in_shoen v u) (λ h f. record { tail = holds_replace (Free c last) v u h.tail k f.tail; control = control_replaced c last v h.number u h.control h.origin e k f.control }) hs a.shoens;
  above = a.above;
}

changed_if : (b : Bool) (P : Shoen → Type 0) (f : Shoen → Shoen) (h : Shoen) → ((k : Shoen) → P k → P (f k)) → P h → P (if b then f h else h)
changed_if true P f h g p = g h p
changed_if false P f h g p = p

changed : (c : ℕ → ℕ) (n : ℕ) (f : Shoen → Shoen) (s : State) → ((h : Shoen) → Owned c s.last_variable h → Owned c s.last_variable (f h)) → Of c s → Of c (change_shoen n f s)
changed c n f s g a = record {
  goals = a.goals;
  shoens = all_map (Owned c s.last_variable) (Owned c s.last_variable) (λ h. if h.number == n then f h else h) (λ h p. changed_if (h.number == n) (Owned c s.last_variable) f h g p) s.shoens a.shoens;
  above = a.above;
}

nil_free : (b : Bool) (c : ℕ → ℕ) (last : ℕ) (t : Term) → IsFree c last t → IsFree c last (if b then nil else t)
nil_free true c last t a = tt
nil_free false c last t a = a

own_broken : (c : ℕ → ℕ) (n : ℕ) (s : State) → Of c s → Of c (broken_at n s)
own_broken c n s a =
    changed c n (λ h. record h { is_broken = true; tail = if has_forgetting s.rules then nil else h.tail }) s (λ h p. record { tail = nil_free (has_forgetting s.rules) c s.last_variable h.tail p.tail; control = p.control }) a

pub own_if : (b : Bool) (c : ℕ → ℕ) (s t : State) → Of c s → Of c t → Of c (if b then s else t)
own_if true c s t p q = p
own_if false c s t p q = q

told : (x : Bool) (c : ℕ → ℕ) (n v : ℕ) (m : Term) (s : State) → IsFree c s.last_variable m → IsFree c s.last_variable (variable v) → Of c s → Of c (reported_on n m (if x then None else Some v) s)
told true c n v m s f g a = own_broken c n s a
told false c n v m s f g a =
    let next = suc s.last_variable in
    let new : IsFree c next (variable next) = (a.above next (omega arith), omega arith) in
    let by = cell m (variable next) in
    let whole : IsFree c next by = (term_raised c s.last_variable next m (omega arith) f, (new, tt)) in
    let bound = record (replace_in_state v by s) { last_variable = next; reports = suc s.reports } in
    let b : Of c bound = own_replace c next v by s.goals s.shoens g.0 whole (own_higher c s.last_variable next s.goals s.shoens (omega arith) a) in
    changed c n (λ h. record h { tail = variable next }) bound (λ h p. record { tail = new; control = p.control }) b

reported : (c : ℕ → ℕ) (n : ℕ) (m t : Term) (s : State) → IsFree c s.last_variable m → IsFree c s.last_variable t → Of c s → Of c (reported_at n m t s)
reported c n m (variable v) s f g a = told (occurs v m || has_made_last s) c n v m s f g a
reported c n m (integer i) s f g a = own_broken c n s a
reported c n m (atom b) s f g a = own_broken c n s a
reported c n m (structure k ts) s f g a = own_broken c n s a

report_found : (c : ℕ → ℕ) (o : Option Shoen) (n : ℕ) (m : Term) (s : State) → shoen_at n s.shoens ≡ o → IsFree c s.last_variable m → Of c s → Of c (report_of o n m s)
report_found c None n m s e f a = a
report_found c (Some h) n m s e f a = own_if h.is_broken c s (reported_at n m h.tail s) a (reported c n m h.tail s f (found_shoen (λ h. IsFree c s.last_variable h.tail) n s.shoens h e (all_weaker (Owned c s.last_variable) (λ h. IsFree c s.last_variable h.tail) (λ h p. p.tail) s.shoens a.shoens)) a)

pub own_report : (c : ℕ → ℕ) (n : ℕ) (m : Term) (s : State) → IsFree c s.last_variable m → Of c s → Of c (report n m s)
own_report c n m s f a = report_found c (shoen_at n s.shoens) n m s refl f a

last_if : (b : Bool) (n : ℕ) (s t : State) → n ≤ s.last_variable → n ≤ t.last_variable → n ≤ (if b then s else t).last_variable
last_if true n s t e f = e
last_if false n s t e f = f

told_last : (n : ℕ) (m : Term) (o : Option ℕ) (s : State) → s.last_variable ≤ (reported_on n m o s).last_variable
told_last n m None s = omega arith
told_last n m (Some v) s = omega arith

reported_last : (n : ℕ) (m t : Term) (s : State) → s.last_variable ≤ (reported_at n m t s).last_variable
reported_last n m t s = told_last n m (report_tail (has_made_last s) m t) s

last_found : (o : Option Shoen) (n : ℕ) (m : Term) (s : State) → s.last_variable ≤ (report_of o n m s).last_variable
last_found None n m s = omega arith
last_found (Some h) n m s = last_if h.is_broken s.last_variable s (reported_at n m h.tail s) (omega arith) (reported_last n m h.tail s)

-- the last number of a variable is no lower after a report
pub report_last : (n : ℕ) (m : Term) (s : State) → s.last_variable ≤ (report n m s).last_variable
report_last n m s = last_found (shoen_at n s.shoens) n m s

own_each : (c : ℕ → ℕ) (ns : List ℕ) (text : List ℕ) (s : State) → Of c s → Of c (report_each ns (atom text) s)
own_each c [] text s a = a
own_each c (n ∷ ns) text s a = own_each c ns text (report n (atom text) s) (own_report c n (atom text) s tt a)

closed : (c : ℕ → ℕ) (t : Term) (s : State) → IsFree c s.last_variable t → Of c s → Of c (closed_at t s)
closed c (variable v) s g a = own_replace c s.last_variable v nil s.goals s.shoens g.0 tt a
closed c (integer i) s g a = a
closed c (atom b) s g a = a
closed c (structure k ts) s g a = a

close_found : (c : ℕ → ℕ) (o : Option Shoen) (n : ℕ) (s : State) → shoen_at n s.shoens ≡ o → Of c s → Of c (close_of o s)
close_found c None n s e a = a
close_found c (Some h) n s e a = own_if h.is_broken c s (closed_at h.tail s) a (closed c h.tail s (found_shoen (λ h. IsFree c s.last_variable h.tail) n s.shoens h e (all_weaker (Owned c s.last_variable) (λ h. IsFree c s.last_variable h.tail) (λ h p. p.tail) s.shoens a.shoens)) a)

own_closing : (c : ℕ → ℕ) (n : ℕ) (text : List ℕ) (s : State) → Of c s → Of c (close n (report n (atom text) s))
own_closing c n text s a = let t = report n (atom text) s in close_found c (shoen_at n t.shoens) n t refl (own_report c n (atom text) s tt a)

pub own_all : (c : ℕ → ℕ) (rs : List Replacement) (s : State) → EachReplaced (Free c s.last_variable) rs → Of c s → Of c (replace_all rs s)
own_all c [] s f a = a
own_all c (r ∷ rs) s f a = own_all c rs (replace_in_state r.number r.by s) f.1 (own_replace c s.last_variable r.number r.by s.goals s.shoens f.0.0.0 f.0.1 a)

pub fewer : (c : ℕ → ℕ) (p : Goal → Bool) (s : State) → Of c s → Of c (record s { goals = filter p s.goals })
fewer c p s a = record { goals = all_fewer (λ g. TaskFree c s.last_variable g.task) p s.goals a.goals; shoens = a.shoens; above = a.above }

control_ended : (c : ℕ → ℕ) (rules : Rules) (last n : ℕ) (o : Option Origin) (t : Term) → ControlOf c last n t o → ControlOf c last n (control_left rules o t) o
control_ended c rules last n None t a = nil_free (has_forgetting rules) c last t a
control_ended c rules last n (Some o) t a = a

own_ended : (c : ℕ → ℕ) (rules : Rules) (last : ℕ) (life : Life) (h : Shoen) → Owned c last h → Owned c last (ended_as rules life h)
own_ended c rules last life h p = record { tail = p.tail; control = control_ended c rules last h.number h.origin h.control p.control }

own_terminate : (c : ℕ → ℕ) (n : ℕ) (s : State) → Of c s → Of c (terminate n s)
own_terminate c n s a =
    let t = ended_at n s in
    let b = changed c n (ended_as s.rules Terminated) s (λ h p. own_ended c s.rules s.last_variable Terminated h p) a in
    own_closing c n (codes "terminated") (without_monitor n t) (fewer c (λ g. not (g.shoen == n && is_monitor g.task)) t b)

own_terminations : (c : ℕ → ℕ) (ns : List ℕ) (s : State) → Of c s → Of c (terminate_each ns s)
own_terminations c [] s a = a
own_terminations c (n ∷ ns) s a = own_terminations c ns (terminate n s) (own_terminate c n s a)

pub own_settle : (c : ℕ → ℕ) (n : ℕ) (s : State) → Of c s → Of c (settle n s)
own_settle c n s a = own_terminations c (ending_of (path s.shoens n) s) s a

pub own_settle_charged : (c : ℕ → ℕ) (n : ℕ) (s : State) → Of c s → Of c (after_reduction n s)
own_settle_charged c n s a =
    let ns = path s.shoens n in
    let ending = ending_of ns s in
    let told = newly_exhausted s ending ns in
    own_terminations c ending (report_each told exhausted_report s) (own_each c told (codes "exhausted") s a)

aborted_if : (b : Bool) (c : ℕ → ℕ) (rules : Rules) (last : ℕ) (h : Shoen) → Owned c last h → Owned c last (if b then ended_as rules Aborted h else h)
aborted_if true c rules last h p = own_ended c rules last Aborted h p
aborted_if false c rules last h p = p

own_abort : (c : ℕ → ℕ) (n : ℕ) (s : State) → Of c s → Of c (abort n s)
own_abort c n s a = own_closing c n (codes "aborted") (ended_below n s) (record {
  goals = all_fewer (λ g. TaskFree c s.last_variable g.task) (λ g. not (is_on_path s.shoens n g.shoen)) s.goals a.goals;
  shoens = all_map (Owned c s.last_variable) (Owned c s.last_variable) (aborted_below s.rules s.shoens n) (λ h p. aborted_if (is_living h.life && is_on_path s.shoens n h.number) c s.rules s.last_variable h p) s.shoens a.shoens;
  above = a.above;
})

own_stopped : (c : ℕ → ℕ) (o : Option Shoen) (n : ℕ) (s : State) → Of c s → Of c (stopped_of o n s)
own_stopped c None n s a = a
own_stopped c (Some h) n s a =
    let t = change_shoen n (λ h. record h { is_stopped = true }) s in
    own_if h.is_stopped c s (report n stopped_report t) a (own_report c n stopped_report t tt (changed c n (λ h. record h { is_stopped = true }) s (λ h p. record { tail = p.tail; control = p.control }) a))

own_resumed : (c : ℕ → ℕ) (o : Option Shoen) (n : ℕ) (s : State) → Of c s → Of c (resumed_of o n s)
own_resumed c None n s a = a
own_resumed c (Some h) n s a =
    let t = change_shoen n (λ h. record h { is_stopped = false }) s in
    own_if h.is_stopped c (report n resumed_report t) s (own_report c n resumed_report t tt (changed c n (λ h. record h { is_stopped = false }) s (λ h p. record { tail = p.tail; control = p.control }) a)) a

own_obeyed : (c : ℕ → ℕ) (n : ℕ) (m : Message) (s : State) → Of c s → Of c (obeyed n m s)
own_obeyed c n Stop s a = own_stopped c (shoen_at n s.shoens) n s a
own_obeyed c n Start s a = own_resumed c (shoen_at n s.shoens) n s a
own_obeyed c n Abort s a = own_abort c n s a
own_obeyed c n (Allow extra) s a = changed c n (allowed_more extra) s (λ h p. record { tail = p.tail; control = p.control }) a

-- ---- what monitors read

-- what stands at the front of a control stream with free variables alone
abbrev FrontFree : (ℕ → ℕ) → ℕ → Control → Type 0
FrontFree c last (awaits_message v) = Unit {0}
FrontFree c last (tells m rest) = IsFree c last rest
FrontFree c last (tells_other m rest) = IsFree c last m × IsFree c last rest
FrontFree c last ends = Unit {0}
FrontFree c last (breaks_off t) = IsFree c last t

-- what stands at the front of a control stream, which goes on as one
abbrev FrontOf : (ℕ → ℕ) → ℕ → ℕ → Option Origin → Control → Type 0
FrontOf c last n o (awaits_message v) = Unit {0}
FrontOf c last n o (tells m rest) = ControlOf c last n rest o
FrontOf c last n o (tells_other m rest) = IsFree c last m × ControlOf c last n rest o
FrontOf c last n o ends = Unit {0}
FrontOf c last n o (breaks_off t) = IsFree c last t

front_if : (b : Bool) (c : ℕ → ℕ) (last : ℕ) (x y : Control) → FrontFree c last x → FrontFree c last y → FrontFree c last (if b then x else y)
front_if true c last x y p q = p
front_if false c last x y p q = q

front_by : (c : ℕ → ℕ) (last : ℕ) (m rest : Term) (w : Found Message) → IsFree c last m → IsFree c last rest → FrontFree c last (control_by m rest w)
front_by c last m rest (found k) f g = g
front_by c last m rest wrong f g = (f, g)
front_by c last m rest (awaits v) f g = tt

front_free : (c : ℕ → ℕ) (last : ℕ) (t : Term) → IsFree c last t → FrontFree c last (control_of t)
front_free c last (variable v) f = tt
front_free c last (integer i) f = tt
front_free c last (atom a) f = front_if _ c last ends (breaks_off (atom a)) tt tt
front_free c last (structure k none) f = tt
front_free c last (structure k (more m none)) f = f
front_free c last (structure k (more m (more rest none))) f = front_if _ c last (control_by m rest (word_of m)) (breaks_off (structure k (more m (more rest none)))) (front_by c last m rest (word_of m) f.0 f.1.0) f
front_free c last (structure k (more m (more rest (more t ts)))) f = f

same_front : (c : ℕ → ℕ) (last n : ℕ) (x : Control) → FrontFree c last x → FrontOf c last n None x
same_front c last n (awaits_message v) p = tt
same_front c last n (tells m rest) p = p
same_front c last n (tells_other m rest) p = p
same_front c last n ends p = tt
same_front c last n (breaks_off t) p = p

front_message : (c : ℕ → ℕ) (last n v : ℕ) (o : Origin) (ms : List Message) → o.control ≡ variable v → c v ≡ n → 0 < n → v ≤ last → IsFree c last o.reports → FrontOf c last n (Some o) (control_of (messages_then ms (variable v)))
front_message c last n v o [] e f some low g = tt
front_message c last n v o (m ∷ ms) e f some low g =
    subst (FrontOf c last n (Some o)) (sym (tells_message m (messages_then ms (variable v)))) (record { tail = v; messages = ms; is = e; stream = refl; owner = f; some = some; low = low; reports = g })

front_of : (c : ℕ → ℕ) (last n : ℕ) (t : Term) (o : Option Origin) → ControlOf c last n t o → FrontOf c last n o (control_of t)
front_of c last n t None p = same_front c last n (control_of t) (front_free c last t p)
front_of c last n t (Some o) p = subst (λ t. FrontOf c last n (Some o) (control_of t)) (sym p.stream) (front_message c last n p.tail o p.messages p.is p.owner p.some p.low p.reports)

only_changed : (b : Bool) (P : Shoen → Type 0) (f : Shoen → Shoen) (n : ℕ) (k h : Shoen) → k.number == n ≡ b → (k.number ≡ n → k ≡ h) → P (f h) → P k → P (if b then f k else k)
only_changed true P f n k h e u p q = subst (λ (x : Shoen). P (f x)) (sym (u (eqb-true k.number n e))) p
only_changed false P f n k h e u p q = q

changed_at : (P : Shoen → Type 0) (f : Shoen → Shoen) (n : ℕ) (h : Shoen) (hs : List Shoen) → Only n h hs → P (f h) → AllByRecursion P hs → AllByRecursion P (map (λ (k : Shoen). if k.number == n then f k else k) hs)
changed_at P f n h [] u p a = tt
changed_at P f n h (k ∷ hs) u p a = (only_changed (k.number == n) P f n k h refl u.0 p a.0, changed_at P f n h hs u.1 p a.1)

own_rest : (c : ℕ → ℕ) (n : ℕ) (rest : Term) (h : Shoen) (s : State) → Only n h s.shoens → Owned c s.last_variable h → ControlOf c s.last_variable h.number rest h.origin → Of c s → Of c (with_control n rest s)
own_rest c n rest h s u own f a = record {
  goals = a.goals;
  shoens = changed_at (Owned c s.last_variable) (λ h. record h { control = rest }) n h s.shoens u (record { tail = own.tail; control = f }) a.shoens;
  above = a.above;
}

own_front : (c : ℕ → ℕ) (n : ℕ) (h : Shoen) (x : Control) (s : State) → Only n h s.shoens → Owned c s.last_variable h → FrontOf c s.last_variable h.number h.origin x → Of c s → Of c (heard n x s)
own_front c n h (awaits_message v) s u own f a = a
own_front c n h (tells m rest) s u own f a = own_obeyed c n m (with_control n rest s) (own_rest c n rest h s u own f a)
own_front c n h (tells_other m rest) s u own f a = own_report c n (exception illegal_input m) (with_control n rest s) (tt, (f.0, tt)) (own_rest c n rest h s u own f.1 a)
own_front c n h ends s u own f a = fewer c (λ g. not (g.shoen == n && is_monitor g.task)) s a
own_front c n h (breaks_off t) s u own f a = own_report c n (exception illegal_input t) (without_monitor n s) (tt, (f, tt)) (fewer c (λ g. not (g.shoen == n && is_monitor g.task)) s a)

pub own_heard : (c : ℕ → ℕ) (n : ℕ) (h : Shoen) (s : State) → IsTree s → shoen_at n s.shoens ≡ Some h → Of c s → Of c (heard n (control_of h.control) s)
own_heard c n h s tree e a =
    let own = found_shoen (Owned c s.last_variable) n s.shoens h e a.shoens in
    own_front c n h (control_of h.control) s (only 0 n h s.shoens tree.numbered e) own (front_of c s.last_variable h.number h.control h.origin own.control) a
