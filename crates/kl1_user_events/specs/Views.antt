-- What events, queries, replies, refusals and choices are in the definitions.
use Rattle.std.specs.Prelude.{ℕ, Bool, true, false, List, [], Option, Some, None}
use Rattle.kl1_model.specs.Event as model
use Rattle.kl1_model.specs.Choice as model_choice
use Rattle.kl1_user_events.specs.declared.numbers.GoalNo.{GoalNo}
use Rattle.kl1_user_events.specs.declared.numbers.ClauseNo.{ClauseNo}
use Rattle.kl1_user_events.specs.declared.event.Query.{Query}
use Rattle.kl1_user_events.specs.declared.event.Query.TheVariants as query
use Rattle.kl1_user_events.specs.declared.event.Event.{Event}
use Rattle.kl1_user_events.specs.declared.event.Event.TheVariants as event
use Rattle.kl1_user_events.specs.declared.refusal.Refusal.{Refusal}
use Rattle.kl1_user_events.specs.declared.refusal.Refusal.TheVariants as refusal
use Rattle.kl1_user_events.specs.declared.reply.Reply.{Reply}
use Rattle.kl1_user_events.specs.declared.reply.Reply.TheVariants as reply

-- the query that this one is
abbrev pub query_of : Query → model.Query
query_of (query.Value n) = model.value n.0
query_of (query.Status n) = model.status n.0
query_of (query.Reports n from) = model.reports n.0 from
query_of query.Modules = model.modules
query_of query.Quiet = model.is_quiet

-- the event that this one is
abbrev pub event_of : Event → model.Event
event_of (event.Load source) = model.load source.items
event_of (event.Start allowance low high goal) = model.start allowance low high goal
event_of (event.Control n message) = model.control n.0 message
event_of (event.Reduce goal clause) = model.reduce goal.0 clause.0
event_of (event.Read q) = model.read (query_of q)
event_of event.Login = model.login
event_of event.Logout = model.logout
event_of event.Reset = model.reset
event_of (event.Answer n report goal) = model.answer n.0 report goal
event_of (event.Forget n count) = model.forget n.0 count

-- whether an event closes a session
abbrev pub is_logout : Event → Bool
is_logout (event.Load source) = false
is_logout (event.Start allowance low high goal) = false
is_logout (event.Control n message) = false
is_logout (event.Reduce goal clause) = false
is_logout (event.Read q) = false
is_logout event.Login = false
is_logout event.Logout = true
is_logout event.Reset = false
is_logout (event.Answer n report goal) = false
is_logout (event.Forget n count) = false

-- the refusal that this one is
abbrev pub refusal_of : Refusal → model.Refusal
refusal_of refusal.Syntax = model.syntax
refusal_of (refusal.Source line) = model.source line
refusal_of refusal.Exists = model.exists
refusal_of refusal.NoShoen = model.no_shoen
refusal_of refusal.Ended = model.shoen_ended
refusal_of refusal.Step = model.step_refused
refusal_of refusal.Names = model.too_many_names
refusal_of refusal.Limit = model.limit_passed
refusal_of refusal.Journal = model.journal_full
refusal_of refusal.Sessions = model.sessions_refused
refusal_of refusal.Answer = model.answer_refused

-- the reply that this one is
abbrev pub reply_of : Reply → model.Reply
reply_of (reply.Loaded name) = model.loaded name
reply_of (reply.Opened n) = model.opened n.0
reply_of reply.Sent = model.sent
reply_of reply.Reduced = model.reduced
reply_of (reply.Ran n) = model.ran n
reply_of (reply.Shown text) = model.shown text.items
reply_of (reply.Status condition charged allowance alive) = model.status_is condition charged allowance alive
reply_of (reply.Listed texts) = model.listed texts
reply_of (reply.Quiet b) = model.quiet_is b
reply_of (reply.Welcome name) = model.welcome name
reply_of reply.Bye = model.bye
reply_of reply.Reset = model.was_reset
reply_of reply.Forgotten = model.forgot
reply_of (reply.Refused r) = model.refused (refusal_of r)

-- the texts that a reply lists
abbrev pub listed_in : model.Reply → List (List ℕ)
listed_in (model.listed texts) = texts
listed_in (model.loaded name) = []
listed_in (model.opened n) = []
listed_in model.sent = []
listed_in model.reduced = []
listed_in (model.ran n) = []
listed_in (model.shown text) = []
listed_in (model.status_is c charged allowance alive) = []
listed_in (model.quiet_is b) = []
listed_in (model.welcome name) = []
listed_in model.bye = []
listed_in model.was_reset = []
listed_in model.forgot = []
listed_in (model.refused r) = []

-- the reply to a reduction that is refused for this reason, or done if there is none
abbrev pub reduced_or : Option Refusal → model.Reply
reduced_or None = model.reduced
reduced_or (Some r) = model.refused (refusal_of r)

-- the reply to a message that is refused for this reason, or sent if there is none
abbrev pub sent_or : Option Refusal → model.Reply
sent_or None = model.sent
sent_or (Some r) = model.refused (refusal_of r)

-- a goal with the clause by which it steps
abbrev pub chosen_of : (GoalNo × ClauseNo) → model_choice.Chosen
chosen_of c = record { goal = c.0.0; clause = c.1.0 }
