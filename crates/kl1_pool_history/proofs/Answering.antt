-- What was done, with one command more.
use Rattle.std.proofs.Common.{◌≡◌, ℕ, List, [], ◌∷◌, ◌++◌, ap, sym, ◌∙◌, subst, refl, arith}
use Rattle.std.specs.Prelude.{All}
use Rattle.std.proofs.lemmas.List.Elements.{All-append, All-cons}
use Rattle.kl1_model.specs.declared.rules.Rules.{Rules}
use Rattle.kl1_model_server.specs.Command.{Command}
use Rattle.kl1_command.specs.declared.performed.Performed.{Performed}
use Rattle.kl1_command.specs.Told.{events_told, steps_told}
use Rattle.kl1_pool_tickets.specs.Counts.{Counts, Acts}
use Rattle.kl1_pool_tickets.proofs.Counting.{not_moved}
use Rattle.kl1_session.specs.Conversations.{Done}
use Rattle.kl1_pool_history.specs.Histories.{IsAnswered, IsCounted, AreCounted, AreAnswered}

none_answered : (rules : Rules) (names : List (List ℕ)) → All (IsAnswered rules names) []
none_answered rules names k d few = absurd (omega (arith, few))

counted_more : (ds : List Done) (d : Done) (begun before after : Counts) → AreCounted ds begun before → IsCounted d before after → AreCounted (ds ++ d ∷ []) begun after
counted_more [] d begun before after same one =
    let P : Counts → Type 0 = λ b. IsCounted d b after in
    (after, subst P same one, refl)
counted_more (e ∷ ds) d begun before after all one = (all.0, all.1, counted_more ds d all.0 before after all.2 one)

-- one answer more
pub answered_more : (rules : Rules) (names : List (List ℕ)) (ds all : List Done) (d : Done) (begun before after : Counts) → AreAnswered rules names ds begun before → IsAnswered rules names d → IsCounted d before after → all ≡ ds ++ d ∷ [] → AreAnswered rules names all begun after
answered_more rules names ds all d begun before after so given counted is =
    let P : List Done → Type 0 = λ (x : List Done). AreAnswered rules names x begun after in
    let more : AreAnswered rules names (ds ++ d ∷ []) begun after = record {
      given = All-append (IsAnswered rules names) ds (d ∷ []) so.given (All-cons (IsAnswered rules names) d [] given (none_answered rules names));
      counted = counted_more ds d begun before after so.counted counted;
    } in
    subst P (sym is) more

-- nothing is counted of what tells nothing
pub counted_none : (account : ℕ) (s : Counts) → Acts account 0 0 s s
counted_none account s = (0, omega arith, not_moved account s)

-- the same account, command and answer
done_same : (d a : Done) → d.account ≡ a.account → d.command ≡ a.command → d.answer ≡ a.answer → d ≡ a
done_same d a n c p =
    ap (λ (x : ℕ). let z : Done = record { account = x; command = d.command; answer = d.answer } in z) n
    ∙ ap (λ (x : Command). let z : Done = record { account = a.account; command = x; answer = d.answer } in z) c
    ∙ ap (λ (x : Performed). let z : Done = record { account = a.account; command = a.command; answer = x } in z) p

-- one answer more, of which the pool tells what the parts of it are
pub act_more : (rules : Rules) (names : List (List ℕ)) (ds all : List Done) (account : ℕ) (d a : Done) (begun before after : Counts) → AreAnswered rules names ds begun before → IsAnswered rules names a → Acts account (events_told a.answer) (steps_told a.answer) before after → a.account ≡ account → d.account ≡ a.account → d.command ≡ a.command → d.answer ≡ a.answer → all ≡ ds ++ d ∷ [] → AreAnswered rules names all begun after
act_more rules names ds all account d a begun before after so given acts asked n c p is =
    let P : ℕ → Type 0 = λ (x : ℕ). Acts x (events_told a.answer) (steps_told a.answer) before after in
    let here : IsCounted a before after = subst P (sym asked) acts in
    answered_more rules names ds all a begun before after so given here (is ∙ ap (λ (x : Done). ds ++ x ∷ []) (done_same d a n c p))
