-- What was asked, and the commands that were done for it.
use Rattle.std.proofs.Common.{◌≡◌, ℕ, List, [], ◌∷◌, ◌++◌, refl, sym, ap, subst, ◌∙◌, inl, inr, append_assoc, append-nil}
use Rattle.std.specs.Prelude.{⊤}
use Rattle.std.proofs.Math.Logic.{∥∥₁_map}
use Rattle.kl1_model_server.specs.Command.{Command}
use Rattle.kl1_command.specs.declared.performed.Performed.{Performed}
use Rattle.kl1_command.specs.declared.performed.Performed.TheVariants.{Memory}
use Rattle.kl1_host_door.specs.declared.session.WebSession.{WebSession}
use Rattle.kl1_host_door.specs.declared.book.BookStep.{BookStep}
use Rattle.kl1_session.specs.Conversations.{Done}
use Rattle.kl1_host_web.specs.Asking.{Asked, did, looked, changed, let_in, AreDone, HasDone}

-- one more command was asked, and done
pub one_done : (xs : List Asked) (ds : List Done) (d : Done) → AreDone xs ds → AreDone (xs ++ did d.account d.command d.answer ∷ []) (ds ++ d ∷ [])
one_done [] ds d none = inl ([], ap (λ (l : List Done). l ++ d ∷ []) none, refl)
one_done (did a c p ∷ xs) ds d (inl (rest, is, each)) = inl (rest ++ d ∷ [], ap (λ (l : List Done). l ++ d ∷ []) is, one_done xs rest d each)
one_done (did a c p ∷ xs) ds d (inr (refused, each)) = inr (refused, one_done xs ds d each)
one_done (looked a ∷ xs) ds d each = one_done xs ds d each
one_done (changed step sessions ∷ xs) ds d each = one_done xs ds d each
one_done (let_in ∷ xs) ds d each = one_done xs ds d each

-- one more command was asked, and refused
pub one_refused : (xs : List Asked) (ds : List Done) (account : ℕ) (command : Command) (answer : Performed) → answer ≡ Memory → AreDone xs ds → AreDone (xs ++ did account command answer ∷ []) ds
one_refused [] ds account command answer memory none = inr (memory, none)
one_refused (did a c p ∷ xs) ds account command answer memory (inl (rest, is, each)) = inl (rest, is, one_refused xs rest account command answer memory each)
one_refused (did a c p ∷ xs) ds account command answer memory (inr (refused, each)) = inr (refused, one_refused xs ds account command answer memory each)
one_refused (looked a ∷ xs) ds account command answer memory each = one_refused xs ds account command answer memory each
one_refused (changed step sessions ∷ xs) ds account command answer memory each = one_refused xs ds account command answer memory each
one_refused (let_in ∷ xs) ds account command answer memory each = one_refused xs ds account command answer memory each

-- what is no command was asked: an account was looked at, something was done to the book of sessions, or it was told that a request was let in
abbrev pub IsNoCommand : Asked → Type 0
IsNoCommand (did account command answer) = ⊥
IsNoCommand (looked account) = ⊤
IsNoCommand (changed step sessions) = ⊤
IsNoCommand let_in = ⊤

one_other : (xs : List Asked) (ds : List Done) (x : Asked) → IsNoCommand x → AreDone xs ds → AreDone (xs ++ x ∷ []) ds
one_other [] ds (did a c p) other none = absurd other
one_other [] ds (looked a) other none = none
one_other [] ds (changed step sessions) other none = none
one_other [] ds let_in other none = none
one_other (did a c p ∷ xs) ds x other (inl (rest, is, each)) = inl (rest, is, one_other xs rest x other each)
one_other (did a c p ∷ xs) ds x other (inr (refused, each)) = inr (refused, one_other xs ds x other each)
one_other (looked a ∷ xs) ds x other each = one_other xs ds x other each
one_other (changed step sessions ∷ xs) ds x other each = one_other xs ds x other each
one_other (let_in ∷ xs) ds x other each = one_other xs ds x other each

-- ---- what was done after some commands

-- nothing yet
pub none_done : (before after : List Done) (xs : List Asked) → before ≡ after → xs ≡ [] → ∥ HasDone before after xs ∥₁
none_done before after xs same none = ∣ ([], sym same ∙ sym (append-nil before), subst (λ l. AreDone l []) (sym none) refl) ∣₁

-- one more
pub done_more : (before done new : List Done) (xs ys : List Asked) (account : ℕ) (command : Command) (answer : Performed) → new ≡ done ++ record { account = account; command = command; answer = answer } ∷ [] → ys ≡ xs ++ did account command answer ∷ [] → ∥ HasDone before done xs ∥₁ → ∥ HasDone before new ys ∥₁
done_more before done new xs ys account command answer is asked so_far =
    let d : Done = record { account = account; command = command; answer = answer } in
    ∥∥₁_map so_far (λ h. (h.0 ++ d ∷ [], is ∙ ap (λ l. l ++ d ∷ []) h.1 ∙ append_assoc before h.0 (d ∷ []), subst (λ l. AreDone l (h.0 ++ d ∷ [])) (sym asked) (one_done xs h.0 d h.2)))

-- one that is refused
pub refused_more : (before done new : List Done) (xs ys : List Asked) (account : ℕ) (command : Command) (answer : Performed) → new ≡ done → answer ≡ Memory → ys ≡ xs ++ did account command answer ∷ [] → ∥ HasDone before done xs ∥₁ → ∥ HasDone before new ys ∥₁
refused_more before done new xs ys account command answer same memory asked so_far =
    ∥∥₁_map so_far (λ h. (h.0, same ∙ h.1, subst (λ l. AreDone l h.0) (sym asked) (one_refused xs h.0 account command answer memory h.2)))

-- one that is no command
other_more : (before done : List Done) (xs ys : List Asked) (x : Asked) → IsNoCommand x → ys ≡ xs ++ x ∷ [] → ∥ HasDone before done xs ∥₁ → ∥ HasDone before done ys ∥₁
other_more before done xs ys x other asked so_far = ∥∥₁_map so_far (λ h. (h.0, h.1, subst (λ l. AreDone l h.0) (sym asked) (one_other xs h.0 x other h.2)))

-- a look
pub looked_more : (before done : List Done) (xs ys : List Asked) (account : ℕ) → ys ≡ xs ++ looked account ∷ [] → ∥ HasDone before done xs ∥₁ → ∥ HasDone before done ys ∥₁
looked_more before done xs ys account asked so_far = other_more before done xs ys (looked account) tt asked so_far

-- what is done to the book of sessions
pub changed_more : (before done : List Done) (xs ys : List Asked) (step : BookStep) (sessions : List WebSession) → ys ≡ xs ++ changed step sessions ∷ [] → ∥ HasDone before done xs ∥₁ → ∥ HasDone before done ys ∥₁
changed_more before done xs ys step sessions asked so_far = other_more before done xs ys (changed step sessions) tt asked so_far

-- that a request was let in
pub let_in_more : (before done : List Done) (xs ys : List Asked) → ys ≡ xs ++ let_in ∷ [] → ∥ HasDone before done xs ∥₁ → ∥ HasDone before done ys ∥₁
let_in_more before done xs ys asked so_far = other_more before done xs ys let_in tt asked so_far
