-- Sessions that end since their browsers made no request for too long.
use Rattle.std.proofs.Common.{◌≡◌, ◌<◌, ◌+◌, ◌-◌, ◌^◌, ℕ, suc, min, nat_lt, true, false, List, [], ◌∷◌, ◌++◌, length, Option, Some, None, sym, ap, subst, ◌∙◌, append_assoc, append-nil, arith}
use Rattle.kl1_model.specs.Event as event
use Rattle.kl1_model_server.specs.Command.{does}
use Rattle.kl1_command.specs.declared.performed.Performed.{Performed}
use Rattle.kl1_command.specs.declared.performed.Performed.TheVariants as performed
use Rattle.kl1_host_door.specs.declared.session.WebSession.{WebSession}
use Rattle.kl1_host_web.specs.Asking.{Asked, did}
use Rattle.kl1_host_web.specs.Serving.{Seeks, Ending, logout_of, EndsEach, EndsIdle, SeeksOf, ForgetsEach, Forgets}

-- an account that there is was logged out of
pub one_logout : (n account : ℕ) (a b : List Asked) (answer : Performed) → nat_lt account n ≡ true → b ≡ a ++ did account (does event.logout) answer ∷ [] → (p : Performed) × (b ≡ a ++ logout_of n account p)
one_logout n account a b answer e is = (answer, rw e is)

-- nothing is asked of an account that isn't there
pub no_logout : (n account : ℕ) (a : List Asked) → nat_lt account n ≡ false → (p : Performed) × (a ≡ a ++ logout_of n account p)
no_logout n account a e = (performed.Memory, rw e (sym (append-nil a)))

-- one more session was found and ended
pub one_more_ends : (tells : ℕ → Type 0) (idle account n : ℕ) (ended : List Ending) (before middle found after : List Asked) (o : Option WebSession) (session : WebSession) (note : Asked) (answer : Performed) → EndsEach tells idle account n ended before middle → o ≡ Some session → Seeks tells idle account o note → found ≡ middle ++ note ∷ [] → after ≡ found ++ logout_of n session.account answer → (all : List Ending) × EndsEach tells idle account n all before after
one_more_ends tells idle account n ended before middle found after o session note answer each is seeks noted asked =
    let e : Ending = record { session = session; note = note; answer = answer } in
    (e ∷ ended, (middle, each, subst (λ x. Seeks tells idle account x note) is seeks, asked ∙ ap (λ l. l ++ logout_of n session.account answer) noted ∙ append_assoc middle (note ∷ []) (logout_of n session.account answer)))

-- no more session was found
pub none_ends : (tells : ℕ → Type 0) (idle account n : ℕ) (ended : List Ending) (before middle after : List Asked) (o : Option WebSession) (note : Asked) → EndsEach tells idle account n ended before middle → o ≡ None → Seeks tells idle account o note → after ≡ middle ++ note ∷ [] → EndsIdle tells idle account n before after
none_ends tells idle account n ended before middle after o note each is seeks noted = record {
  ended = ended;
  middle = middle;
  each = each;
  note = note;
  none = subst (λ x. Seeks tells idle account x note) is seeks;
  rest = noted;
}

-- ---- sessions that are taken out of the book since their account has another key

counted : (n count next : ℕ) → next ≡ min (count + 1) (2 ^ 64 - 1) → (count < 2 ^ 64 - 1 → count ≡ n) → next < 2 ^ 64 - 1 → next ≡ suc n
counted n count next is so_far few =
    let below : count < 2 ^ 64 - 1 = omega (arith, is, few) in
    let same : count ≡ n = so_far below in
    omega (arith, is, few, same)

-- one more session was found and taken out
pub one_more_forgotten : (account count next : ℕ) (found : List WebSession) (before middle after : List Asked) (o : Option WebSession) (session : WebSession) (note : Asked) → ForgetsEach account found before middle → (count < 2 ^ 64 - 1 → count ≡ length found) → o ≡ Some session → SeeksOf account o note → after ≡ middle ++ note ∷ [] → next ≡ min (count + 1) (2 ^ 64 - 1) → (all : List WebSession) × ForgetsEach account all before after × (next < 2 ^ 64 - 1 → next ≡ length all)
one_more_forgotten account count next found before middle after o session note each so_far is seeks noted one =
    (session ∷ found, (middle, note, each, subst (λ x. SeeksOf account x note) is seeks, noted), counted (length found) count next one so_far)

-- no more session was found
pub none_forgotten : (account count : ℕ) (found : List WebSession) (before middle after : List Asked) (o : Option WebSession) (note : Asked) → ForgetsEach account found before middle → (count < 2 ^ 64 - 1 → count ≡ length found) → o ≡ None → SeeksOf account o note → after ≡ middle ++ note ∷ [] → Forgets account count before after
none_forgotten account count found before middle after o note each so_far is seeks noted = record {
  found = found;
  middle = middle;
  each = each;
  counted = so_far;
  note = note;
  none = subst (λ x. SeeksOf account x note) is seeks;
  rest = noted;
}
