-- Texts that are put part by part, and what stands at their front.
use Rattle.std.proofs.Common.{◌≡◌, ◌≤◌, ◌-◌, ℕ, nat_le, nat_eq, true, List, ◌++◌, length, take, drop, bytes_eq, refl, ap, ◌∙◌, append_assoc, arith, le_of_eq, length-drop, take_all}
use Rattle.std.specs.List.{starts_with}
use Rattle.kl1_host_door.specs.declared.ask.Method.{Method}
use Rattle.kl1_host_door.specs.declared.limits.TheConstants.{SECRET_BYTES}
use Rattle.kl1_host_door.specs.declared.session.WebSession.{WebSession}
use Rattle.kl1_host_door.specs.Asks.{shoens_from, page_by, ask_of}
use Rattle.kl1_host_door.specs.Sessions.{is_end, is_of}

-- a text was put, and then one more part
pub part : (out before after text more : List ℕ) → before ≡ out ++ text → after ≡ before ++ more → after ≡ out ++ (text ++ more)
part out before after text more p q = q ∙ ap (λ l. l ++ more) p ∙ append_assoc out text more

-- what comes after n bytes
pub rest_of : (n : ℕ) (text : List ℕ) → take (length text - n) (drop n text) ≡ drop n text
rest_of n text = take_all (length text - n) (drop n text) (le_of_eq (length-drop n text))

-- the path of a page of shoens
pub shoens_page : (method : Method) (target : List ℕ) → starts_with nat_eq target shoens_from ≡ true → page_by method (drop (length shoens_from) target) ≡ ask_of method target
shoens_page method target e = rw e refl

-- a text that begins with the name of a session
pub its_name : (text : List ℕ) (session : WebSession) → SECRET_BYTES ≤ length text → bytes_eq (take SECRET_BYTES text) session.id ≡ true → is_end (drop SECRET_BYTES text) ≡ is_of text session
its_name text session long same =
    let fits : nat_le SECRET_BYTES (length text) ≡ true = grind arith in
    rw (fits, same) refl
