-- What is told of a request that is refused.
use Rattle.std.proofs.Common.{◌≡◌, ℕ, false, List, codes, Result, Ok, Err, IfOk, ap, ◌∙◌}
use Rattle.std.specs.declared.alloc.AllocError.{AllocError}
use Rattle.serde_json.specs.Data.{string, object, member, no_members}
use Rattle.serde_json.specs.View.{view}
use Rattle.serde_json.specs.Written.{compact_text, has_float}
use Rattle.serde_json.specs.declared.value.Value.{Value}
use Rattle.kl1_host_door.specs.declared.answer.Answer.{Answer}
use Rattle.kl1_host_door.specs.declared.answer.Content.TheVariants.{Json}
use Rattle.kl1_host_door.specs.declared.answer.Cookie.TheVariants.{Kept}
use Rattle.kl1_host_door.specs.declared.refusal.Refusal.{Refusal}
use Rattle.kl1_host_door.specs.declared.status.Status.{Status}
use Rattle.kl1_host_door.specs.Refusals.{status_of, words_of}
use Rattle.kl1_host_web.specs.Telling.{IsRefusal}

-- the answer of a value that has the words for the reason alone
pub refusal_is : (why : Refusal) (words : List ℕ) (status : Status) (v : Value) (result : Result Answer AllocError) → view v ≡ object (member (codes "error") (string words) no_members) → words ≡ words_of why → status ≡ status_of why → IfOk result (λ answer. (answer.status ≡ status) × (answer.cookie ≡ Kept)) → IfOk result (λ answer. answer.content ≡ Json) → IfOk result (λ answer. has_float (view v) ≡ false → answer.body.items ≡ compact_text (view v)) → IfOk result (IsRefusal why)
refusal_is why words status v (Ok answer) built told is head content text = record {
  status = head.0 ∙ is;
  content = content;
  cookie = head.1;
  text = text (ap has_float built) ∙ ap compact_text built ∙ ap (λ w. compact_text (object (member (codes "error") (string w) no_members))) told;
}
refusal_is why words status v (Err e) built told is head content text = tt
