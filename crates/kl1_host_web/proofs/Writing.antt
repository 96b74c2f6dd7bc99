-- Answers that are written one after another.
use Rattle.std.proofs.Common.{◌≡◌, ◌⊎◌, ℕ, Bool, true, false, List, [], ◌∷◌, Ok, Err, refl, sym, ap, subst, ◌∙◌, inl, inr, append-nil}
use Rattle.std.specs.declared.option.Option.{Option}
use Rattle.std.specs.declared.alloc.AllocError.{AllocError}
use Rattle.std.specs.Io.KnownBytes.{Appends}
use Rattle.kl1_lines.proofs.DeviceLaws.{appends_none, appends_both}
use Rattle.kl1_host_door.specs.declared.refusal.Refusal.{Refusal}
use Rattle.kl1_host_door.specs.declared.refusal.Refusal.TheVariants as refusal
use Rattle.kl1_host_door.specs.declared.answer.Answer.{Answer}
use Rattle.kl1_host_door.specs.declared.door.Site.{Site}
use Rattle.kl1_host_door.specs.Answers.{answer_text}
use Rattle.kl1_host_door.specs.Doors.{is_secure}
use Rattle.kl1_host_web.specs.Asking.{Asked, House}
use Rattle.kl1_host_web.specs.Telling.{IsRefusal}
use Rattle.kl1_host_web.specs.Serving.{Exchange, Serves, Steps, AsksNoMore}
use Rattle.kl1_host_web.specs.Writing.{response, responses, BreaksOff, WritesRefusal, IsTurnedAway, Connects}
use Rattle.kl1_host_web.specs.declared.serve.Served.TheVariants as served_as

-- a refusal was sent, whole or not
pub refusal_written : (why : Refusal) (answer : Answer) (old new : Option (List ℕ)) (failed fails : ℕ) (v : Bool) → IsRefusal why answer → (v ≡ true → Appends old new (answer_text answer false false)) → (v ≡ false → BreaksOff (answer_text answer false false) old new failed fails) → WritesRefusal why old new failed fails
refusal_written why answer old new failed fails true is sent breaks = record { answer = answer; refuses = is; written = inl (sent refl) }
refusal_written why answer old new failed fails false is sent breaks = record { answer = answer; refuses = is; written = inr (breaks refl) }

-- requests were attended to one after another, and their answers written
pub record IsUnderway (tells : ℕ → Type 0) (gives : List ℕ → Type 0) (idle : ℕ) (house : House) (sites : List Site) (is_local : Bool) (unread left old new : Option (List ℕ)) (before after : List Asked) : Type 0 where
  pub served : List Exchange
  pub serves : Serves tells gives idle house sites is_local served unread left before after
  pub written : Appends old new (responses sites served)

-- ---- a connection that is underway

module _ (tells : ℕ → Type 0) (gives : List ℕ → Type 0) (idle : ℕ) (house : House) (sites : List Site) (is_local : Bool) (unread old : Option (List ℕ)) (before : List Asked) where
  -- no request was attended to yet
  pub begins : (left : Option (List ℕ)) → left ≡ unread → IsUnderway tells gives idle house sites is_local unread left old old before before
  begins left same = record { served = []; serves = (same, refl); written = appends_none old }

  -- one more request was attended to, and its answer written
  pub goes_more : (middle left here new : Option (List ℕ)) (asked after : List Asked) (answer : Answer) (secure on : Bool) → IsUnderway tells gives idle house sites is_local unread middle old here before asked → Steps tells gives idle house sites is_local middle left asked after (Ok (served_as.Answered answer secure on)) → Appends here new (answer_text answer secure on) → IsUnderway tells gives idle house sites is_local unread left old new before after
  goes_more middle left here new asked after answer secure on h k w =
      let x : Exchange = record { head = k.0; body = k.1; answer = Ok answer } in
      let same : answer_text answer secure on ≡ response sites x = ap (λ s. answer_text answer s on) k.2 ∙ ap (λ g. answer_text answer (is_secure k.0 sites) g) k.3 in
      record {
        served = x ∷ h.served;
        serves = (middle, asked, h.serves, k.4);
        written = appends_both old here new (responses sites h.served) (response sites x) h.written (subst (λ t. Appends here new t) same w);
      }

  -- all answers are written, and nothing more is asked
  pub ends : (left new : Option (List ℕ)) (failed fails : ℕ) (asked after : List Asked) → IsUnderway tells gives idle house sites is_local unread left old new before asked → AsksNoMore tells house idle sites is_local asked after → Connects tells gives idle house sites is_local unread old new failed fails before after
  ends left new failed fails asked after h k = record { served = h.served; left = left; asked = asked; serves = h.serves; finishes = inl (h.written, k) }

  -- one more request was attended to, and its answer isn't written whole
  pub breaks : (middle left here new : Option (List ℕ)) (failed so_far fails : ℕ) (asked after : List Asked) (answer : Answer) (secure on : Bool) → IsUnderway tells gives idle house sites is_local unread middle old here before asked → Steps tells gives idle house sites is_local middle left asked after (Ok (served_as.Answered answer secure on)) → so_far ≡ failed → BreaksOff (answer_text answer secure on) here new so_far fails → Connects tells gives idle house sites is_local unread old new failed fails before after
  breaks middle left here new failed so_far fails asked after answer secure on h k none w =
      let x : Exchange = record { head = k.0; body = k.1; answer = Ok answer } in
      let same : answer_text answer secure on ≡ response sites x = ap (λ s. answer_text answer s on) k.2 ∙ ap (λ g. answer_text answer (is_secure k.0 sites) g) k.3 in
      record {
        served = x ∷ h.served;
        left = left;
        asked = after;
        serves = (middle, asked, h.serves, k.4);
        finishes = inr (inl (
          record {
            last = x;
            earlier = h.served;
            is = refl;
            middle = here;
            written = h.written;
            breaks = subst (λ n. BreaksOff (response sites x) here new n fails) none (subst (λ t. BreaksOff t here new so_far fails) same w);
          },
          refl,
        ));
      }

  -- no more is attended to for a reason, and that was written or not
  pub turns_away : (left here new : Option (List ℕ)) (failed so_far fails : ℕ) (asked after : List Asked) (why : Refusal) → IsUnderway tells gives idle house sites is_local unread left old here before asked → IsTurnedAway tells house idle sites is_local why left asked after → so_far ≡ failed → (new ≡ here) ⊎ WritesRefusal why here new so_far fails → Connects tells gives idle house sites is_local unread old new failed fails before after
  turns_away left here new failed so_far fails asked after why h is none w = record {
    served = h.served;
    left = left;
    asked = asked;
    serves = h.serves;
    finishes = inr (inr (record {
      why = why;
      is = is;
      middle = here;
      written = h.written;
      refusal = subst (λ n. (new ≡ here) ⊎ WritesRefusal why here new n fails) none w;
    }));
  }

  -- the next request isn't attended to
  pub refuses : (middle left here new : Option (List ℕ)) (failed so_far fails : ℕ) (asked after : List Asked) (why : Refusal) → IsUnderway tells gives idle house sites is_local unread middle old here before asked → Steps tells gives idle house sites is_local middle left asked after (Ok (served_as.Refused why)) → so_far ≡ failed → (new ≡ here) ⊎ WritesRefusal why here new so_far fails → Connects tells gives idle house sites is_local unread old new failed fails before after
  refuses middle left here new failed so_far fails asked after why h k none w = turns_away middle here new failed so_far fails asked after why h (inl (left, k)) none w

  -- memory was refused
  pub fails_for_memory : (middle left here new : Option (List ℕ)) (failed so_far fails : ℕ) (asked after : List Asked) (e : AllocError) → IsUnderway tells gives idle house sites is_local unread middle old here before asked → Steps tells gives idle house sites is_local middle left asked after (Err e) → so_far ≡ failed → (new ≡ here) ⊎ WritesRefusal refusal.Memory here new so_far fails → Connects tells gives idle house sites is_local unread old new failed fails before after
  fails_for_memory middle left here new failed so_far fails asked after e h (inl k) none w = turns_away middle here new failed so_far fails asked after refusal.Memory h (inr (refl, k)) none w
  fails_for_memory middle left here new failed so_far fails asked after e h (inr k) none w =
      let x : Exchange = record { head = k.0; body = k.1; answer = Err e } in
      let more : IsUnderway tells gives idle house sites is_local unread left old here before after = record {
        served = x ∷ h.served;
        serves = (middle, asked, h.serves, k.2);
        written = subst (λ t. Appends old here t) (sym (append-nil (responses sites h.served))) h.written;
      } in
      turns_away left here new failed so_far fails after after refusal.Memory more (inr (refl, inl refl)) none w
