-- Requests that are attended to, one after another.
use Rattle.std.proofs.Common.{◌≡◌, ℕ, Bool, true, false, List, [], ◌∷◌, ◌++◌, Some, Result, Ok, Err, IsErr, IsErrAnd, IfOk, IfSome, Vec, refl, sym, ap, subst, ◌∙◌, inl, inr, append_assoc}
use Rattle.std.specs.declared.option.Option.{Option}
use Rattle.std.specs.declared.alloc.AllocError.{AllocError}
use Rattle.std.specs.declared.alloc.Global.{Global}
use Rattle.kl1_host_door.specs.declared.refusal.Refusal.{Refusal}
use Rattle.kl1_host_door.specs.declared.refusal.Refusal.TheVariants as refusal
use Rattle.kl1_host_door.specs.declared.answer.Answer.{Answer}
use Rattle.kl1_host_door.specs.declared.session.WebSession.{WebSession}
use Rattle.kl1_host_door.specs.declared.door.Site.{Site}
use Rattle.kl1_host_door.specs.declared.door.Allowed.{Allowed}
use Rattle.kl1_host_door.specs.declared.head.Head.{Head}
use Rattle.kl1_host_door.specs.Bodies.{body_bytes}
use Rattle.kl1_host_door.specs.declared.book.BookStep.TheVariants.{Adds}
use Rattle.kl1_host_door.specs.Books.{has_room}
use Rattle.kl1_host_door.specs.Doors.{mark_at}
use Rattle.kl1_model.specs.Event as event
use Rattle.kl1_model_server.specs.Command.{does}
use Rattle.kl1_command.specs.declared.performed.Performed.{Performed}
use Rattle.kl1_host_web.specs.Asking.{Asked, did, changed, House}
use Rattle.kl1_host_web.specs.Wishes.{wish_view, IsWish}
use Rattle.kl1_host_web.specs.Telling.{Grants, IsRefusal}
use Rattle.kl1_host_web.specs.Beginning.{IsDrawn, IsWelcome, Begun}
use Rattle.kl1_host_web.proofs.Wanting.{refusal_keeps}
use Rattle.kl1_host_web.specs.Serving.{Admits, LooksAt, KeepsOut, Ends, Performs, AnswersWithin, Answers, Attends, Exchanges, AsksNoMore, Steps, HasHead, HasNoBody, HasBody}
use Rattle.kl1_host_web.specs.declared.serve.Served.{Served}
use Rattle.kl1_host_web.specs.declared.wish.Wish.{Wish}
use Rattle.kl1_host_web.specs.declared.outcome.Outcome.{Outcome}
use Rattle.kl1_host_web.proofs.Coming.{consumes_both, consumed_front}

-- the session of an account was closed again, and the answer refuses
pub begun_refused : (tells : ℕ → Type 0) (gives : List ℕ → Type 0) (house : House) (account : ℕ) (before after : List Asked) (answer : Performed) (why : Refusal) (result : Result Answer AllocError) → after ≡ before ++ did account (does event.logout) answer ∷ [] → IfOk result (IsRefusal why) → Begun tells gives house account before after result
begun_refused tells gives house account before after answer why result e h = inr (inr (record { answer = answer; asked = e; kept = refusal_keeps why result h }))

-- the session of an account was closed again, without memory for an answer
pub begun_failed : (tells : ℕ → Type 0) (gives : List ℕ → Type 0) (house : House) (account : ℕ) (before after : List Asked) (answer : Performed) (error : AllocError) → after ≡ before ++ did account (does event.logout) answer ∷ [] → Begun tells gives house account before after (Err error)
begun_failed tells gives house account before after answer error e = inr (inr (record { answer = answer; asked = e; kept = tt }))

-- there was no room for the session
pub begun_full : (tells : ℕ → Type 0) (gives : List ℕ → Type 0) (house : House) (account : ℕ) (before middle after : List Asked) (session : WebSession) (others : List WebSession) (v : Bool) (answer : Performed) (why : Refusal) (result : Result Answer AllocError) → session.account ≡ account → v ≡ false → v ≡ has_room others → middle ≡ before ++ changed (Adds session) others ∷ [] → after ≡ middle ++ did account (does event.logout) answer ∷ [] → IfOk result (IsRefusal why) → Begun tells gives house account before after result
begun_full tells gives house account before middle after session others v answer why result of_account e room noted closed h = inr (inl (record {
  session = session;
  others = others;
  answer = answer;
  of_account = of_account;
  full = sym room ∙ e;
  asked = closed ∙ ap (λ l. l ++ did account (does event.logout) answer ∷ []) noted ∙ append_assoc before (changed (Adds session) others ∷ []) (did account (does event.logout) answer ∷ []);
  kept = refusal_keeps why result h;
}))

-- the session is there, and the browser is told of it
pub begun_told : (tells : ℕ → Type 0) (gives : List ℕ → Type 0) (house : House) (account : ℕ) (before after : List Asked) (session : WebSession) (others : List WebSession) (v : Bool) (answer : Answer) → session.account ≡ account → session.mark ≡ mark_at house.entries account → IsDrawn tells gives session → v ≡ true → v ≡ has_room others → after ≡ before ++ changed (Adds session) others ∷ [] → IsWelcome house.names session answer → Begun tells gives house account before after (Ok answer)
begun_told tells gives house account before after session others v answer of_account mark drawn e room noted told = inl (record {
  session = session;
  others = others;
  answer = answer;
  of_account = of_account;
  mark = mark;
  drawn = drawn;
  room = sym room ∙ e;
  asked = noted;
  is = refl;
  told = told;
})

-- a wish was granted, and what was still to do was done
pub performs : (tells : ℕ → Type 0) (gives : List ℕ → Type 0) (house : House) (a : Allowed) (path body : List ℕ) (w : Wish) (before middle after : List Asked) (o : Result Outcome AllocError) (result : Result Answer AllocError) → IsWish a body w → Grants house path (wish_view w) before middle o → Ends tells gives house a o middle after result → Performs tells gives house a path body before after result
performs tells gives house a path body w before middle after o result wish grants ends = record {
  value = wish.0;
  reads = wish.1;
  outcome = o;
  middle = middle;
  grants = subst (λ x. Grants house path x before middle o) wish.2 grants;
  ends = ends;
}

-- what is known of a request to an account that there is
pub within : (tells : ℕ → Type 0) (gives : List ℕ → Type 0) (house : House) (a : Allowed) (path body : List ℕ) (before after : List Asked) (result : Result Answer AllocError) (v : Bool) → v ≡ true → Performs tells gives house a path body before after result → AnswersWithin tells gives v house a path body before after result
within tells gives house a path body before after result v e p = subst (λ x. AnswersWithin tells gives x house a path body before after result) (sym e) (inr p)

pub fails : (tells : ℕ → Type 0) (gives : List ℕ → Type 0) (house : House) (a : Allowed) (path body : List ℕ) (before after : List Asked) (result : Result Answer AllocError) (v : Bool) → v ≡ true → after ≡ before → IsErr result → AnswersWithin tells gives v house a path body before after result
fails tells gives house a path body before after result v e same err = subst (λ x. AnswersWithin tells gives x house a path body before after result) (sym e) (inl (record { asked = same; fails = err }))

pub denied : (tells : ℕ → Type 0) (gives : List ℕ → Type 0) (house : House) (a : Allowed) (path body : List ℕ) (before after : List Asked) (result : Result Answer AllocError) (v : Bool) → v ≡ false → after ≡ before → IfOk result (IsRefusal refusal.Nobody) → AnswersWithin tells gives v house a path body before after result
denied tells gives house a path body before after result v e same why = subst (λ x. AnswersWithin tells gives x house a path body before after result) (sym e) (record { asked = same; refusal = why })

-- a request was attended to by sessions that were open
pub attended : (tells : ℕ → Type 0) (gives : List ℕ → Type 0) (idle : ℕ) (house : House) (sites : List Site) (is_local : Bool) (head : Head) (body : List ℕ) (before admitted after : List Asked) (result : Result Answer AllocError) (r : Result Allowed Refusal) → Admits tells house idle sites is_local head before admitted r → Answers tells gives house r head.target.items body admitted after result → Attends tells gives idle house sites is_local head body before after result
attended tells gives idle house sites is_local head body before admitted after result r admits answers = record {
  admitted = admitted;
  may_have = r;
  admits = admits;
  answers = answers;
}

-- a head and a body that came in one after the other are a request, which was attended to
pub exchanges : (tells : ℕ → Type 0) (gives : List ℕ → Type 0) (idle : ℕ) (house : House) (sites : List Site) (is_local : Bool) (head : Head) (body : List ℕ) (n : ℕ) (o : Result Bool Refusal) (is_in : Bool) (answer : Result Answer AllocError) (old middle new : Option (List ℕ)) (before looked after : List Asked) → HasHead head old middle → body_bytes head ≡ Ok n → o ≡ Ok is_in → LooksAt tells house idle sites is_local head n before looked o → HasBody n body middle new → Attends tells gives idle house sites is_local head body looked after answer → Exchanges tells gives idle house sites is_local (record { head = head; body = body; answer = answer }) old new before after
exchanges tells gives idle house sites is_local head body n o is_in answer old middle new before looked after comes told sent looks follows attends = record {
  next = record {
    bytes = comes.bytes;
    head = comes.is;
    few = comes.few;
    long = told ∙ ap Ok (sym follows.long);
    consumes = consumes_both old middle new comes.bytes body comes.consumes follows.consumes;
  };
  is_in = is_in;
  looked = looked;
  looks = subst (λ m. LooksAt tells house idle sites is_local head m before looked (Ok is_in)) (sym follows.long) (subst (λ w. LooksAt tells house idle sites is_local head n before looked w) sent looks);
  attends = attends;
}

-- a head of which no length of a body is known
pub no_body : (head : Head) (why : Refusal) (old middle : Option (List ℕ)) → HasHead head old middle → body_bytes head ≡ Err why → HasNoBody why old
no_body head why old middle comes e = record {
  bytes = comes.bytes;
  head = head;
  front = consumed_front old middle comes.bytes comes.consumes;
  is = comes.is;
  refused = e;
}

-- a head whose body isn't read
pub kept_out : (tells : ℕ → Type 0) (idle : ℕ) (house : House) (sites : List Site) (is_local : Bool) (head : Head) (n : ℕ) (why : Refusal) (o : Result Bool Refusal) (old middle : Option (List ℕ)) (before after : List Asked) → HasHead head old middle → body_bytes head ≡ Ok n → o ≡ Err why → LooksAt tells house idle sites is_local head n before after o → KeepsOut tells house idle sites is_local why old middle before after
kept_out tells idle house sites is_local head n why o old middle before after comes told refused looks = record {
  bytes = comes.bytes;
  head = head;
  count = n;
  is = comes.is;
  consumes = comes.consumes;
  told = told;
  looks = subst (λ w. LooksAt tells house idle sites is_local head n before after w) refused looks;
}

-- nothing more came after a head whose body is read
pub no_more : (tells : ℕ → Type 0) (house : House) (idle : ℕ) (sites : List Site) (is_local : Bool) (head : Head) (n : ℕ) (is_in : Bool) (o : Result Bool Refusal) (before after : List Asked) → o ≡ Ok is_in → LooksAt tells house idle sites is_local head n before after o → AsksNoMore tells house idle sites is_local before after
no_more tells house idle sites is_local head n is_in o before after sent looks = inr (head, n, is_in, subst (λ w. LooksAt tells house idle sites is_local head n before after w) sent looks)

-- memory was refused before a request was read whole
pub failed_before : (tells : ℕ → Type 0) (gives : List ℕ → Type 0) (idle : ℕ) (house : House) (sites : List Site) (is_local : Bool) (old new : Option (List ℕ)) (before after : List Asked) (r : Result Served AllocError) → IsErr r → AsksNoMore tells house idle sites is_local before after → Steps tells gives idle house sites is_local old new before after r
failed_before tells gives idle house sites is_local old new before after (Ok s) h k = absurd (cc)
failed_before tells gives idle house sites is_local old new before after (Err e) h k = inl k

-- memory was refused for the answer to a request that was attended to
pub failed : (tells : ℕ → Type 0) (gives : List ℕ → Type 0) (idle : ℕ) (house : House) (sites : List Site) (is_local : Bool) (old new : Option (List ℕ)) (before after : List Asked) (head : Head) (body : List ℕ) (e : AllocError) (r : Result Served AllocError) → IsErrAnd r (λ f. f ≡ e) → Exchanges tells gives idle house sites is_local (record { head = head; body = body; answer = Err e }) old new before after → Steps tells gives idle house sites is_local old new before after r
failed tells gives idle house sites is_local old new before after head body e (Ok s) h x = absurd h
failed tells gives idle house sites is_local old new before after head body e (Err f) h x =
    inr (head, body, subst (λ y. Exchanges tells gives idle house sites is_local (record { head = head; body = body; answer = Err y }) old new before after) (sym h) x)

-- a body that was read
pub body_is : (n : ℕ) (middle new : Option (List ℕ)) (o : Option (Vec ℕ Global)) (body : Vec ℕ Global) → o ≡ Some body → IfSome o (λ bytes. HasBody n bytes.items middle new) → HasBody n body.items middle new
body_is n middle new o body e h = subst (λ x. IfSome x (λ bytes. HasBody n bytes.items middle new)) e h
