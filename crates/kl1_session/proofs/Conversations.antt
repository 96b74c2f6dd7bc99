-- How the turns of a conversation go together.
use Rattle.std.proofs.Common.{◌≡◌, ℕ, Bool, true, false, ◌||◌, List, [], ◌∷◌, ◌++◌, length, append_assoc, refl, ap, sym, ◌∙◌, subst}
use Rattle.std.specs.Prelude.{Ok, Err, Some, None, OnOk, OnErr, IsErr, is_err, if◌then◌else◌, map, take, drop, slice_index_or, ◌+◌, ◌<◌}
use Rattle.std.specs.declared.option.Option.{Option}
use Rattle.std.specs.declared.result.Result.{Result}
use Rattle.std.specs.Io.KnownBytes.{Appends}
use Rattle.std.proofs.lemmas.List.{append-nil, take-append-drop, take_more, map-append}
use Rattle.std.proofs.lemmas.Bool.{true≢false}
use Rattle.kl1_lines.specs.Devices.{AppendsFront, PassesOn, GrowsIfKnown}
use Rattle.kl1_lines.proofs.DeviceLaws.{appends_none, appends_both, front_behind}
use Rattle.kl1_model_server.specs.Inputs.{Input}
use Rattle.kl1_model.specs.Event as event
use Rattle.kl1_model_server.specs.Command.{does}
use Rattle.kl1_command.specs.declared.performed.Performed.{Performed}
use Rattle.kl1_session.specs.Replies.{told}
use Rattle.kl1_session.specs.Asking.{input_view}
use Rattle.kl1_session.specs.declared.input.Input as code
use Rattle.kl1_session.specs.Doors.{Opens, Action, action_of, log_in, log_out}
use Rattle.kl1_session.specs.Conversations.{Done, Turn, silence, both, refusing, performing, is_welcome, is_bye, Answers, Converses}
use Rattle.kl1_session.specs.Connections.{Standing, TalksOn, TalksToBye, TalksToFault, Talks, Puts, Takes}
use Rattle.kl1_session.specs.declared.connection.Answered.{Answered}
use Rattle.kl1_session.specs.declared.connection.Answered.TheVariants as answered
use Rattle.kl1_session.specs.declared.connection.ConnectionState.{ConnectionState}

-- ---- turns

or_none : (a b : Bool) → (a || b) ≡ false → (a ≡ false) × (b ≡ false)
or_none true b h = absurd (true≢false h)
or_none false b h = (refl, h)

or_false : (a : Bool) → (a || false) ≡ a
or_false true = refl
or_false false = refl

or_assoc : (a b c : Bool) → ((a || b) || c) ≡ (a || (b || c))
or_assoc true b c = refl
or_assoc false b c = refl

both_assoc : (t u w : Turn) → both (both t u) w ≡ both t (both u w)
both_assoc t u w =
    rw (append_assoc t.done u.done w.done, append_assoc t.told u.told w.told, or_assoc t.is_last u.is_last w.is_last) refl

both_silence : (t : Turn) → both t (silence t.visitor) ≡ t
both_silence t = rw (append-nil t.done, append-nil t.told, or_false t.is_last) refl

-- the turn of inputs, and then that of others
pub converses_more : (opens : Opens) (v : Option ℕ) (is js : List Input) (t u : Turn) → Converses opens v is t → t.is_last ≡ false → Converses opens t.visitor js u → Converses opens v (is ++ js) (both t u)
converses_more opens v [] js t u c l d =
    let P : Turn → Type 0 = λ x. Converses opens x.visitor js u → Converses opens v js (both x u) in
    subst P (sym c) (λ e. e) d
converses_more opens v (i ∷ is) js t u c l d =
    let first : Turn = c.0 in
    let rest : Turn = c.1 in
    let none = or_none first.is_last rest.is_last (sym (ap (λ x. x.is_last) c.5) ∙ l) in
    let D : Turn → Type 0 = λ x. Converses opens x.visitor js u in
    (first, both rest u, c.2, (λ h. absurd (true≢false (sym h ∙ none.0))), converses_more opens first.visitor is js rest u c.4 none.1 (subst D c.5 d), ap (λ x. both x u) c.5 ∙ both_assoc first rest u)

-- the turn of one input
pub converses_one : (opens : Opens) (v : Option ℕ) (i : Input) (t : Turn) → Answers v (action_of opens v i) t → Converses opens v (i ∷ []) t
converses_one opens v i t a = (t, silence t.visitor, a, (λ h. refl), refl, sym (both_silence t))

-- ---- what is written

pub passes_none : (a : Option (List ℕ)) (xs : List ℕ) → PassesOn a a xs xs
passes_none a xs = record { passed = []; appends = appends_none a; same = refl }

pub passes_all : (a b : Option (List ℕ)) (xs left : List ℕ) → Appends a b xs → left ≡ [] → PassesOn a b xs left
passes_all a b xs left h e = record { passed = xs; appends = h; same = ap (λ x. xs ++ x) e ∙ append-nil xs }

passes_more : (a b c : Option (List ℕ)) (xs more ys zs left : List ℕ) → PassesOn a b xs ys → zs ≡ ys ++ more → PassesOn b c zs left → PassesOn a c (xs ++ more) left
passes_more a b c xs more ys zs left p e q = record {
  passed = p.passed ++ q.passed;
  appends = appends_both a b c p.passed q.passed p.appends q.appends;
  same = append_assoc p.passed q.passed left ∙ ap (λ x. p.passed ++ x) (q.same ∙ e) ∙ sym (append_assoc p.passed ys more) ∙ ap (λ x. x ++ more) p.same;
}

passes_front : (a b c : Option (List ℕ)) (xs more ys zs others : List ℕ) → PassesOn a b xs ys → zs ++ others ≡ ys ++ more → AppendsFront b c zs → AppendsFront a c (xs ++ more)
passes_front a b c xs more ys zs others p e h =
    front_behind a b c p.passed zs others (xs ++ more) p.appends h (append_assoc p.passed zs others ∙ ap (λ x. p.passed ++ x) e ∙ sym (append_assoc p.passed ys more) ∙ ap (λ x. x ++ more) p.same)

front_left : (a b c : Option (List ℕ)) (xs ys : List ℕ) → PassesOn a b xs ys → AppendsFront b c ys → AppendsFront a c xs
front_left a b c xs ys p h = front_behind a b c p.passed ys [] xs p.appends h (append-nil (p.passed ++ ys) ∙ p.same)

grows_none : (a : Option (List ℕ)) → GrowsIfKnown a a []
grows_none None = tt
grows_none (Some xs) = sym (append-nil xs)

pub front_all : (a b : Option (List ℕ)) (bs : List ℕ) → Appends a b bs → AppendsFront a b bs
front_all a b bs h =
    let none : AppendsFront b b [] = record { count = 0; grows = grows_none b } in
    front_behind a b b bs [] [] bs h none (append-nil (bs ++ []) ∙ append-nil bs)

-- bytes were written, or a front of them
pub sent_front : {T E : Type 0} (r : Result T E) (a b : Option (List ℕ)) (bs : List ℕ) → OnOk r (Appends a b bs) → OnErr r (AppendsFront a b bs) → AppendsFront a b bs
sent_front (Ok x) a b bs h k = front_all a b bs h
sent_front (Err e) a b bs h k = k

-- what holds after a call that didn't fail, or that did
pub on_ok : {T E P : Type 0} (r : Result T E) → false ≡ is_err r → OnOk r P → P
on_ok (Ok x) e h = h
on_ok (Err x) e h = absurd (true≢false (sym e))

pub on_err : {T E P : Type 0} (r : Result T E) → true ≡ is_err r → OnErr r P → P
on_err (Ok x) e h = absurd (true≢false e)
on_err (Err x) e h = h

-- ---- inputs, one after another

pub talks_none : (opens : Opens) (s : Standing) → TalksOn opens [] false s s
talks_none opens s = record {
  turn = silence s.visitor;
  converses = refl;
  last = refl;
  done = sym (append-nil s.done);
  visitor = refl;
  written = let P : List ℕ → Type 0 = λ x. PassesOn s.sink s.sink x s.waiting in subst P (sym (append-nil s.waiting)) (passes_none s.sink s.waiting);
}

more_converse : (opens : Opens) (is js : List Input) (s t : Standing) (u : Turn) (h : TalksOn opens is false s t) → Converses opens t.visitor js u → Converses opens s.visitor (is ++ js) (both h.turn u)
more_converse opens is js s t u h c =
    let P : Option ℕ → Type 0 = λ v. Converses opens v js u in
    converses_more opens s.visitor is js h.turn u h.converses h.last (subst P h.visitor c)

more_done : (before middle after first rest : List Done) → middle ≡ before ++ first → after ≡ middle ++ rest → after ≡ before ++ (first ++ rest)
more_done before middle after first rest e f = f ∙ ap (λ x. x ++ rest) e ∙ append_assoc before first rest

on_more : (opens : Opens) (is js : List Input) (last : Bool) (s t u : Standing) → TalksOn opens is false s t → TalksOn opens js last t u → TalksOn opens (is ++ js) last s u
on_more opens is js last s t u h k = record {
  turn = both h.turn k.turn;
  converses = more_converse opens is js s t k.turn h k.converses;
  last = ap (λ b. b || k.turn.is_last) h.last ∙ k.last;
  done = more_done s.done t.done u.done h.turn.done k.turn.done h.done k.done;
  visitor = k.visitor;
  written =
      let P : List ℕ → Type 0 = λ x. PassesOn s.sink u.sink x u.waiting in
      subst P (append_assoc s.waiting h.turn.told k.turn.told) (passes_more s.sink t.sink u.sink (s.waiting ++ h.turn.told) k.turn.told t.waiting (t.waiting ++ k.turn.told) u.waiting h.written refl k.written);
}

all_more : (is js answered others : List Input) → js ≡ answered ++ others → is ++ js ≡ (is ++ answered) ++ others
all_more is js answered others e = ap (λ x. is ++ x) e ∙ sym (append_assoc is answered others)

-- inputs are answered, and then others
pub talks_more : (opens : Opens) (is js : List Input) (end : Answered) (s t u : Standing) → TalksOn opens is false s t → Talks opens js end t u → Talks opens (is ++ js) end s u
talks_more opens is js answered.All s t u h k = on_more opens is js false s t u h k
talks_more opens is js answered.Bye s t u h k = record {
  answered = is ++ k.answered;
  others = k.others;
  all = all_more is js k.answered k.others k.all;
  talk = on_more opens is k.answered true s t u h k.talk;
}
talks_more opens is js answered.Fault s t u h k = record {
  answered = is ++ k.answered;
  others = k.others;
  turn = both h.turn k.turn;
  all = all_more is js k.answered k.others k.all;
  converses = more_converse opens is k.answered s t k.turn h k.converses;
  done = more_done s.done t.done u.done h.turn.done k.turn.done h.done k.done;
  visitor = k.visitor;
  written =
      let P : List ℕ → Type 0 = λ x. AppendsFront s.sink u.sink x in
      subst P (append_assoc s.waiting h.turn.told k.turn.told) (passes_front s.sink t.sink u.sink (s.waiting ++ h.turn.told) k.turn.told t.waiting (t.waiting ++ k.turn.told) [] h.written (append-nil (t.waiting ++ k.turn.told)) k.written);
}

-- ---- one input, before which the replies that wait may be written

pub fault_before : (opens : Opens) (i : Input) (s t : Standing) → AppendsFront s.sink t.sink s.waiting → t.done ≡ s.done → t.visitor ≡ s.visitor → TalksToFault opens (i ∷ []) s t
fault_before opens i s t h d v = record {
  answered = [];
  others = i ∷ [];
  turn = silence s.visitor;
  all = refl;
  converses = refl;
  done = d ∙ sym (append-nil s.done);
  visitor = v;
  written = let P : List ℕ → Type 0 = λ x. AppendsFront s.sink t.sink x in subst P (sym (append-nil s.waiting)) h;
}

one_converse : {E : Type 0} (opens : Opens) (i : Input) (s : Standing) (m n : ConnectionState) (after : List Done) (r : Result Bool E) → s.visitor ≡ m.account → (k : Takes (action_of opens m.account i) r s.done after m n) → Converses opens s.visitor (i ∷ []) k.turn
one_converse opens i s m n after r v k =
    let P : Option ℕ → Type 0 = λ x. Converses opens x (i ∷ []) k.turn in
    subst P (sym v) (converses_one opens m.account i k.turn k.answers)

pub next_on : {E : Type 0} (opens : Opens) (i : Input) (s u : Standing) (m n : ConnectionState) (sink : Option (List ℕ)) (last : Bool) (r : Result Bool E) → r ≡ Ok last → s.visitor ≡ m.account → PassesOn s.sink sink s.waiting m.replies.items → Takes (action_of opens m.account i) r s.done u.done m n → PassesOn sink u.sink n.replies.items u.waiting → u.visitor ≡ n.account → TalksOn opens (i ∷ []) last s u
next_on {E = E} opens i s u m n sink last r e v p k q w =
    let P : Result Bool E → Type 0 = λ x. Puts x m.replies.items n.replies.items k.turn in
    let puts : Puts {E = E} (Ok last) m.replies.items n.replies.items k.turn = subst P e k.puts in
    record {
      turn = k.turn;
      converses = one_converse opens i s m n u.done r v k;
      last = puts.1;
      done = k.done;
      visitor = w ∙ k.visitor;
      written = passes_more s.sink sink u.sink s.waiting k.turn.told m.replies.items n.replies.items u.waiting p puts.0 q;
    }

pub next_bye : {E : Type 0} (opens : Opens) (i : Input) (s u : Standing) (m n : ConnectionState) (r : Result Bool E) → r ≡ Ok true → s.visitor ≡ m.account → PassesOn s.sink u.sink s.waiting m.replies.items → Takes (action_of opens m.account i) r s.done u.done m n → u.waiting ≡ n.replies.items → u.visitor ≡ n.account → TalksToBye opens (i ∷ []) s u
next_bye opens i s u m n r f v p k e w =
    let P : List ℕ → Type 0 = λ x. PassesOn u.sink u.sink n.replies.items x in
    record {
      answered = i ∷ [];
      others = [];
      all = refl;
      talk = next_on opens i s u m n u.sink true r f v p k (subst P (sym e) (passes_none u.sink n.replies.items)) w;
    }

-- a text was put, or memory was refused for it
pub puts_by : {T E : Type 0} (r : Result T E) (q : Result Bool E) (old new text : List ℕ) (last : Bool) (t : Turn) → OnOk r (new ≡ old ++ text) → OnErr r (new ≡ old) → OnOk r (q ≡ Ok last) → OnErr r (IsErr q) → t.told ≡ text → t.is_last ≡ last → Puts q old new t
puts_by {E = E} (Ok x) q old new text last t h k e f l m = let P : Result Bool E → Type 0 = λ y. Puts y old new t in subst P (sym e) (h ∙ ap (λ y. old ++ y) (sym l), m)
puts_by (Err x) (Ok b) old new text last t h k e f l m = absurd (true≢false (sym f))
puts_by (Err x) (Err y) old new text last t h k e f l m = k

put_front : {E : Type 0} (r : Result Bool E) (a b c : Option (List ℕ)) (xs old new : List ℕ) (t : Turn) → PassesOn a b xs old → Puts r old new t → AppendsFront b c new → AppendsFront a c (xs ++ t.told)
put_front (Ok last) a b c xs old new t p k h = passes_front a b c xs t.told old new [] p (append-nil new ∙ k.0) h
put_front (Err e) a b c xs old new t p k h = passes_front a b c xs t.told old new t.told p (ap (λ x. x ++ t.told) k) h

pub next_fault : {E : Type 0} (opens : Opens) (i : Input) (s u : Standing) (m n : ConnectionState) (sink : Option (List ℕ)) (r : Result Bool E) → s.visitor ≡ m.account → PassesOn s.sink sink s.waiting m.replies.items → Takes (action_of opens m.account i) r s.done u.done m n → AppendsFront sink u.sink n.replies.items → u.visitor ≡ n.account → TalksToFault opens (i ∷ []) s u
next_fault opens i s u m n sink r v p k h w = record {
  answered = i ∷ [];
  others = [];
  turn = k.turn;
  all = refl;
  converses = one_converse opens i s m n u.done r v k;
  done = k.done;
  visitor = w ∙ k.visitor;
  written = put_front r s.sink sink u.sink s.waiting m.replies.items n.replies.items k.turn p k.puts h;
}

pub refuses : {T E : Type 0} (s t : ConnectionState) (base action : Action) (text : List ℕ) (done : List Done) (r : Result T E) (q : Result Bool E) → base ≡ action → Answers s.account base (refusing s.account text) → t.account ≡ s.account → OnOk r (t.replies.items ≡ s.replies.items ++ text) → OnErr r (t.replies.items ≡ s.replies.items) → OnOk r (q ≡ Ok false) → OnErr r (IsErr q) → Takes action q done done s t
refuses s t base action text done r q e a v h k f l =
    let P : Action → Type 0 = λ x. Answers s.account x (refusing s.account text) in
    record {
      turn = refusing s.account text;
      answers = subst P e a;
      done = sym (append-nil done);
      visitor = v;
      puts = puts_by r q s.replies.items t.replies.items text false (refusing s.account text) h k f l refl refl;
    }

-- a login and a logout, of which `m` is who is connected before the reply is put
pub login_takes : {T E : Type 0} (n : ℕ) (answer : Performed) (r : Result T E) (q : Result Bool E) (before after : List Done) (s m t : ConnectionState) → m.account ≡ (if is_welcome answer then Some n else s.account) → m.replies.items ≡ s.replies.items → t.account ≡ m.account → after ≡ before ++ record { account = n; command = does event.login; answer = answer } ∷ [] → OnOk r (t.replies.items ≡ m.replies.items ++ told answer) → OnErr r (t.replies.items ≡ m.replies.items) → OnOk r (q ≡ Ok false) → OnErr r (IsErr q) → Takes (log_in n) q before after s t
login_takes n answer r q before after s m t v w x d h k f l =
    let turn : Turn = performing n (does event.login) answer (if is_welcome answer then Some n else s.account) false in
    let P : List ℕ → Type 0 = λ y. OnOk r (t.replies.items ≡ y ++ told answer) in
    let Q : List ℕ → Type 0 = λ y. OnErr r (t.replies.items ≡ y) in
    record {
      turn = turn;
      answers = (answer, refl);
      done = d;
      visitor = x ∙ v;
      puts = puts_by r q s.replies.items t.replies.items (told answer) false turn (subst P w h) (subst Q w k) f l refl refl;
    }

pub logout_takes : {T E : Type 0} (n : ℕ) (answer : Performed) (last : Bool) (r : Result T E) (q : Result Bool E) (before after : List Done) (s m t : ConnectionState) → last ≡ is_bye answer → m.account ≡ (if is_bye answer then None else s.account) → m.replies.items ≡ s.replies.items → t.account ≡ m.account → after ≡ before ++ record { account = n; command = does event.logout; answer = answer } ∷ [] → OnOk r (t.replies.items ≡ m.replies.items ++ told answer) → OnErr r (t.replies.items ≡ m.replies.items) → OnOk r (q ≡ Ok last) → OnErr r (IsErr q) → Takes (log_out n) q before after s t
logout_takes n answer last r q before after s m t b v w x d h k f l =
    let turn : Turn = performing n (does event.logout) answer (if is_bye answer then None else s.account) (is_bye answer) in
    let P : List ℕ → Type 0 = λ y. OnOk r (t.replies.items ≡ y ++ told answer) in
    let Q : List ℕ → Type 0 = λ y. OnErr r (t.replies.items ≡ y) in
    record {
      turn = turn;
      answers = (answer, refl);
      done = d;
      visitor = x ∙ v;
      puts = puts_by r q s.replies.items t.replies.items (told answer) last turn (subst P w h) (subst Q w k) f l refl (sym b);
    }

-- ---- the inputs of a piece, up to one

pub inputs_next : (xs : List code.Input) (i : ℕ) (x : code.Input) → i < length xs → x ≡ slice_index_or xs i x → map input_view (take (i + 1) xs) ≡ map input_view (take i xs) ++ input_view x ∷ []
inputs_next xs i x l e = ap (λ ys. map input_view ys) (take_more xs i x l ∙ ap (λ y. take i xs ++ y ∷ []) (sym e)) ∙ map-append input_view (take i xs) (x ∷ [])

pub inputs_split : (xs : List code.Input) (i : ℕ) (x : code.Input) → i < length xs → x ≡ slice_index_or xs i x → map input_view xs ≡ (map input_view (take i xs) ++ input_view x ∷ []) ++ map input_view (drop (i + 1) xs)
inputs_split xs i x l e =
    ap (λ ys. map input_view ys) (sym (take-append-drop (i + 1) xs)) ∙ map-append input_view (take (i + 1) xs) (drop (i + 1) xs) ∙ ap (λ ys. ys ++ map input_view (drop (i + 1) xs)) (inputs_next xs i x l e)

pub bye_early : (opens : Opens) (xs ys zs : List Input) (s u : Standing) → xs ≡ ys ++ zs → TalksToBye opens ys s u → TalksToBye opens xs s u
bye_early opens xs ys zs s u e k = record { answered = k.answered; others = k.others ++ zs; all = e ∙ ap (λ x. x ++ zs) k.all ∙ append_assoc k.answered k.others zs; talk = k.talk }

pub fault_early : (opens : Opens) (xs ys zs : List Input) (s u : Standing) → xs ≡ ys ++ zs → TalksToFault opens ys s u → TalksToFault opens xs s u
fault_early opens xs ys zs s u e k = record {
  answered = k.answered;
  others = k.others ++ zs;
  turn = k.turn;
  all = e ∙ ap (λ x. x ++ zs) k.all ∙ append_assoc k.answered k.others zs;
  converses = k.converses;
  done = k.done;
  visitor = k.visitor;
  written = k.written;
}

-- ---- the replies that are left are written

pub on_sent : (opens : Opens) (is : List Input) (last : Bool) (s t u : Standing) → TalksOn opens is last s t → Appends t.sink u.sink t.waiting → u.waiting ≡ [] → u.done ≡ t.done → u.visitor ≡ t.visitor → TalksOn opens is last s u
on_sent opens is last s t u h k e d v = record {
  turn = h.turn;
  converses = h.converses;
  last = h.last;
  done = d ∙ h.done;
  visitor = v ∙ h.visitor;
  written = record {
    passed = h.written.passed ++ t.waiting;
    appends = appends_both s.sink t.sink u.sink h.written.passed t.waiting h.written.appends k;
    same = ap (λ x. (h.written.passed ++ t.waiting) ++ x) e ∙ append-nil (h.written.passed ++ t.waiting) ∙ h.written.same;
  };
}

pub bye_sent : (opens : Opens) (is : List Input) (s t u : Standing) → TalksToBye opens is s t → Appends t.sink u.sink t.waiting → u.waiting ≡ [] → u.done ≡ t.done → u.visitor ≡ t.visitor → TalksToBye opens is s u
bye_sent opens is s t u h k e d v = record { answered = h.answered; others = h.others; all = h.all; talk = on_sent opens h.answered true s t u h.talk k e d v }

pub fault_sending : (opens : Opens) (is answered others : List Input) (last : Bool) (s t u : Standing) → is ≡ answered ++ others → TalksOn opens answered last s t → AppendsFront t.sink u.sink t.waiting → u.done ≡ t.done → u.visitor ≡ t.visitor → TalksToFault opens is s u
fault_sending opens is answered others last s t u all h k d v = record {
  answered = answered;
  others = others;
  turn = h.turn;
  all = all;
  converses = h.converses;
  done = d ∙ h.done;
  visitor = v ∙ h.visitor;
  written = front_left s.sink t.sink u.sink (s.waiting ++ h.turn.told) t.waiting h.written k;
}
