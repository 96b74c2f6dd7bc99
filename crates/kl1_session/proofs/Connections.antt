-- How the pieces of a connection go together.
use Rattle.std.proofs.Common.{◌≡◌, ℕ, ◌<◌, false, ◌||◌, List, [], ◌∷◌, ◌++◌, length, length-append, append_assoc, refl, ap, sym, ◌∙◌, subst, arith}
use Rattle.std.specs.Prelude.{Some, None}
use Rattle.std.specs.declared.option.Option.{Option}
use Rattle.std.specs.Io.KnownBytes.{Appends, Consumes, IsAtEnd}
use Rattle.std.proofs.lemmas.List.{append-nil}
use Rattle.kl1_lines.specs.Devices.{AppendsFront, PassesOn, ConsumesIfKnown, KeepsIfKnown}
use Rattle.kl1_lines.proofs.DeviceLaws.{appends_none, appends_both, front_behind}
use Rattle.kl1_model.specs.declared.rules.Rules.{Rules}
use Rattle.kl1_model_server.specs.Inputs.{Input, inputs, rest}
use Rattle.kl1_model_server.proofs.Cuts.{cut_waits}
use Rattle.kl1_model_server.proofs.InputLaws.{inputs_cut_anywhere}
use Rattle.kl1_session.specs.Doors.{Opens}
use Rattle.kl1_session.specs.Conversations.{Done, Turn, silence, both, Converses}
use Rattle.kl1_session.specs.Connections.{Standing, TalksOn, TalksToBye, TalksToFault, GoesOn, Connects, GoesOrEnds, Ends}
use Rattle.kl1_session.specs.declared.connection.Disconnect.{Disconnect}
use Rattle.kl1_session.specs.declared.connection.Disconnect.TheVariants as disconnect
use Rattle.kl1_session.proofs.Conversations.{converses_more, front_all}

-- ---- bytes

consumes_both : (a b c : Option (List ℕ)) (bs cs : List ℕ) → Consumes a b bs → Consumes b c cs → Consumes a c (bs ++ cs)
consumes_both None b c bs cs h k = tt
consumes_both (Some xs) None c bs cs h k = absurd h
consumes_both (Some xs) (Some ys) None bs cs h k = absurd k
consumes_both (Some xs) (Some ys) (Some zs) bs cs h k = h ∙ ap (λ x. bs ++ x) k ∙ sym (append_assoc bs cs zs)

consumes_on : (a b c : Option (List ℕ)) (bs cs : List ℕ) → Consumes a b bs → ConsumesIfKnown b c cs → ConsumesIfKnown a c (bs ++ cs)
consumes_on None b c bs cs h k = tt
consumes_on (Some xs) None c bs cs h k = absurd h
consumes_on (Some xs) (Some ys) None bs cs h k = tt
consumes_on (Some xs) (Some ys) (Some zs) bs cs h k = h ∙ ap (λ x. bs ++ x) k ∙ sym (append_assoc bs cs zs)

consumes_none : (a : Option (List ℕ)) → Consumes a a []
consumes_none None = tt
consumes_none (Some xs) = refl

if_known : (a b : Option (List ℕ)) (bs : List ℕ) → Consumes a b bs → ConsumesIfKnown a b bs
if_known None b bs h = tt
if_known (Some xs) None bs h = absurd h
if_known (Some xs) (Some ys) bs h = h

kept_if_known : (a b : Option (List ℕ)) → KeepsIfKnown a b → ConsumesIfKnown a b []
kept_if_known None b h = tt
kept_if_known (Some xs) None h = tt
kept_if_known (Some xs) (Some ys) h = sym h

-- ---- inputs

no_more : (xs ys : List Input) → xs ≡ xs ++ ys → ys ≡ []
no_more xs [] h = refl
no_more xs (y ∷ ys) h = absurd (omega (arith, ap length h, length-append xs (y ∷ ys)))

module _ (rules : Rules) where
  -- the rest of a stream asks for nothing
  pub rest_is_quiet : (bytes : List ℕ) → inputs rules (rest bytes) ≡ []
  rest_is_quiet bytes =
      no_more (inputs rules bytes) (inputs rules (rest bytes)) (ap (inputs rules) (sym (append-nil bytes)) ∙ inputs_cut_anywhere.inputs_after rules bytes [] ∙ ap (λ x. inputs rules bytes ++ inputs rules x) (append-nil (rest bytes)))

  nothing_rests : rest [] ≡ []
  nothing_rests = ap (λ c. c.rest) (cut_waits [] refl)

  pub nothing_asked : inputs rules [] ≡ []
  nothing_asked = ap (λ x. inputs rules x) (sym nothing_rests) ∙ rest_is_quiet []

  inputs_more : (kept first second : List ℕ) → inputs rules (kept ++ (first ++ second)) ≡ inputs rules (kept ++ first) ++ inputs rules (rest (kept ++ first) ++ second)
  inputs_more kept first second = ap (λ x. inputs rules x) (sym (append_assoc kept first second)) ∙ inputs_cut_anywhere.inputs_after rules (kept ++ first) second

  rest_more : (kept first second : List ℕ) → rest (kept ++ (first ++ second)) ≡ rest (rest (kept ++ first) ++ second)
  rest_more kept first second = ap (λ x. rest x) (sym (append_assoc kept first second)) ∙ inputs_cut_anywhere.rest_after (kept ++ first) second

  -- ---- the pieces of a connection

  -- no piece was read
  pub starts : (opens : Opens) (read : Option (List ℕ)) (s : Standing) → s.waiting ≡ [] → GoesOn rules opens [] [] read read s s
  starts opens read s e = record {
    bytes = [];
    turn = silence s.visitor;
    reads = consumes_none read;
    rest = sym nothing_rests;
    converses = let P : List Input → Type 0 = λ x. Converses opens s.visitor x (silence s.visitor) in subst P (sym nothing_asked) refl;
    going = refl;
    done = sym (append-nil s.done);
    visitor = refl;
    written = appends_none s.sink;
    empty = e;
  }

  more_converse : (opens : Opens) (is js : List Input) (v w : Option ℕ) (t u : Turn) → Converses opens v is t → t.is_last ≡ false → w ≡ t.visitor → Converses opens w js u → Converses opens v (is ++ js) (both t u)
  more_converse opens is js v w t u c l e d =
      let P : Option ℕ → Type 0 = λ x. Converses opens x js u in
      converses_more opens v is js t u c l (subst P e d)

  more_done : (before middle after first rest : List Done) → middle ≡ before ++ first → after ≡ middle ++ rest → after ≡ before ++ (first ++ rest)
  more_done before middle after first rest e f = f ∙ ap (λ x. x ++ rest) e ∙ append_assoc before first rest

  more_ends : (room : ℕ) (end : Disconnect) (opens : Opens) (kept after : List ℕ) (r0 r1 r2 : Option (List ℕ)) (s t u : Standing) (bytes : List ℕ) (others : List Input) (turn : Turn) → (h : GoesOn rules opens kept after r0 r1 s t) → Ends room end r1 r2 t u bytes others turn → Ends room end r0 r2 s u (h.bytes ++ bytes) others (both h.turn turn)
  more_ends room disconnect.Bye opens kept after r0 r1 r2 s t u bytes others turn h k =
      (consumes_both r0 r1 r2 h.bytes bytes h.reads k.0, ap (λ b. b || turn.is_last) h.going ∙ k.1, appends_both s.sink t.sink u.sink h.turn.told turn.told h.written k.2)
  more_ends room disconnect.Ended opens kept after r0 r1 r2 s t u bytes others turn h k =
      (consumes_both r0 r1 r2 h.bytes bytes h.reads k.0, k.1, k.2, ap (λ b. b || turn.is_last) h.going ∙ k.3, appends_both s.sink t.sink u.sink h.turn.told turn.told h.written k.4)
  more_ends room disconnect.Fault opens kept after r0 r1 r2 s t u bytes others turn h k =
      (consumes_on r0 r1 r2 h.bytes bytes h.reads k.0, front_behind s.sink t.sink u.sink h.turn.told turn.told [] (h.turn.told ++ turn.told) h.written k.1 (append-nil (h.turn.told ++ turn.told)))

  -- a piece after others
  pub more_pieces : (opens : Opens) (room : ℕ) (end : Option Disconnect) (kept k1 k2 : List ℕ) (r0 r1 r2 : Option (List ℕ)) (s t u : Standing) → GoesOn rules opens kept k1 r0 r1 s t → GoesOrEnds rules opens room end k1 k2 r1 r2 t u → GoesOrEnds rules opens room end kept k2 r0 r2 s u
  more_pieces opens room None kept k1 k2 r0 r1 r2 s t u h k = record {
    bytes = h.bytes ++ k.bytes;
    turn = both h.turn k.turn;
    reads = consumes_both r0 r1 r2 h.bytes k.bytes h.reads k.reads;
    rest = k.rest ∙ ap (λ x. rest (x ++ k.bytes)) h.rest ∙ sym (rest_more kept h.bytes k.bytes);
    converses =
        let P : List Input → Type 0 = λ x. Converses opens s.visitor x (both h.turn k.turn) in
        subst P (ap (λ x. inputs rules (kept ++ h.bytes) ++ inputs rules (x ++ k.bytes)) h.rest ∙ sym (inputs_more kept h.bytes k.bytes)) (more_converse opens (inputs rules (kept ++ h.bytes)) (inputs rules (k1 ++ k.bytes)) s.visitor t.visitor h.turn k.turn h.converses h.going h.visitor k.converses);
    going = ap (λ b. b || k.turn.is_last) h.going ∙ k.going;
    done = more_done s.done t.done u.done h.turn.done k.turn.done h.done k.done;
    visitor = k.visitor;
    written = appends_both s.sink t.sink u.sink h.turn.told k.turn.told h.written k.written;
    empty = k.empty;
  }
  more_pieces opens room (Some end) kept k1 k2 r0 r1 r2 s t u h k = record {
    bytes = h.bytes ++ k.bytes;
    answered = inputs rules (kept ++ h.bytes) ++ k.answered;
    others = k.others;
    turn = both h.turn k.turn;
    inputs = inputs_more kept h.bytes k.bytes ∙ ap (λ x. inputs rules (kept ++ h.bytes) ++ inputs rules (x ++ k.bytes)) (sym h.rest) ∙ ap (λ x. inputs rules (kept ++ h.bytes) ++ x) k.inputs ∙ sym (append_assoc (inputs rules (kept ++ h.bytes)) k.answered k.others);
    converses = more_converse opens (inputs rules (kept ++ h.bytes)) k.answered s.visitor t.visitor h.turn k.turn h.converses h.going h.visitor k.converses;
    done = more_done s.done t.done u.done h.turn.done k.turn.done h.done k.done;
    visitor = k.visitor;
    ends = more_ends room end opens kept k1 r0 r1 r2 s t u k.bytes k.others k.turn h k.ends;
  }

  -- a connection that may go on is given up
  pub gives_up : (opens : Opens) (room : ℕ) (kept after : List ℕ) (read left : Option (List ℕ)) (s t : Standing) → GoesOn rules opens kept after read left s t → Connects rules opens room disconnect.Fault kept read left s t
  gives_up opens room kept after read left s t h = record {
    bytes = h.bytes;
    answered = inputs rules (kept ++ h.bytes);
    others = [];
    turn = h.turn;
    inputs = sym (append-nil (inputs rules (kept ++ h.bytes)));
    converses = h.converses;
    done = h.done;
    visitor = h.visitor;
    ends = (if_known read left h.bytes h.reads, front_all s.sink t.sink h.turn.told h.written);
  }

  -- ---- one piece

  -- what was read is answered by nothing
  unanswered : (opens : Opens) (room : ℕ) (end : Disconnect) (kept : List ℕ) (read left : Option (List ℕ)) (s : Standing) (bytes : List ℕ) → Ends room end read left s s bytes (inputs rules (kept ++ bytes)) (silence s.visitor) → Connects rules opens room end kept read left s s
  unanswered opens room end kept read left s bytes h = record {
    bytes = bytes;
    answered = [];
    others = inputs rules (kept ++ bytes);
    turn = silence s.visitor;
    inputs = refl;
    converses = refl;
    done = sym (append-nil s.done);
    visitor = refl;
    ends = h;
  }

  pub read_fails : (opens : Opens) (room : ℕ) (kept : List ℕ) (read left : Option (List ℕ)) (s : Standing) → KeepsIfKnown read left → Connects rules opens room disconnect.Fault kept read left s s
  read_fails opens room kept read left s h =
      unanswered opens room disconnect.Fault kept read left s [] (kept_if_known read left h, front_all s.sink s.sink [] (appends_none s.sink))

  pub piece_is_dropped : (opens : Opens) (room : ℕ) (kept bytes : List ℕ) (read left : Option (List ℕ)) (s : Standing) → Consumes read left bytes → Connects rules opens room disconnect.Fault kept read left s s
  piece_is_dropped opens room kept bytes read left s h =
      unanswered opens room disconnect.Fault kept read left s bytes (if_known read left bytes h, front_all s.sink s.sink [] (appends_none s.sink))

  pub input_ends : (opens : Opens) (room : ℕ) (kept bytes : List ℕ) (read left : Option (List ℕ)) (s : Standing) → Consumes read left bytes → bytes ≡ [] → (0 < room → IsAtEnd left) → inputs rules kept ≡ [] → Connects rules opens room disconnect.Ended kept read left s s
  input_ends opens room kept bytes read left s h e end quiet =
      let none : inputs rules (kept ++ bytes) ≡ [] = ap (λ x. inputs rules (kept ++ x)) e ∙ ap (λ x. inputs rules x) (append-nil kept) ∙ quiet in
      unanswered opens room disconnect.Ended kept read left s bytes (h, end, none, refl, appends_none s.sink)

  -- all replies are written if none waited before or waits then
  all_told : (a b : Option (List ℕ)) (before told after : List ℕ) → PassesOn a b (before ++ told) after → before ≡ [] → after ≡ [] → Appends a b told
  all_told a b before told after p e f =
      let P : List ℕ → Type 0 = λ x. Appends a b x in
      subst P (sym (append-nil p.passed) ∙ ap (λ x. p.passed ++ x) (sym f) ∙ p.same ∙ ap (λ x. x ++ told) e) p.appends

  pub piece_on : (opens : Opens) (kept after bytes : List ℕ) (read left : Option (List ℕ)) (is : List Input) (s u : Standing) → Consumes read left bytes → after ≡ rest (kept ++ bytes) → is ≡ inputs rules (kept ++ bytes) → s.waiting ≡ [] → TalksOn opens is false s u → u.waiting ≡ [] → GoesOn rules opens kept after read left s u
  piece_on opens kept after bytes read left is s u r e i w h f = record {
    bytes = bytes;
    turn = h.turn;
    reads = r;
    rest = e;
    converses = let P : List Input → Type 0 = λ x. Converses opens s.visitor x h.turn in subst P i h.converses;
    going = h.last;
    done = h.done;
    visitor = h.visitor;
    written = all_told s.sink u.sink s.waiting h.turn.told u.waiting h.written w f;
    empty = f;
  }

  pub piece_bye : (opens : Opens) (room : ℕ) (kept bytes : List ℕ) (read left : Option (List ℕ)) (is : List Input) (s u : Standing) → Consumes read left bytes → is ≡ inputs rules (kept ++ bytes) → s.waiting ≡ [] → TalksToBye opens is s u → u.waiting ≡ [] → Connects rules opens room disconnect.Bye kept read left s u
  piece_bye opens room kept bytes read left is s u r i w h f = record {
    bytes = bytes;
    answered = h.answered;
    others = h.others;
    turn = h.talk.turn;
    inputs = sym i ∙ h.all;
    converses = h.talk.converses;
    done = h.talk.done;
    visitor = h.talk.visitor;
    ends = (r, h.talk.last, all_told s.sink u.sink s.waiting h.talk.turn.told u.waiting h.talk.written w f);
  }

  pub piece_fault : (opens : Opens) (room : ℕ) (kept bytes : List ℕ) (read left : Option (List ℕ)) (is : List Input) (s u : Standing) → Consumes read left bytes → is ≡ inputs rules (kept ++ bytes) → s.waiting ≡ [] → TalksToFault opens is s u → Connects rules opens room disconnect.Fault kept read left s u
  piece_fault opens room kept bytes read left is s u r i w h = record {
    bytes = bytes;
    answered = h.answered;
    others = h.others;
    turn = h.turn;
    inputs = sym i ∙ h.all;
    converses = h.converses;
    done = h.done;
    visitor = h.visitor;
    ends = (if_known read left bytes r, (let P : List ℕ → Type 0 = λ x. AppendsFront s.sink u.sink x in subst P (ap (λ x. x ++ h.turn.told) w) h.written));
  }
