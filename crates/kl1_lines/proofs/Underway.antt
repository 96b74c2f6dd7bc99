-- How far records are answered, and how that ends.
use Rattle.std.proofs.Common.{◌≡◌, ℕ, ◌+◌, ◌-◌, ◌<◌, List, [], ◌∷◌, ◌++◌, length, take, length-append, refl, ap, sym, ◌∙◌, subst, append_assoc, arith}
use Rattle.std.proofs.lemmas.List.{append-nil}
use Rattle.std.proofs.lemmas.List.Folds.{concat-append}
use Rattle.std.proofs.Math.Seq.{take-append_seam}
use Rattle.std.specs.Prelude.{Ok, Err, IsErrOf}
use Rattle.std.specs.List.{concat}
use Rattle.std.specs.declared.option.Option.{Option}
use Rattle.std.specs.declared.result.Result.{Result}
use Rattle.std.specs.Io.KnownBytes.{Appends}
use Rattle.kl1_lines.specs.Devices.{AppendsFront, PassesOn}
use Rattle.kl1_lines.specs.Replies.{Ends, Finishes, PutsFirst, Stops, Written, all_of, front_of}
use Rattle.kl1_lines.specs.declared.script_fault.ScriptFault.{ScriptFault}
use Rattle.kl1_lines.specs.declared.script_fault.ScriptFault.TheVariants as faults
use Rattle.kl1_lines.proofs.DeviceLaws.{appends_both, appends_none, front_behind}

-- some records are done, of whose replies the first bytes were passed on and the others wait; `left` of `all` records are left, and the
-- other replies will be written for them
pub record Underway (writes : Written → Type 0) (old now : Option (List ℕ)) (w : Written) (out : List ℕ) (all left : ℕ) : Type 0 where
  pub done : List (List ℕ)
  pub others : List (List ℕ)
  pub each : w.each ≡ done ++ others
  pub passed : List ℕ
  pub appends : Appends old now passed
  pub told : passed ++ out ≡ concat done
  pub count : length done + left ≡ all
  pub rest : writes (record { each = others; last = w.last })

-- none is done yet
pub starts : (writes : Written → Type 0) (old : Option (List ℕ)) (w : Written) (out : List ℕ) (all : ℕ) → out ≡ [] → writes w → Underway writes old old w out all all
starts writes old w out all none is = record {
  done = [];
  others = w.each;
  each = refl;
  passed = [];
  appends = appends_none old;
  told = none;
  count = omega arith;
  rest = is;
}

concat_last : (each : List (List ℕ)) (reply : List ℕ) → concat (each ++ reply ∷ []) ≡ concat each ++ reply
concat_last each reply = concat-append each (reply ∷ []) ∙ ap (λ x. concat each ++ x) (append-nil reply)

-- one record more is done, and its reply waits
pub one_put : (before after : Written → Type 0) (old now : Option (List ℕ)) (w : Written) (out put : List ℕ) (all left next : ℕ) → Underway before old now w out all left → ((v : Written) → before v → PutsFirst after v out put) → left ≡ next + 1 → Underway after old now w put all next
one_put before after old now w out put all left next u step less =
    let p = step (record { each = u.others; last = w.last }) u.rest in
    record {
      done = u.done ++ p.reply ∷ [];
      others = p.others;
      each = u.each ∙ ap (λ x. u.done ++ x) p.each ∙ sym (append_assoc u.done (p.reply ∷ []) p.others);
      passed = u.passed;
      appends = u.appends;
      told = ap (λ x. u.passed ++ x) p.put ∙ sym (append_assoc u.passed out p.reply) ∙ ap (λ x. x ++ p.reply) u.told ∙ sym (concat_last u.done p.reply);
      count = omega (arith, length-append u.done (p.reply ∷ []), u.count, less);
      rest = p.rest;
    }

-- some of the bytes that wait are passed on
pub one_passed : (writes : Written → Type 0) (old now after : Option (List ℕ)) (w : Written) (out kept : List ℕ) (all left : ℕ) → Underway writes old now w out all left → PassesOn now after out kept → Underway writes old after w kept all left
one_passed writes old now after w out kept all left u p = record {
  done = u.done;
  others = u.others;
  each = u.each;
  passed = u.passed ++ p.passed;
  appends = appends_both old now after u.passed p.passed u.appends p.appends;
  told = append_assoc u.passed p.passed kept ∙ ap (λ x. u.passed ++ x) p.same ∙ u.told;
  count = u.count;
  rest = u.rest;
}

-- what was passed on, what waits and what is written for the others is all
all_is : (writes : Written → Type 0) (old now : Option (List ℕ)) (w : Written) (out : List ℕ) (all left : ℕ) → (u : Underway writes old now w out all left) → (u.passed ++ out) ++ (concat u.others ++ w.last) ≡ all_of w
all_is writes old now w out all left u =
    ap (λ x. x ++ (concat u.others ++ w.last)) u.told ∙ sym (append_assoc (concat u.done) (concat u.others) w.last) ∙ ap (λ x. x ++ w.last) (sym (concat-append u.done u.others) ∙ ap concat (sym u.each))

-- a write failed
pub breaks : (T : Type 0) (writes : Written → Type 0) (old now after : Option (List ℕ)) (f h g : ℕ) (w : Written) (out : List ℕ) (all left : ℕ) → Underway writes old now w out all left → h ≡ f → AppendsFront now after out → h < g → Ends {T = T} old after f g (all_of w) w.each (Err faults.Write)
breaks T writes old now after f h g w out all left u kept front more =
    (front_behind old now after u.passed out (concat u.others ++ w.last) (all_of w) u.appends front (all_is writes old now w out all left u), omega (arith, kept, more))

-- the bytes that wait were written
front_is : (writes : Written → Type 0) (old now after : Option (List ℕ)) (w : Written) (out : List ℕ) (all left : ℕ) → (u : Underway writes old now w out all left) → Appends now after out → Appends old after (front_of (length u.done) w.each)
front_is writes old now after w out all left u appends =
    let P : List ℕ → Type 0 = λ x. Appends old after x in
    let front : take (length u.done) w.each ≡ u.done = ap (take (length u.done)) u.each ∙ take-append_seam u.done u.others in
    subst P (u.told ∙ ap concat (sym front)) (appends_both old now after u.passed out u.appends appends)

-- memory was refused at a record
pub stops : (T : Type 0) (writes : Written → Type 0) (old now after : Option (List ℕ)) (f h g : ℕ) (w : Written) (out bytes : List ℕ) (all left : ℕ) (fault : ScriptFault) → Underway writes old now w out all left → h ≡ f → bytes ≡ out → ((v : Written) → writes v → 0 < length v.each) → Stops now after h g bytes fault → Ends {T = T} old after f g (all_of w) w.each (Err fault)
stops T writes old now after f h g w out bytes all left faults.Memory u kept same some s =
    let P : List ℕ → Type 0 = λ x. Appends now after x in (
      record {
        count = length u.done;
        fewer = omega (arith, ap length u.each, length-append u.done u.others, some (record { each = u.others; last = w.last }) u.rest);
        written = front_is writes old now after w out all left u (subst P same s.0);
      },
      s.1 ∙ kept,
    )
stops T writes old now after f h g w out bytes all left faults.Write u kept same some s =
    let P : List ℕ → Type 0 = λ x. AppendsFront now after x in
    breaks T writes old now after f h g w out all left u kept (subst P same s.0) s.1
stops T writes old now after f h g w out bytes all left faults.Read u kept same some s = absurd s
stops T writes old now after f h g w out bytes all left faults.TooLong u kept same some s = absurd s

-- so just the replies to the records that are done were written
pub stops_there : (T : Type 0) (writes : Written → Type 0) (old now after : Option (List ℕ)) (h g : ℕ) (w : Written) (out bytes : List ℕ) (all left next : ℕ) (fault : ScriptFault) → Underway writes old now w out all left → bytes ≡ out → next ≡ left → Stops now after h g bytes fault → IsErrOf {T = T} (Err fault) faults.Memory → Appends old after (front_of (all - next) w.each)
stops_there T writes old now after h g w out bytes all left next faults.Memory u same stays s e =
    let P : List ℕ → Type 0 = λ x. Appends now after x in
    let Q : ℕ → Type 0 = λ n. Appends old after (front_of n w.each) in
    let count : length u.done ≡ all - next = omega (arith, u.count, stays) in
    subst Q count (front_is writes old now after w out all left u (subst P same s.0))
stops_there T writes old now after h g w out bytes all left next faults.Write u same stays s e = cc
stops_there T writes old now after h g w out bytes all left next faults.Read u same stays s e = absurd s
stops_there T writes old now after h g w out bytes all left next faults.TooLong u same stays s e = absurd s

-- no record is left, and these are the last bytes
ends_all : (writes : Written → Type 0) (old now : Option (List ℕ)) (w : Written) (out bytes last : List ℕ) (all left : ℕ) → (u : Underway writes old now w out all left) → bytes ≡ out → ((v : Written) → writes v → all_of v ≡ last) → u.passed ++ (bytes ++ last) ≡ all_of w
ends_all writes old now w out bytes last all left u same rest =
    ap (λ x. u.passed ++ (x ++ last)) same ∙ sym (append_assoc u.passed out last) ∙ ap (λ x. (u.passed ++ out) ++ x) (sym (rest (record { each = u.others; last = w.last }) u.rest)) ∙ all_is writes old now w out all left u

-- they are written, or some of them
pub ends_here : {T : Type 0} (r : Result T ScriptFault) (writes : Written → Type 0) (old now after : Option (List ℕ)) (f h g : ℕ) (w : Written) (out bytes last : List ℕ) (all left : ℕ) → Underway writes old now w out all left → h ≡ f → bytes ≡ out → ((v : Written) → writes v → all_of v ≡ last) → Finishes now after h g (bytes ++ last) r → Ends old after f g (all_of w) w.each r
ends_here (Ok v) writes old now after f h g w out bytes last all left u kept same rest s =
    let P : List ℕ → Type 0 = λ x. Appends old after x in
    (subst P (ends_all writes old now w out bytes last all left u same rest) (appends_both old now after u.passed (bytes ++ last) u.appends s.0), s.1 ∙ kept)
ends_here (Err faults.Memory) writes old now after f h g w out bytes last all left u kept same rest s = absurd s
ends_here (Err faults.Write) writes old now after f h g w out bytes last all left u kept same rest s =
    (front_behind old now after u.passed (bytes ++ last) [] (all_of w) u.appends s.0 (append-nil (u.passed ++ (bytes ++ last)) ∙ ends_all writes old now w out bytes last all left u same rest), omega (arith, kept, s.1))
ends_here (Err faults.Read) writes old now after f h g w out bytes last all left u kept same rest s = absurd s
ends_here (Err faults.TooLong) writes old now after f h g w out bytes last all left u kept same rest s = absurd s

-- the last bytes need no memory
pub never_refused : {T : Type 0} (r : Result T ScriptFault) (P : Type 0) (old new : Option (List ℕ)) (f g : ℕ) (bytes : List ℕ) → Finishes old new f g bytes r → r ≡ Err faults.Memory → P
never_refused (Ok v) P old new f g bytes s e = cc
never_refused (Err faults.Memory) P old new f g bytes s e = absurd s
never_refused (Err faults.Write) P old new f g bytes s e = cc
never_refused (Err faults.Read) P old new f g bytes s e = absurd s
never_refused (Err faults.TooLong) P old new f g bytes s e = absurd s
