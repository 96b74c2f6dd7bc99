-- Going on with a comparison, one pair after another.
use Rattle.std.proofs.Common.{◌≡◌, ℕ, suc, ◌-◌, ◌<◌, ◌≤◌, ◌||◌, Bool, true, false, List, [], ◌∷◌, ◌++◌, length, take, drop, get_or, refl, sym, ap, ◌∙◌, subst, arith, append_assoc, length-append}
use Rattle.std.specs.List.{All}
use Rattle.std.proofs.lemmas.List.{append-nil, take_all}
use Rattle.std.proofs.lemmas.List.Elements.{All-head, All-tail, All-nil}
use Rattle.std.proofs.lemmas.Bool.{or_right}
use Rattle.kl1_model.specs.declared.built_in.BuiltIn.{BuiltIn}
use Rattle.kl1_model.specs.Unify.{Equation, equations_size}
use Rattle.kl1_model.specs.code.Comparing.{clash}
use Rattle.kl1_text.specs.Reading.{Reads}
use Rattle.kl1_store.specs.declared.cell.Cell.TheVariants.{Structure}
use Rattle.kl1_store.specs.declared.frame.Frame.{Frame}
use Rattle.kl1_store.specs.Held.{Held}
use Rattle.kl1_store.specs.Meaning.{term_of, unread}
use Rattle.kl1_store.specs.Sound.{IsFormed}
use Rattle.kl1_store.specs.Onward.{onward}
use Rattle.kl1_store.specs.Waiting.{waiting, ArePairs}
use Rattle.kl1_store.specs.Compares.{clash_among, awaited_among, Compares}
use Rattle.kl1_store.specs.Unbound.{AreUnbound}
use Rattle.kl1_store.specs.Resting.{StandFor, turn_of, turns_of, heads_of, IsOpen}
use Rattle.kl1_store.specs.declared.progress.Progress.{Progress}
use Rattle.kl1_store.specs.declared.progress.Progress.TheVariants.{Ends, Clashes, Tires}
use Rattle.kl1_store.specs.Resumes.{IsOnCourse, Looks, ComesToRest}
use Rattle.kl1_store.proofs.Advancing.{work, nothing_waits, closed_at, closed_waiting, pair_popped}
use Rattle.kl1_store.proofs.Standing.{clash_beside, stand_same, stand_trans, stand_beside, stand_clash}
use Rattle.kl1_store.proofs.Resting.{before_look, looked_stand}

-- what was to be compared at the start stands for what is left and what waits
pub record IsUnderWay {N : Type 0} (built : BuiltIn → N) (h : Held N) (es : (N → List ℕ) → List Equation) (left now : List Frame) (waits : List ℕ) : Type 0 where
  pub pairs : ArePairs h now
  pub course : IsOnCourse built h left waits
  pub stand : (f : N → List ℕ) → Reads built f → StandFor (es f) (turns_of f h left ++ waiting f h [] now)

pub popped_open : {N : Type 0} (h : Held N) (before ps : List Frame) (p : Frame) → ArePairs h before → before ≡ ps ++ p ∷ [] → suc p.next ≤ p.count → IsOpen h p
popped_open h before ps p pairs e le = record { pair = pair_popped h before ps p pairs e; more = omega (arith, le) }

-- a pair was compared to the end
pub way_closes : {N : Type 0} (built : BuiltIn → N) (h : Held N) (es : (N → List ℕ) → List Equation) (left kept before ps : List Frame) (waits : List ℕ) (p : Frame) → IsUnderWay built h es left before waits → before ≡ ps ++ p ∷ [] → p.count ≤ p.next → kept ≡ left →
    IsUnderWay built h es kept ps waits × (work h ps < work h before)
way_closes {N = N} built h es left kept before ps waits p i e le same =
    let closed = closed_at built h before ps p i.pairs e le in
    let W : List Frame → Type 0 = λ l. IsUnderWay built h es l ps waits in (
      subst W (sym same) (record {
        pairs = closed.pairs;
        course = i.course;
        stand = λ f reads. let P : List Equation → Type 0 = λ l. StandFor (es f) (turns_of f h left ++ l) in subst P (closed_waiting h before ps p i.pairs e le f) (i.stand f reads);
      }),
      closed.less,
    )

-- the arguments in turn were looked at
pub way_looks : {N : Type 0} (built : BuiltIn → N) (h : Held N) (es : (N → List ℕ) → List Equation) (left rest before ps between now : List Frame) (waits longer : List ℕ) (p q : Frame) → IsUnderWay built h es left before waits →
    before ≡ ps ++ p ∷ [] → between ≡ ps ++ q ∷ [] → q ≡ onward p → suc p.next ≤ p.count → Looks built h p between now left rest → IsOnCourse built h rest longer → IsUnderWay built h es rest now longer × (work h now < work h before)
way_looks {N = N} built h es left rest before ps between now waits longer p q i e are is le looks course =
    let o = popped_open h before ps p i.pairs e le in (
      record {
        pairs = looks.pairs;
        course = course;
        stand = λ f reads.
            let P : List Equation → Type 0 = λ l. StandFor (es f) (turns_of f h left ++ l) in
            stand_trans (es f) (turns_of f h left ++ turn_of f h p ∷ waiting f h [] between) (turns_of f h rest ++ waiting f h [] now) (subst P (before_look f h before ps between p q e are is o) (i.stand f reads)) (looks.stand f reads);
      },
      omega (arith, ap equations_size (before_look unread h before ps between p q e are is o), looks.less, ap length e, ap length are, length-append ps (p ∷ []), length-append ps (q ∷ [])),
    )

clash_right : (a b : Bool) → b ≡ true → (a || b) ≡ true
clash_right a b e = or_right a b e

-- the arguments in turn clash
pub way_clashes : {N : Type 0} (built : BuiltIn → N) (h : Held N) (es : (N → List ℕ) → List Equation) (left before ps between : List Frame) (waits : List ℕ) (p q : Frame) → IsUnderWay built h es left before waits →
    before ≡ ps ++ p ∷ [] → between ≡ ps ++ q ∷ [] → q ≡ onward p → suc p.next ≤ p.count → ((f : N → List ℕ) → Reads built f → clash (turn_of f h p).left (turn_of f h p).right ≡ true) →
    (f : N → List ℕ) → Reads built f → clash_among (es f) ≡ true
way_clashes built h es left before ps between waits p q i e are is le clashes f reads =
    let o = popped_open h before ps p i.pairs e le in
    stand_clash (es f) (turns_of f h left ++ waiting f h [] before) (i.stand f reads) ∙ clash_beside (turns_of f h left) (waiting f h [] before)
    ∙ clash_right (clash_among (turns_of f h left)) (clash_among (waiting f h [] before)) (ap clash_among (before_look f h before ps between p q e are is o) ∙ ap (λ b. b || clash_among (waiting f h [] between)) (clashes f reads))

-- nothing waits any more
pub way_ends : {N : Type 0} (built : BuiltIn → N) (h : Held N) (es : (N → List ℕ) → List Equation) (left now : List Frame) (waits : List ℕ) → IsUnderWay built h es left now waits → now ≡ [] → (f : N → List ℕ) → Reads built f → StandFor (es f) (turns_of f h left)
way_ends {N = N} built h es left now waits i e f reads =
    let P : List Equation → Type 0 = λ l. StandFor (es f) l in
    subst P (ap (λ l. turns_of f h left ++ waiting f h [] l) e ∙ ap (λ l. turns_of f h left ++ l) (nothing_waits f h) ∙ append-nil (turns_of f h left)) (i.stand f reads)

-- ---- from the heads

-- with nothing left yet, nothing is waited for
pub course_begins : {N : Type 0} (built : BuiltIn → N) (h : Held N) (left : List Frame) (waits : List ℕ) → left ≡ [] → waits ≡ [] → IsOnCourse built h left waits
course_begins {N = N} built h left waits e d =
    let P : List Frame → Type 0 = λ l. All (IsOpen h) l in
    let U : List ℕ → Type 0 = λ l. AreUnbound h l in
    record {
      each = subst P (sym e) (All-nil (IsOpen h));
      clash = λ f reads. ap (λ l. clash_among (turns_of f h l)) e;
      awaited = λ f reads. d ∙ sym (ap (λ l. awaited_among (turns_of f h l)) e);
      unbound = subst U (sym d) tt;
    }

pub heads_begin : {N : Type 0} (built : BuiltIn → N) (h : Held N) (l r : ℕ) (left before now : List Frame) (waits longer : List ℕ) → IsFormed h → left ≡ [] → before ≡ [] → longer ≡ [] → Compares built h (Structure l) (Structure r) before now waits longer →
    (f : N → List ℕ) → Reads built f → StandFor (heads_of l r f h) (turns_of f h left ++ waiting f h [] now)
heads_begin {N = N} built h l r left before now waits longer formed e b none c f reads =
    let P : List Equation → Type 0 = λ es. StandFor (record { left = term_of f h (Structure l); right = term_of f h (Structure r) } ∷ es) (waiting f h [] now) in
    let Q : List Frame → Type 0 = λ ps. StandFor (heads_of l r f h) (turns_of f h ps ++ waiting f h [] now) in
    subst Q (sym e) (subst P (ap (waiting f h []) b ∙ nothing_waits f h) (looked_stand built f h (Structure l) (Structure r) before now waits longer reads formed (omega (arith, ap length none)) c.either))

-- ---- from what was left

-- what is left of a list of pairs, beside what was found open
pub record IsGoingOn {N : Type 0} (built : BuiltIn → N) (h : Held N) (es : (N → List ℕ) → List Equation) (left rest : List Frame) (waits : List ℕ) : Type 0 where
  pub course : IsOnCourse built h left waits
  pub each : All (IsOpen h) rest
  pub stand : (f : N → List ℕ) → Reads built f → StandFor (es f) (turns_of f h left ++ turns_of f h rest)

pub split_first : {X : Type 0} (x : X) (rest : List X) → 1 ≤ length rest → x ≡ get_or rest 0 x → rest ≡ x ∷ take (length rest - 1) (drop 1 rest)
split_first x [] le e = absurd (omega arith)
split_first {X = X} x (z ∷ zs) le e = ap (λ (y : X). y ∷ zs) (sym e) ∙ ap (λ l. x ∷ l) (sym (take_all (length (z ∷ zs) - 1) zs (omega arith)))

-- what is read where no pair is
abbrev pub no_pair : Frame
no_pair = record { left = 0; right = 0; next = 0; count = 0 }

pub first_is : (rest : List Frame) → 1 ≤ length rest → get_or rest 0 no_pair ≡ get_or rest 0 (get_or rest 0 no_pair)
first_is [] le = absurd (omega arith)
first_is (p ∷ ps) le = refl

pub going_begins : {N : Type 0} (built : BuiltIn → N) (h : Held N) (left rest : List Frame) (waits : List ℕ) → left ≡ [] → waits ≡ [] → All (IsOpen h) rest → IsGoingOn built h (λ f. turns_of f h rest) left rest waits
going_begins {N = N} built h left rest waits e d each = record {
  course = course_begins built h left waits e d;
  each = each;
  stand = λ f reads. let Q : List Frame → Type 0 = λ ps. StandFor (turns_of f h rest) (turns_of f h ps ++ turns_of f h rest) in subst Q (sym e) (stand_same (turns_of f h rest));
}

pub first_open : {N : Type 0} (built : BuiltIn → N) (h : Held N) (es : (N → List ℕ) → List Equation) (left rest : List Frame) (waits : List ℕ) (p : Frame) → 1 ≤ length rest → p ≡ get_or rest 0 p → IsGoingOn built h es left rest waits → IsOpen h p
first_open {N = N} built h es left rest waits p le e i =
    let P : List Frame → Type 0 = λ l. All (IsOpen h) l in
    All-head (IsOpen h) p (take (length rest - 1) (drop 1 rest)) (subst P (split_first p rest le e) i.each)

-- the first of them, in front of the others
first_stands : {N : Type 0} (built : BuiltIn → N) (h : Held N) (es : (N → List ℕ) → List Equation) (left rest more : List Frame) (waits : List ℕ) (p : Frame) → rest ≡ p ∷ more → IsGoingOn built h es left rest waits →
    (f : N → List ℕ) → Reads built f → StandFor (es f) ((turns_of f h left ++ turn_of f h p ∷ []) ++ turns_of f h more)
first_stands {N = N} built h es left rest more waits p e i f reads =
    let P : List Equation → Type 0 = λ l. StandFor (es f) l in
    subst P (ap (λ ps. turns_of f h left ++ turns_of f h ps) e ∙ sym (append_assoc (turns_of f h left) (turn_of f h p ∷ []) (turns_of f h more))) (i.stand f reads)

-- the first of them was looked at, and what came of it was compared to the end
pub going_on : {N : Type 0} (built : BuiltIn → N) (h : Held N) (es : (N → List ℕ) → List Equation) (left between after rest before now : List Frame) (waits longer : List ℕ) (p : Frame) → 1 ≤ length rest → p ≡ get_or rest 0 p → before ≡ [] →
    IsGoingOn built h es left rest waits → Looks built h p before now left between → IsOnCourse built h after longer → ((f : N → List ℕ) → Reads built f → StandFor (turns_of f h between ++ waiting f h [] now) (turns_of f h after)) →
    IsGoingOn built h es after (take (length rest - 1) (drop 1 rest)) longer
going_on {N = N} built h es left between after rest before now waits longer p le e none i looks course stand =
    let more = take (length rest - 1) (drop 1 rest) in
    let A : List Frame → Type 0 = λ l. All (IsOpen h) l in
    record {
      course = course;
      each = All-tail (IsOpen h) p more (subst A (split_first p rest le e) i.each);
      stand = λ f reads.
          let P : List Equation → Type 0 = λ l. StandFor (turns_of f h left ++ turn_of f h p ∷ l) (turns_of f h between ++ waiting f h [] now) in
          let looked = subst P (ap (waiting f h []) none ∙ nothing_waits f h) (looks.stand f reads) in
          stand_trans (es f) ((turns_of f h left ++ turn_of f h p ∷ []) ++ turns_of f h more) (turns_of f h after ++ turns_of f h more) (first_stands built h es left rest more waits p (split_first p rest le e) i f reads)
          (stand_beside (turns_of f h left ++ turn_of f h p ∷ []) (turns_of f h more) (turns_of f h after) (turns_of f h more)
          (stand_trans (turns_of f h left ++ turn_of f h p ∷ []) (turns_of f h between ++ waiting f h [] now) (turns_of f h after) looked (stand f reads)) (stand_same (turns_of f h more)));
    }

clash_within : (es fs : List Equation) → clash_among es ≡ true → clash_among (es ++ fs) ≡ true
clash_within es fs e = clash_beside es fs ∙ ap (λ b. b || clash_among fs) e

-- the first of them clashes
pub going_clashes : {N : Type 0} (built : BuiltIn → N) (h : Held N) (es : (N → List ℕ) → List Equation) (left rest : List Frame) (waits : List ℕ) (p : Frame) → 1 ≤ length rest → p ≡ get_or rest 0 p → IsGoingOn built h es left rest waits →
    ((f : N → List ℕ) → Reads built f → clash (turn_of f h p).left (turn_of f h p).right ≡ true) → (f : N → List ℕ) → Reads built f → clash_among (es f) ≡ true
going_clashes built h es left rest waits p le e i clashes f reads =
    let more = take (length rest - 1) (drop 1 rest) in
    stand_clash (es f) ((turns_of f h left ++ turn_of f h p ∷ []) ++ turns_of f h more) (first_stands built h es left rest more waits p (split_first p rest le e) i f reads)
    ∙ clash_within (turns_of f h left ++ turn_of f h p ∷ []) (turns_of f h more)
    (clash_beside (turns_of f h left) (turn_of f h p ∷ []) ∙ clash_right (clash_among (turns_of f h left)) (clash_among (turn_of f h p ∷ [])) (ap (λ b. b || false) (clashes f reads)))

-- what came of it clashes
pub going_clashes_on : {N : Type 0} (built : BuiltIn → N) (h : Held N) (es : (N → List ℕ) → List Equation) (left between rest before now : List Frame) (waits : List ℕ) (p : Frame) → 1 ≤ length rest → p ≡ get_or rest 0 p → before ≡ [] →
    IsGoingOn built h es left rest waits → Looks built h p before now left between → ((f : N → List ℕ) → Reads built f → clash_among (turns_of f h between ++ waiting f h [] now) ≡ true) →
    (f : N → List ℕ) → Reads built f → clash_among (es f) ≡ true
going_clashes_on {N = N} built h es left between rest before now waits p le e none i looks clashes f reads =
    let more = take (length rest - 1) (drop 1 rest) in
    let P : List Equation → Type 0 = λ l. StandFor (turns_of f h left ++ turn_of f h p ∷ l) (turns_of f h between ++ waiting f h [] now) in
    let looked = subst P (ap (waiting f h []) none ∙ nothing_waits f h) (looks.stand f reads) in
    stand_clash (es f) ((turns_of f h left ++ turn_of f h p ∷ []) ++ turns_of f h more) (first_stands built h es left rest more waits p (split_first p rest le e) i f reads)
    ∙ clash_within (turns_of f h left ++ turn_of f h p ∷ []) (turns_of f h more)
    (stand_clash (turns_of f h left ++ turn_of f h p ∷ []) (turns_of f h between ++ waiting f h [] now) looked ∙ clashes f reads)

pub going_ends : {N : Type 0} (built : BuiltIn → N) (h : Held N) (es : (N → List ℕ) → List Equation) (left rest : List Frame) (waits : List ℕ) → rest ≡ [] → IsGoingOn built h es left rest waits → (f : N → List ℕ) → Reads built f → StandFor (es f) (turns_of f h left)
going_ends {N = N} built h es left rest waits e i f reads =
    let P : List Equation → Type 0 = λ l. StandFor (es f) l in
    subst P (ap (λ ps. turns_of f h left ++ turns_of f h ps) e ∙ append-nil (turns_of f h left)) (i.stand f reads)

-- ---- what comes of equations comes of those that they stand for

pub comes_by : {N : Type 0} (built : BuiltIn → N) (h : Held N) (es fs : (N → List ℕ) → List Equation) (rest : List Frame) (waits : List ℕ) (p : Progress) → ((f : N → List ℕ) → Reads built f → StandFor (es f) (fs f)) → ComesToRest built h fs rest waits p →
    ComesToRest built h es rest waits p
comes_by built h es fs rest waits Ends stand c = (c.0, λ f reads. stand_trans (es f) (fs f) (turns_of f h rest) (stand f reads) (c.1 f reads))
comes_by built h es fs rest waits Clashes stand c = λ f reads. stand_clash (es f) (fs f) (stand f reads) ∙ c f reads
comes_by built h es fs rest waits Tires stand c = tt
