-- One bucket of a look-up.
use Rattle.std.proofs.Common.{◌≡◌, ◌≢◌, ℕ, ◌+◌, ◌-◌, ◌*◌, ◌<◌, ◌≤◌, List, [], ◌∷◌, ◌++◌, Some, None, IsTrue, IsSome, refl, sym, ap, ◌∙◌, subst, inl, inr, arith, true, false, Bool}
use Rattle.std.proofs.lemmas.Bool.{cases_eq, false≢true}
use Rattle.std.proofs.Math.ListN.{length-append}
use Rattle.kl1_model.specs.declared.limits.TheConstants.{FIRST_NUMBER}
use Rattle.kl1_text.specs.BuiltIns.{built_in_at}
use Rattle.kl1_text.specs.Words.{name_words, words_of, bytes_of, words_to_end}
use Rattle.kl1_text.proofs.Words.{words_hold, ended_hold}
use Rattle.kl1_model.specs.Text.{is_text}
use Rattle.atomic_table.specs.Table.{Me}
use Rattle.kl1_atoms.specs.declared.known.Known.{Known}
use Rattle.kl1_atoms.specs.declared.face.Face.{Face}
use Rattle.kl1_atoms.specs.declared.face.Heard.{Heard}
use Rattle.kl1_atoms.specs.declared.face.View.{View}
use Rattle.kl1_atoms.specs.declared.round.Round.{Round}
use Rattle.kl1_atoms.specs.declared.round.Round.TheVariants.{Found, Made, Other}
use Rattle.kl1_atoms.specs.Names.{number_in, text_in, text_by, Adds, AreNames}
use Rattle.kl1_atoms.specs.Knowing.{adds_one, option_cases, publishes_one}
use Rattle.kl1_atoms.specs.Way.{further}
use Rattle.kl1_atoms.specs.Rule.{own_entry, Listed}
use Rattle.kl1_atoms.specs.Plays.{own, first_of, has_first, with_first, In, Passed, heard_more, Sees, Looks, own_pair, published_by, Publishes, Steps, IsReady}
use Rattle.kl1_atoms.specs.Seats.{face_in}
use Rattle.kl1_atoms.specs.Rounds.{Walks, SameAccount, Drafts, Ends, GoesOn, OnTheWay, Compares, Gives}

-- faces with their own first one
pub same_first : (fs : List Face) → IsTrue (has_first fs) → fs ≡ with_first fs (first_of fs)
same_first [] there = absurd (false≢true there)
same_first (f ∷ fs) there = refl

-- the first face is replaced twice
pub first_twice : (fs : List Face) (f g : Face) → with_first (with_first fs f) g ≡ with_first fs g
first_twice [] f g = refl
first_twice (x ∷ fs) f g = refl

-- one bucket more was passed
pub passed_more : (f : Face) (t : List ℕ) (n d bucket : ℕ) (h : Heard) → Passed f t d → In f.heard h → h.bucket ≡ bucket → bucket ≡ further n t d → f.entries ≡ n → h.text ≢ t → Passed f t (d + 1)
passed_more f t n d bucket h passed is at way accounts differ = λ c below. elim (cases_eq c d) [
  | inl same ↦ (h, is, at ∙ way ∙ ap (λ m. further m t d) (sym accounts) ∙ ap (further f.entries t) (sym same), differ)
  | inr other ↦ passed c (omega arith)
]

-- a look-up goes on past another text
pub goes_on : (before after : Me (Unit {0}) View) (t : List ℕ) (n d bucket : ℕ) (drafted : Bool) (h : Heard) → after ≡ before → IsTrue (has_first before.0.faces) → Walks (own before.0) t d drafted
    → In (own before.0).heard h → h.bucket ≡ bucket → bucket ≡ further n t d → (own before.0).entries ≡ n → h.text ≢ t → d ≤ n → Steps before after (λ f g. Compares f g t d drafted (Other drafted))
goes_on before after t n d bucket drafted h same first walks is at way accounts differ small =
    subst (λ (m : Me (Unit {0}) View). Steps before m (λ f g. Compares f g t d drafted (Other drafted))) (sym same)
    (let stay : Steps before before (λ f g. Compares f g t d drafted (Other drafted)) = record {
      slots = refl;
      faces = same_first before.0.faces first;
      tells = (
        record {
          same = record { entries = refl; first = refl; room = refl };
          used = refl;
          knows = refl;
          walks = record {
            name = walks.name;
            other = walks.other;
            room = walks.room;
            used_up = walks.used_up;
            passed = passed_more (own before.0) t n d bucket h walks.passed is at way accounts differ;
            draft = walks.draft;
            drafted_room = walks.drafted_room;
          };
          few = subst (λ m. d + 1 ≤ m + 1) (sym accounts) (omega arith);
        },
        refl,
      );
    } in stay)

-- a sighting leaves a look-up where it is
pub walks_seen : (f g : Face) (i found : ℕ) (t : List ℕ) (d : ℕ) (drafted : Bool) → Walks f t d drafted → Sees f g i found → Walks g t d drafted
walks_seen f g i found t d drafted walks sees =
    subst (λ (x : Face). Walks x t d drafted) (sym sees.5)
    (let more : Walks (heard_more f sees.0) t d drafted = record {
      name = walks.name;
      other = walks.other;
      room = walks.room;
      used_up = walks.used_up;
      passed = λ c below. let p = walks.passed c below in (p.0, inr p.1, p.2, p.3);
      draft = walks.draft;
      drafted_room = walks.drafted_room;
    } in more)

-- a text that isn't known, if there is room, finds an entry
pub entry_left : (f : Face) (t : List ℕ) (d : ℕ) (drafted : Bool) → Walks f t d drafted → number_in f.knows t ≡ None → f.used < f.room
entry_left f t d drafted walks new = elim walks.room [
  | inl known ↦ absurd (false≢true (rw (walks.other, new) at known))
  | inr few ↦ let u = walks.used_up in omega arith
]

-- a draft leaves a look-up where it is
pub walks_drafted : (f g : Face) (t : List ℕ) (d : ℕ) (drafted : Bool) → Walks f t d drafted → f.used < f.room → Drafts f g (words_to_end t) → Walks g t d true
walks_drafted f g t d drafted walks room drafts = record {
  name = walks.name;
  other = walks.other;
  room = rw (drafts.same.room, drafts.knows) walks.room;
  used_up = rw (drafts.used, drafts.knows) walks.used_up;
  passed = λ c below.
      let p = walks.passed c below in (p.0, subst (λ hs. In hs p.0) (sym drafts.heard) p.1, p.2 ∙ ap (λ m. further m t c) (sym drafts.same.entries), p.3);
  draft = drafts.draft;
  drafted_room = λ _. rw (drafts.used, drafts.same.room) room;
}

-- a drafted face at a free bucket may publish
pub is_ready : (f : Face) (t : List ℕ) (n d bucket : ℕ) → Walks f t d true → f.entries ≡ n → bucket < 2 * n → bucket ≡ further n t d → IsReady f t d bucket
is_ready f t n d bucket walks accounts within way = record {
  room = walks.drafted_room refl;
  bucket = subst (λ m. bucket < 2 * m) (sym accounts) within;
  way = way ∙ ap (λ m. further m t d) (sym accounts);
  passed = walks.passed;
  draft = walks.draft;
  name = walks.name;
  other = walks.other;
}

-- what a face knows once its text is published
pub made : (f g h : Face) (t : List ℕ) (d : ℕ) (drafted : Bool) → Walks f t d drafted → number_in f.knows t ≡ None → Drafts f g (words_to_end t) → h ≡ published_by g → Listed h.entries h.knows → d ≤ f.entries → Gives f h t d Made
made f g h t d drafted walks new drafts is names few =
    let own_same : own_entry g ≡ own_entry f = (let a = drafts.same.first in let u = drafts.used in omega arith) in
    let text : bytes_of g.draft ≡ t = ap bytes_of drafts.draft ∙ ended_hold t walks.name in
    let pair : own_pair g ≡ record { text = t; number = record { number = FIRST_NUMBER + own_entry f } } = ap (λ (x : ℕ × List ℕ). own_known x) (let e : (own_entry g, bytes_of g.draft) ≡ (own_entry f, t) = cc in e) in
    let knows : h.knows ≡ f.knows ++ record { text = t; number = record { number = FIRST_NUMBER + own_entry f } } ∷ [] =
    ap (λ (x : Face). x.knows) is ∙ ap (λ k. g.knows ++ k ∷ []) pair ∙ ap (λ ks. ks ++ record { text = t; number = record { number = FIRST_NUMBER + own_entry f } } ∷ []) drafts.knows
    in
    let used : h.used ≡ f.used + 1 = ap (λ (x : Face). x.used) is ∙ ap (λ u. u + 1) drafts.used in (
      record {
        same = record { entries = ap (λ (x : Face). x.entries) is ∙ drafts.same.entries; first = ap (λ (x : Face). x.first) is ∙ drafts.same.first; room = ap (λ (x : Face). x.room) is ∙ drafts.same.room };
        adds = rw knows (adds_one f.knows t record { number = FIRST_NUMBER + own_entry f } walks.other new);
        names = names;
        used_up = rw (used, knows) (simp length-append (let u = walks.used_up in omega arith));
        publishes = rw (used, knows) (publishes_one f.used f.knows record { text = t; number = record { number = FIRST_NUMBER + own_entry f } });
        draft = ap (λ (x : Face). x.draft) is;
      },
      used,
      entry_left f t d drafted walks new,
      few,
    ) where
      own_known : ℕ × List ℕ → Known
      own_known x = record { text = x.1; number = record { number = FIRST_NUMBER + x.0 } }

-- a bucket that isn't free was seen
pub looked_seen : (f g : Face) (i found : ℕ) → Looks f g i found → 0 < found → Sees f g i found
looked_seen f g i found looks full = elim looks.change [ inl free ↦ absurd (let z = free.0 in omega arith) | inr sees ↦ sees ]

-- what is so after a look at a free bucket
pub record Free (f g : Face) (t : List ℕ) (d : ℕ) (drafted : Bool) : Type 0 where
  pub same : g ≡ f
  pub new : number_in f.knows t ≡ None
  pub room : f.used < f.room

pub looked_free : (f g : Face) (n i found : ℕ) (t : List ℕ) (d : ℕ) (drafted : Bool) → Looks f g i found → found ≤ 0 → Walks f t d drafted → f.entries ≡ n → i ≡ further n t d → Free f g t d drafted
looked_free f g n i found t d drafted looks none walks accounts way = elim looks.change [
  | inl free ↦
      let new : number_in f.knows t ≡ None = looks.unknown free.0 t d (way ∙ ap (λ m. further m t d) (sym accounts)) walks.passed in
      record { same = free.1; new = new; room = entry_left f t d drafted walks new }
  | inr sees ↦ absurd (let s = sees.1 in omega arith)
]

-- two steps, one after another
pub two_steps : (a b c : Me (Unit {0}) View) (P Q R : Face → Face → Type 0) → Steps a b P → Steps b c Q → R (own a.0) (own c.0) → Steps a c R
two_steps a b c P Q R one two told = record { slots = two.slots ∙ one.slots; faces = two.faces ∙ ap (λ fs. with_first fs (own c.0)) one.faces ∙ first_twice a.0.faces (own b.0) (own c.0); tells = told }

-- a face that has only seen and drafted
pub record Kin (f g : Face) : Type 0 where
  pub same : SameAccount f g
  pub used : g.used ≡ f.used
  pub knows : g.knows ≡ f.knows

-- a face that has seen
pub kin_seen : (f g : Face) (i found : ℕ) → Sees f g i found → Kin f g
kin_seen f g i found sees = record {
  same = record { entries = ap (λ (x : Face). x.entries) sees.5; first = ap (λ (x : Face). x.first) sees.5; room = ap (λ (x : Face). x.room) sees.5 };
  used = ap (λ (x : Face). x.used) sees.5;
  knows = ap (λ (x : Face). x.knows) sees.5;
}

-- a face that looked at a free bucket, drafted, and saw who was first
pub kin_drafted : (f g h k : Face) (n i found at : ℕ) (t : List ℕ) (d : ℕ) (drafted : Bool) → Looks f g i found → found ≤ 0 → Walks f t d drafted → f.entries ≡ n → i ≡ further n t d → Drafts g h (words_to_end t) → Sees h k i at → Kin f k
kin_drafted f g h k n i found at t d drafted looks none walks accounts way drafts sees =
    let free = looked_free f g n i found t d drafted looks none walks accounts way in
    let one : Drafts f h (words_to_end t) = subst (λ (x : Face). Drafts x h (words_to_end t)) free.same drafts in
    let two = kin_seen h k i at sees in
    record {
      same = record { entries = two.same.entries ∙ one.same.entries; first = two.same.first ∙ one.same.first; room = two.same.room ∙ one.same.room };
      used = two.used ∙ one.used;
      knows = two.knows ∙ one.knows;
    }

-- what a comparison gives, seen from a face before it
pub compared_gives : (f m g : Face) (t : List ℕ) (d : ℕ) (drafted : Bool) (r : Round) → Kin f m → Compares m g t d drafted r → Gives f g t d r
compared_gives f m g t d drafted (Found e) kin told = (
  record {
    same = record { entries = told.0.same.entries ∙ kin.same.entries; first = told.0.same.first ∙ kin.same.first; room = told.0.same.room ∙ kin.same.room };
    adds = subst (λ ks. Adds ks t record { number = FIRST_NUMBER + e } g.knows) kin.knows told.0.adds;
    names = told.0.names;
    used_up = told.0.used_up;
    publishes = rw (← kin.used, ← kin.knows) told.0.publishes;
    draft = told.0.draft;
  },
  told.1 ∙ kin.used,
  subst (λ m. e < m) kin.same.entries told.2,
  subst (λ m. d ≤ m) kin.same.entries told.3,
)
compared_gives f m g t d drafted Made kin told = absurd told
compared_gives f m g t d drafted (Other still) kin told = record {
  same = record { entries = told.0.same.entries ∙ kin.same.entries; first = told.0.same.first ∙ kin.same.first; room = told.0.same.room ∙ kin.same.room };
  used = told.0.used ∙ kin.used;
  knows = told.0.knows ∙ kin.knows;
  walks = subst (λ b. Walks g t (d + 1) b) (sym told.1) told.0.walks;
  few = subst (λ m. d + 1 ≤ m + 1) kin.same.entries told.0.few;
}

-- three steps, one after another
pub three_steps : (a b c d : Me (Unit {0}) View) (P Q R T : Face → Face → Type 0) → Steps a b P → Steps b c Q → Steps c d R → T (own a.0) (own d.0) → Steps a d T
three_steps a b c d P Q R T one two three told = record {
  slots = three.slots ∙ two.slots ∙ one.slots;
  faces =
      three.faces ∙ ap (λ fs. with_first fs (own d.0)) (two.faces ∙ ap (λ fs. with_first fs (own c.0)) one.faces ∙ first_twice a.0.faces (own b.0) (own c.0)) ∙ first_twice a.0.faces (own c.0) (own d.0);
  tells = told;
}

-- a text is published
pub published_now : (f g : Face) (i found : ℕ) → Publishes f g i found → found ≡ 0 → (g ≡ published_by f) × Listed g.entries g.knows
published_now f g i found publishes free = elim publishes [ inl made_it ↦ (made_it.1, made_it.2) | inr sees ↦ absurd (let s = sees.1 in omega arith) ]

pub published_else : (f g : Face) (i found : ℕ) → Publishes f g i found → (found ≡ 0 → ⊥) → Sees f g i found
published_else f g i found publishes full = elim publishes [ inl made_it ↦ absurd (full made_it.0) | inr sees ↦ sees ]

-- a look-up at a free bucket, with its draft
pub drafted_walks : (f g h : Face) (n i found : ℕ) (t : List ℕ) (d : ℕ) (drafted : Bool) → Looks f g i found → found ≤ 0 → Walks f t d drafted → f.entries ≡ n → i ≡ further n t d → Drafts g h (words_to_end t) → Walks h t d true × (h.entries ≡ n)
drafted_walks f g h n i found t d drafted looks none walks accounts way drafts =
    let free = looked_free f g n i found t d drafted looks none walks accounts way in
    let at_f : Drafts f h (words_to_end t) = subst (λ (x : Face). Drafts x h (words_to_end t)) free.same drafts in
    (walks_drafted f h t d drafted walks free.room at_f, at_f.same.entries ∙ accounts)

-- as few buckets were passed as there are entries
pub looked_few : (f g : Face) (n i found : ℕ) (t : List ℕ) (d : ℕ) (drafted : Bool) → Looks f g i found → Walks f t d drafted → f.entries ≡ n → d ≤ 2 * n → d ≤ n
looked_few f g n i found t d drafted looks walks accounts within =
    subst (λ m. d ≤ m) accounts (looks.few t d (subst (λ m. d ≤ 2 * m) (sym accounts) within) walks.passed)

-- and with its text published
pub published_walks : (f g h k : Face) (n i found at : ℕ) (t : List ℕ) (d : ℕ) (drafted : Bool) → Looks f g i found → found ≤ 0 → Walks f t d drafted → f.entries ≡ n → i ≡ further n t d → Drafts g h (words_to_end t)
    → Publishes h k i at → at ≡ 0 → d ≤ 2 * n → Gives f k t d Made
published_walks f g h k n i found at t d drafted looks none walks accounts way drafts publishes free_yet within =
    let free = looked_free f g n i found t d drafted looks none walks accounts way in
    let at_f : Drafts f h (words_to_end t) = subst (λ (x : Face). Drafts x h (words_to_end t)) free.same drafts in
    let now = published_now h k i at publishes free_yet in
    made f h k t d drafted walks free.new at_f now.0 now.1 (subst (λ m. d ≤ m) (sym accounts) (looked_few f g n i found t d drafted looks walks accounts within))

-- a step further on the way
pub further_on : (a b c : Me (Unit {0}) View) (t : List ℕ) (d : ℕ) (drafted still : Bool) → Steps a b (λ f g. OnTheWay f g t d drafted) → Steps b c (λ f g. GoesOn f g t (d + 1) still) → Steps a c (λ f g. OnTheWay f g t (d + 1) still)
further_on a b c t d drafted still one two = record {
  slots = two.slots ∙ one.slots;
  faces = two.faces ∙ ap (λ fs. with_first fs (own c.0)) one.faces ∙ first_twice a.0.faces (own b.0) (own c.0);
  tells = record {
    same = record { entries = two.tells.same.entries ∙ one.tells.same.entries; first = two.tells.same.first ∙ one.tells.same.first; room = two.tells.same.room ∙ one.tells.same.room };
    used = two.tells.used ∙ one.tells.used;
    knows = two.tells.knows ∙ one.tells.knows;
    walks = two.tells.walks;
  };
}

-- the end of a look-up, seen from its start
pub ends_at : (a b c : Me (Unit {0}) View) (t : List ℕ) (d number more : ℕ) (drafted : Bool) → Steps a b (λ f g. OnTheWay f g t d drafted) → Steps b c (λ f g. Ends f g t number × (g.used ≡ f.used + more))
    → Steps a c (λ f g. Ends f g t number × (g.used ≡ f.used + more))
ends_at a b c t d number more drafted one two = record {
  slots = two.slots ∙ one.slots;
  faces = two.faces ∙ ap (λ fs. with_first fs (own c.0)) one.faces ∙ first_twice a.0.faces (own b.0) (own c.0);
  tells = (
    record {
      same = record { entries = two.tells.0.same.entries ∙ one.tells.same.entries; first = two.tells.0.same.first ∙ one.tells.same.first; room = two.tells.0.same.room ∙ one.tells.same.room };
      adds = subst (λ ks. Adds ks t record { number = number } (own c.0).knows) one.tells.knows two.tells.0.adds;
      names = two.tells.0.names;
      used_up = two.tells.0.used_up;
      publishes = rw (← one.tells.used, ← one.tells.knows) two.tells.0.publishes;
      draft = two.tells.0.draft;
    },
    two.tells.1 ∙ ap (λ u. u + more) one.tells.used,
  );
}

-- a look-up at its start
pub at_start : (a : Me (Unit {0}) View) (t : List ℕ) → IsTrue (has_first a.0.faces) → Walks (own a.0) t 0 false → Steps a a (λ f g. OnTheWay f g t 0 false)
at_start a t first walks = record {
  slots = refl;
  faces = same_first a.0.faces first;
  tells = record { same = record { entries = refl; first = refl; room = refl }; used = refl; knows = refl; walks = walks };
}

-- a first face is left
pub first_left : (fs : List Face) (f : Face) → IsTrue (has_first (with_first fs f))
first_left [] f = refl
first_left (x ∷ fs) f = refl

-- the text of `n`, which is known and isn't a built-in name's place
pub known_text : (ks : List Known) (n : ℕ) → IsSome (text_by ks n) → built_in_at n ≡ None → (t : List ℕ) × (text_in ks n ≡ Some t)
known_text ks n known none = elim (option_cases (text_in ks n)) [
  | inl absent ↦ absurd (false≢true (rw (none, absent) at known))
  | inr found ↦ found
]

-- it is a name
pub text_is_name : (ks : List Known) (n : ℕ) (t : List ℕ) → AreNames ks → built_in_at n ≡ None → text_in ks n ≡ Some t → IsTrue (is_text t)
text_is_name ks n t names none e = names.texts t n (names.forth t n (rw none e))

-- words of a name are held by themselves
pub held_words : (ws t : List ℕ) → IsTrue (is_text t) → ws ≡ words_of name_words t → (ws ≡ words_of name_words (bytes_of ws)) × (bytes_of ws ≡ t)
held_words ws t name e =
    let text : bytes_of ws ≡ t = ap bytes_of e ∙ words_hold t name in
    (e ∙ ap (words_of name_words) (sym text), text)

-- the words that were read of a known number are its name's
pub record ReadName (views : List View) (n : ℕ) (ws : List ℕ) : Type 0 where
  pub held : ws ≡ words_of name_words (bytes_of ws)
  pub name : IsTrue (is_text (bytes_of ws))
  pub text : text_by (face_in views).knows n ≡ Some (bytes_of ws)

pub read_name : (views taken : List View) (v : View) (n e : ℕ) (ws : List ℕ) → taken ≡ views → taken ≡ v ∷ [] → IsSome (text_by (face_in views).knows n) → built_in_at n ≡ None → Listed (face_in views).entries (face_in views).knows
    → e ≡ n - FIRST_NUMBER → ((t : List ℕ) → text_in (own v).knows (FIRST_NUMBER + e) ≡ Some t → ws ≡ words_of name_words t) → ReadName views n ws
read_name views taken v n e ws was one known none listed place read =
    let found = known_text (face_in views).knows n known none in
    let face : face_in views ≡ own v = ap face_in (sym was ∙ one) in
    let from : FIRST_NUMBER ≤ n = (listed.entries found.0 n found.1).0 in
    let number : n ≡ FIRST_NUMBER + e = omega arith in
    let here : text_in (own v).knows (FIRST_NUMBER + e) ≡ Some found.0 = subst (λ (f : Face). text_in f.knows (FIRST_NUMBER + e) ≡ Some found.0) face (subst (λ m. text_in (face_in views).knows m ≡ Some found.0) number found.1) in
    let name = text_is_name (face_in views).knows n found.0 listed.names none found.1 in
    let held = held_words ws found.0 name (read found.0 here) in
    record {
      held = held.0;
      name = rw held.1 name;
      text = rw none (found.1 ∙ ap (λ t. Some t) (sym held.1));
    }
