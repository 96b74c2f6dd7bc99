-- A look-up that publishes nothing, bucket by bucket.
use Rattle.std.proofs.Common.{◌≡◌, ◌≢◌, ℕ, ◌+◌, ◌-◌, ◌*◌, ◌<◌, ◌≤◌, ◌↔◌, List, length, Some, IsTrue, Bool, false, refl, sym, ap, ◌∙◌, subst, inl, inr, arith}
use Rattle.std.proofs.lemmas.Bool.{false≢true}
use Rattle.kl1_model.specs.declared.limits.TheConstants.{FIRST_NUMBER}
use Rattle.kl1_model.specs.Text.{is_text}
use Rattle.atomic_table.specs.Table.{Me}
use Rattle.kl1_atoms.specs.declared.face.Face.{Face}
use Rattle.kl1_atoms.specs.declared.face.Heard.{Heard}
use Rattle.kl1_atoms.specs.declared.face.View.{View}
use Rattle.kl1_atoms.specs.declared.round.Round.TheVariants.{Found as FoundIn}
use Rattle.kl1_atoms.specs.declared.sought.Glance.TheVariants.{Free, Other}
use Rattle.kl1_atoms.specs.declared.sought.Sought.TheVariants.{Found}
use Rattle.kl1_atoms.specs.Names.{number_by, added}
use Rattle.kl1_atoms.specs.Rounds.{Starts, Walks, Ends, Compares}
use Rattle.kl1_atoms.specs.Way.{further}
use Rattle.kl1_atoms.specs.Plays.{own, with_first, In, Passed, heard_more, Looks, Steps, learned, Learns}
use Rattle.kl1_atoms.specs.Seeking.{Saw, Glances, Finds}
use Rattle.kl1_atoms.specs.Knowing.{publishes_none}
use Rattle.kl1_atoms.proofs.Playing.{no_fewer}
use Rattle.kl1_atoms.proofs.Rounding.{passed_more, looked_seen, first_twice}

-- a face that stays
stays_seen : (f g : Face) → g ≡ f → Saw f g
stays_seen f g same = record {
  same = record { entries = ap (λ (x : Face). x.entries) same; first = ap (λ (x : Face). x.first) same; room = ap (λ (x : Face). x.room) same };
  used = ap (λ (x : Face). x.used) same;
  knows = ap (λ (x : Face). x.knows) same;
  draft = ap (λ (x : Face). x.draft) same;
}

-- a face with one more sighting
more_seen : (f g : Face) (h : Heard) → g ≡ heard_more f h → Saw f g
more_seen f g h more = record {
  same = record { entries = ap (λ (x : Face). x.entries) more; first = ap (λ (x : Face). x.first) more; room = ap (λ (x : Face). x.room) more };
  used = ap (λ (x : Face). x.used) more;
  knows = ap (λ (x : Face). x.knows) more;
  draft = ap (λ (x : Face). x.draft) more;
}

-- what was passed stays so
passed_on : (f g : Face) (h : Heard) (t : List ℕ) (d : ℕ) → g ≡ heard_more f h → Passed f t d → Passed g t d
passed_on f g h t d more passed = subst (λ (x : Face). Passed x t d) (sym more) (λ c below. let p = passed c below in (p.0, inr p.1, p.2, p.3))

-- a glance at a free bucket
pub glance_free : (before after : Me (Unit {0}) View) (t : List ℕ) (n d i found : ℕ) → Steps before after (λ f g. Looks f g i found) → found ≡ 0 → (own before.0).entries ≡ n → i ≡ further n t d
    → d ≤ 2 * n → Passed (own before.0) t d → Steps before after (λ f g. Glances f g t i d Free)
glance_free before after t n d i found steps free accounts way few passed = record {
  slots = steps.slots;
  faces = steps.faces;
  tells = elim steps.tells.change [
    | inl stays ↦ (
      stays_seen (own before.0) (own after.0) stays.1,
      subst (λ (x : Face). Passed x t d) (sym stays.1) passed,
      steps.tells.few t d (subst (λ m. d ≤ 2 * m) (sym accounts) few) passed,
      steps.tells.unknown free t d (way ∙ ap (λ m. further m t d) (sym accounts)) passed,
    )
    | inr sees ↦ absurd (let s = sees.1 in omega arith)
  ];
}

-- a glance at another text
pub glance_other : (before mid after : Me (Unit {0}) View) (t : List ℕ) (n d i found : ℕ) (has : Bool) → Steps before mid (λ f g. Looks f g i found) → (found ≡ 0 → ⊥) → (own before.0).entries ≡ n → i ≡ further n t d
    → d ≤ 2 * n → Passed (own before.0) t d → after ≡ mid
    → ((h : Heard) → In (own mid.0).heard h → h.entry ≡ found - 1 → IsTrue (is_text h.text) → IsTrue has ↔ (h.text ≡ t)) → has ≡ false → Steps before after (λ f g. Glances f g t i d Other)
glance_other before mid after t n d i found has steps full accounts way few passed same is differs =
    let sees = looked_seen (own before.0) (own mid.0) i found steps.tells (omega arith) in
    let here : In (own mid.0).heard sees.0 = subst (λ (x : Face). In x.heard sees.0) (sym sees.5) (inl refl) in
    let other : sees.0.text ≢ t = λ e. false≢true (sym differs ∙ (is sees.0 here (let s = sees.1 in omega arith) sees.4).1 e) in
    let was = more_seen (own before.0) (own mid.0) sees.0 sees.5 in
    subst (λ (m : Me (Unit {0}) View). Steps before m (λ f g. Glances f g t i d Other)) (sym same)
    (let told : Steps before mid (λ f g. Glances f g t i d Other) = record {
      slots = steps.slots;
      faces = steps.faces;
      tells = (
        was,
        passed_more (own mid.0) t n d i sees.0 (passed_on (own before.0) (own mid.0) sees.0 t d sees.5 passed) here sees.2 way (was.same.entries ∙ accounts) other,
        steps.tells.few t d (subst (λ m. d ≤ 2 * m) (sym accounts) few) passed,
      );
    } in told)

-- a text that was found is known from then on
pub found_ends : (a b c : Me (Unit {0}) View) (t : List ℕ) (i e number more : ℕ) → Steps a b (λ f g. Finds f g t (Found i e)) → Steps b c (λ f g. Learns f g i) → Starts (own a.0) t → number ≡ FIRST_NUMBER + e → more ≡ 0
    → Steps a c (λ f g. Ends f g t number × (g.used ≡ f.used + more))
found_ends a b c t i e number more found learns starts is none =
    let saw = found.tells.0 in
    let seen = found.tells.1 in
    let change : own c.0 ≡ learned (own b.0) seen.sighting = learns.tells.change seen.sighting seen.seen seen.bucket in
    let entry : FIRST_NUMBER + seen.sighting.entry ≡ number = ap (λ x. FIRST_NUMBER + x) seen.entry ∙ sym is in
    let knows : (own c.0).knows ≡ added (own a.0).knows t record { number = number } =
    ap (λ (x : Face). x.knows) change ∙ ap (λ ks. added ks seen.sighting.text record { number = FIRST_NUMBER + seen.sighting.entry }) saw.knows
    ∙ ap (λ u. added (own a.0).knows u record { number = FIRST_NUMBER + seen.sighting.entry }) seen.text ∙ ap (λ m. added (own a.0).knows t record { number = m }) entry
    in
    let used : (own c.0).used ≡ (own a.0).used = ap (λ (x : Face). x.used) change ∙ saw.used in
    let grown : length (own a.0).knows ≤ length (own c.0).knows = subst (λ ks. length (own a.0).knows ≤ length ks) (sym knows) (no_fewer (own a.0).knows t number) in
    record {
      slots = learns.slots ∙ found.slots;
      faces = learns.faces ∙ ap (λ fs. with_first fs (own c.0)) found.faces ∙ first_twice a.0.faces (own b.0) (own c.0);
      tells = (
        record {
          same = record { entries = ap (λ (x : Face). x.entries) change ∙ saw.same.entries; first = ap (λ (x : Face). x.first) change ∙ saw.same.first; room = ap (λ (x : Face). x.room) change ∙ saw.same.room };
          adds = record {
            known = knows;
            number = subst (λ u. number_by (own c.0).knows u ≡ Some number) seen.text (learns.tells.number seen.sighting seen.seen seen.bucket ∙ ap (λ m. Some m) entry);
          };
          names = learns.tells.names;
          used_up = (let u = starts.used_up in omega arith);
          publishes = publishes_none (own a.0).used (own c.0).used (own a.0).knows (own c.0).knows used grown;
          draft = ap (λ (x : Face). x.draft) change;
        },
        (let z : (own a.0).used ≡ (own a.0).used + more = omega arith in used ∙ z),
      );
    }

-- a text that was compared is known from then on
pub learned_ends : (before mid after : Me (Unit {0}) View) (t : List ℕ) (n d i e : ℕ) (drafted : Bool) (h : Heard) → mid ≡ before → Steps mid after (λ f g. Learns f g i) → Walks (own before.0) t d drafted
    → In (own before.0).heard h → h.bucket ≡ i → h.entry ≡ e → h.text ≡ t → (own before.0).entries ≡ n → e < n → d ≤ n → Steps before after (λ f g. Compares f g t d drafted (FoundIn e))
learned_ends before mid after t n d i e drafted h same learns walks is at entry text accounts within few =
    let steps : Steps before after (λ f g. Learns f g i) = subst (λ (m : Me (Unit {0}) View). Steps m after (λ f g. Learns f g i)) same learns in
    let change : own after.0 ≡ learned (own before.0) h = steps.tells.change h is at in
    let knows : (own after.0).knows ≡ added (own before.0).knows t record { number = FIRST_NUMBER + e } =
    ap (λ (x : Face). x.knows) change ∙ ap (λ u. added (own before.0).knows u record { number = FIRST_NUMBER + h.entry }) text ∙ ap (λ m. added (own before.0).knows t record { number = FIRST_NUMBER + m }) entry
    in
    let used : (own after.0).used ≡ (own before.0).used = ap (λ (x : Face). x.used) change in
    let grown : length (own before.0).knows ≤ length (own after.0).knows = subst (λ ks. length (own before.0).knows ≤ length ks) (sym knows) (no_fewer (own before.0).knows t (FIRST_NUMBER + e)) in
    record {
      slots = steps.slots;
      faces = steps.faces;
      tells = (
        record {
          same = record { entries = ap (λ (x : Face). x.entries) change; first = ap (λ (x : Face). x.first) change; room = ap (λ (x : Face). x.room) change };
          adds = record { known = knows; number = subst (λ u. number_by (own after.0).knows u ≡ Some (FIRST_NUMBER + e)) text (steps.tells.number h is at ∙ ap (λ m. Some (FIRST_NUMBER + m)) entry) };
          names = steps.tells.names;
          used_up = (let u = walks.used_up in omega arith);
          publishes = publishes_none (own before.0).used (own after.0).used (own before.0).knows (own after.0).knows used grown;
          draft = ap (λ (x : Face). x.draft) change;
        },
        used,
        subst (λ m. e < m) (sym accounts) within,
        subst (λ m. d ≤ m) (sym accounts) few,
      );
    }
