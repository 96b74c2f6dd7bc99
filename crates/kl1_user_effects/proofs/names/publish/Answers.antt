use Rattle.kl1_user_effects.proofs.Words.{List, ℕ, ◌+◌, ◌++◌, ◌∷◌, [], length, sym, ap, ◌∙◌, subst, arith, take, length_push, take_all, CellName, Known, HasRoom, Adds, still_known, with_text, texts_of, AreSmall, AreNumbersOf}
use Rattle.std.proofs.Common.{Some}
use Rattle.kl1_user_effects.proofs.KnownTexts.{texts_added, next_take, next_text}
use Rattle.kl1_user_effects.proofs.Publishing.{published_none, fits_less, numbered_more, small_more, has_room, keeps_same, keeps_then, adds_to}
use Rattle.kl1_user_effects.proofs.names.publish.Goals as goal

pub loop-text-init : goal.loop-text-init
loop-text-init g c = record {
  keeps = keeps_same g.A.AtomSource.is_of g.A.AtomSource.place g.A.AtomSource.knows g.A.AtomSource.published c.args.names.now c.args.seat.now c.requires.of;
  knows = c.requires.knows;
  published = published_none c.args.known.now.names c.args.texts.now c.args.row.now.items c.requires.small c.requires.empty;
  count = ap length c.requires.empty;
  room = omega (arith, c.requires.room);
  row_room = c.requires.row_room;
}

pub intern-number-requires-clause-room : goal.intern-number-requires-clause-room
intern-number-requires-clause-room g c =
    let i = c.loop-text.invariant in
    let place = g.A.AtomSource.place in
    subst (λ (p : (ℕ × ℕ) × ℕ). HasRoom p.0.1 (g.A.AtomSource.knows c.loop-text.seat) c.text-item.result) (sym i.keeps.stays)
    (subst (λ (ks : List Known). HasRoom (place c.args.seat.now).0.1 ks c.text-item.result) (sym i.knows)
    (has_room (place c.args.seat.now).0.1 c.args.known.now.names c.args.texts.now c.loop-text.text-index c.loop-text.known.names c.loop-text.row.items c.text-item.result c.loop-text-test.true c.text-item.is c.requires.few i.published))

pub loop-text-preserved : goal.loop-text-preserved
loop-text-preserved g c =
    let i = c.loop-text.invariant in
    let e = c.intern-number.ensures in
    let texts = c.args.texts.now in
    let at = c.loop-text.text-index in
    let t = c.text-item.result in
    let now = c.loop-text.known.names in
    let new = c.learn.new.self.names in
    let row = c.loop-text.row.items in
    let name = c.of_number.result in
    let more = adds_to g.A.AtomSource.knows c.loop-text.seat c.intern-number.new.seat now new t c.intern-number.result i.knows c.learn.ensures.names e.adds in
    let adds : Adds now t c.intern-number.result new = more.1 in
    let R : List CellName → List (List ℕ) → Type 0 = λ r ts. AreNumbersOf new ts r in
    record {
      keeps =
          keeps_then g.A.AtomSource.is_of g.A.AtomSource.place g.A.AtomSource.knows g.A.AtomSource.published c.args.names.now c.loop-text.names c.intern-number.new.self c.args.seat.now c.loop-text.seat c.intern-number.new.seat i.keeps
          (record { of = e.of; stays = e.place; others = e.others; grows = still_known _ t c.intern-number.result _ e.adds; publishes = e.publishes });
      knows = more.0;
      published = record {
        texts_are = ap texts_of adds.known ∙ texts_added now t c.intern-number.result ∙ ap (λ (l : List (List ℕ)). with_text l t) i.published.texts_are ∙ sym (next_text (texts_of c.args.known.now.names) texts at t c.loop-text-test.true c.text-item.is);
        numbered =
            subst (λ r. R r (take (at + 1) texts)) (sym c.push_reserved.ensures.items)
            (subst (R (row ++ name ∷ [])) (sym (next_take texts at t c.loop-text-test.true c.text-item.is))
            (numbered_more now new (take at texts) row t name (still_known now t c.intern-number.result new adds) (adds.number ∙ ap (λ n. Some n) (sym c.of_number.ensures)) i.published.numbered));
        small = subst AreSmall (sym adds.known) (small_more now t c.intern-number.result (omega arith) i.published.small);
        grows = λ u n q. still_known now t c.intern-number.result new adds u n (i.published.grows u n q);
      };
      count = ap length c.push_reserved.ensures.items ∙ length_push row name ∙ ap (λ (n : ℕ). n + 1) i.count;
      room = omega (arith, c.learn.ensures.room, i.room);
      row_room = omega (arith, c.push_reserved.ensures.capacity, i.row_room);
    }

pub returns-clause-row : goal.returns-clause-row
returns-clause-row g c = subst (λ (ts : List (List ℕ)). AreNumbersOf c.loop-text.known.names ts c.loop-text.row.items) (take_all c.loop-text.text-index c.args.texts.now c.loop-text-test.false) c.loop-text.invariant.published.numbered

pub returns-clause-fits : goal.returns-clause-fits
returns-clause-fits g c = fits_less c.args.known.now.names c.loop-text.known.names c.loop-text.invariant.published.grows
