use Rattle.std.proofs.Common.{◌≡◌, ◌<◌, ◌≤◌, List, length, drop, map, get_or, arith, ap, sym, ◌∙◌, subst}
use Rattle.kl1_model.specs.Term.{Term, Terms, more}
use Rattle.kl1_model.specs.code.TermCode.{nodes_of_all}
use Rattle.kl1_clause.specs.Instructions.{IsNamed, code_in}
use Rattle.kl1_clause.specs.declared.instruction.Instruction.{Instruction}
use Rattle.kl1_clause.specs.declared.instruction.Instruction.TheVariants.{Variable}
use Rattle.kl1_match.specs.declared.met.Met.TheVariants.{Agrees, Waits, Clashes}
use Rattle.kl1_match.specs.Spans.{cells_left}
use Rattle.kl1_match.specs.Matching.{MeetsFirst}
use Rattle.kl1_match.proofs.Cells.{cells_there}
use Rattle.kl1_match.proofs.Whole.{named_at}
use Rattle.kl1_match.proofs.Trying.{keeps_of, none_behind, starts_kept, agrees_kept, waits_kept, clashes_kept, terms_wanted_kept, patterns_wanted_kept, accepted_kept, suspended_kept}
use Rattle.kl1_match.proofs.heads.find_match.Goals as goal

pub loop-at-init : goal.loop-at-init
loop-at-init g c =
    let h = c.args.store.now.held in
    record {
      span = c.span_of-span.ensures.within;
      behind = none_behind h c.reserve.new.self.items (c.reserve.ensures.items ∙ c.clear.ensures.items);
      gives = starts_kept g.N.NameValue.built c.args.names.now c.args.clause.now h c.args.goal (keeps_of g.row.KEEP) c.span_of-span.result c.reserve.new.self.items c.clear_places.new.places.items c.args.awaited.now.items
          c.span_of-span.ensures.means (c.reserve.ensures.items ∙ c.clear.ensures.items) c.clear_places.ensures.empty;
      behind_room = omega (arith, c.in_ok-reserve.ensures.ok, c.as_slice-row.ensures.len, c.reserve.ensures.len, c.clear.ensures.len);
      behind_len = omega (arith, c.reserve.ensures.len, c.clear.ensures.len);
      room = λ k. omega (arith, c.in_ok-clear_places.ensures.room k, c.as_slice-row.ensures.len);
      len = omega (arith, c.clear_places.new.places.ok.0, ap length c.clear_places.ensures.empty);
    }

pub returns-then-not-is_left : goal.returns-then-not-is_left
returns-then-not-is_left g c =
    let h = c.args.store.now.held in
    let lt : c.loop-at.at < length c.args.clause.now.patterns.items = omega (arith, c.loop-at-test.true, ap length c.as_slice-row.ensures.value) in
    terms_wanted_kept g.N.NameValue.built c.args.names.now c.args.clause.now h c.args.goal c.loop-at.at (Variable 0) (keeps_of g.row.KEEP) (cells_left h c.loop-at.span c.loop-at.behind.items) (cells_left h c.is_left.new.span c.is_left.new.behind.items) c.loop-at.places.items c.args.awaited.now.items c.loop-at.awaited.items
    lt c.is_left.ensures.same (c.is_left.ensures.none c.if-not-is_left.true) c.loop-at.invariant.gives

pub meet-requires-clause-named : goal.meet-requires-clause-named
meet-requires-clause-named g c =
    let lt : c.loop-at.at < length c.args.clause.now.patterns.items = omega (arith, c.loop-at-test.true, ap length c.as_slice-row.ensures.value) in
    let P : List Instruction → Type 0 = λ l. IsNamed (length c.args.names.now) (get_or l c.loop-at.at (Variable 0)) in
    subst P (sym c.as_slice-row.ensures.value) (named_at c.args.names.now c.args.clause.now c.loop-at.at (Variable 0) c.requires.clause lt)

pub loop-at-preserved-in-Variable : goal.loop-at-preserved-in-Variable
loop-at-preserved-in-Variable g c =
    let h = c.args.store.now.held in
    let i = c.loop-at.invariant in
    let behind = c.is_left.new.behind.items in
    let before = cells_left h c.loop-at.span c.loop-at.behind.items in
    let same = cells_left h c.is_left.new.span behind in
    let now = cells_left h c.take_place.new.span behind in
    let lt : c.loop-at.at < length c.args.clause.now.patterns.items = omega (arith, c.loop-at-test.true, ap length c.as_slice-row.ensures.value) in
    let P : List Instruction → Type 0 = λ l. MeetsFirst g.N.NameValue.built h c.args.names.now (get_or l c.loop-at.at (Variable 0)) (keeps_of g.row.KEEP) same now c.loop-at.places.items c.take_place.new.places.items Agrees in
    let Q : Instruction → Type 0 = λ k. MeetsFirst g.N.NameValue.built h c.args.names.now k (keeps_of g.row.KEEP) same now c.loop-at.places.items c.take_place.new.places.items Agrees in
    record {
      span = c.take_place.ensures.span;
      behind = c.is_left.ensures.behind;
      gives = agrees_kept g.N.NameValue.built c.args.names.now c.args.clause.now h c.args.goal c.loop-at.at (Variable 0) (keeps_of g.row.KEEP) before same now c.loop-at.places.items c.take_place.new.places.items c.args.awaited.now.items c.loop-at.awaited.items
          lt c.is_left.ensures.same i.gives (subst P c.as_slice-row.ensures.value (subst Q (sym c.in-Variable.is) (c.take_place.ensures.takes c.args.names.now behind)));
      behind_room = omega (arith, i.behind_room, c.is_left.ensures.capacity);
      behind_len = omega (arith, i.behind_len, c.is_left.ensures.len);
      room = λ k. omega (arith, i.room k, c.take_place.ensures.capacity);
      len = omega (arith, i.len, c.take_place.ensures.len);
    }

pub loop-at-preserved-in-Agrees : goal.loop-at-preserved-in-Agrees
loop-at-preserved-in-Agrees g c =
    let h = c.args.store.now.held in
    let i = c.loop-at.invariant in
    let before = cells_left h c.loop-at.span c.loop-at.behind.items in
    let same = cells_left h c.is_left.new.span c.is_left.new.behind.items in
    let now = cells_left h c.meet.new.span c.meet.new.behind.items in
    let lt : c.loop-at.at < length c.args.clause.now.patterns.items = omega (arith, c.loop-at-test.true, ap length c.as_slice-row.ensures.value) in
    let P : List Instruction → Type 0 = λ l. MeetsFirst g.N.NameValue.built h c.args.names.now (get_or l c.loop-at.at (Variable 0)) (keeps_of g.row.KEEP) same now c.loop-at.places.items c.meet.new.places.items Agrees in
    record {
      span = c.meet.ensures.span;
      behind = c.meet.ensures.behind;
      gives = agrees_kept g.N.NameValue.built c.args.names.now c.args.clause.now h c.args.goal c.loop-at.at (Variable 0) (keeps_of g.row.KEEP) before same now c.loop-at.places.items c.meet.new.places.items c.args.awaited.now.items c.loop-at.awaited.items
          lt c.is_left.ensures.same i.gives (subst P c.as_slice-row.ensures.value c.in-Agrees.ensures.meets);
      behind_room = omega (arith, i.behind_room, c.is_left.ensures.capacity, c.meet.ensures.behind_capacity);
      behind_len = omega (arith, i.behind_len, c.is_left.ensures.len, c.meet.ensures.behind_len);
      room = λ k. omega (arith, i.room k, c.meet.ensures.capacity);
      len = omega (arith, i.len, c.meet.ensures.len);
    }

pub loop-at-preserved : goal.loop-at-preserved
loop-at-preserved g c =
    let h = c.args.store.now.held in
    let i = c.loop-at.invariant in
    let before = cells_left h c.loop-at.span c.loop-at.behind.items in
    let same = cells_left h c.is_left.new.span c.is_left.new.behind.items in
    let now = cells_left h c.meet.new.span c.meet.new.behind.items in
    let lt : c.loop-at.at < length c.args.clause.now.patterns.items = omega (arith, c.loop-at-test.true, ap length c.as_slice-row.ensures.value) in
    let P : List Instruction → Type 0 = λ l. MeetsFirst g.N.NameValue.built h c.args.names.now (get_or l c.loop-at.at (Variable 0)) (keeps_of g.row.KEEP) same now c.loop-at.places.items c.meet.new.places.items (Waits c.in-Waits.variable) in
    let S : List Instruction → Type 0 = λ l. (texts : List (List _)) (p : Term) (ps : Terms) → map (code_in texts) (drop c.loop-at.at l) ≡ nodes_of_all (more p ps) → map (code_in texts) (drop c.behind_term-at.result l) ≡ nodes_of_all ps in
    record {
      span = c.meet.ensures.span;
      behind = c.meet.ensures.behind;
      gives = waits_kept g.N.NameValue.built c.args.names.now c.args.clause.now h c.args.goal c.loop-at.at c.behind_term-at.result (Variable 0) (keeps_of g.row.KEEP) before same now c.loop-at.places.items c.meet.new.places.items c.args.awaited.now.items c.loop-at.awaited.items c.push.new.self.items c.in-Waits.variable
          lt c.is_left.ensures.same i.gives (subst P c.as_slice-row.ensures.value c.in-Waits.ensures.meets) c.in-Waits.ensures.unbound c.in_ok-push-in-Waits.ensures.items (omega (arith, c.behind_term-at.ensures.below, ap length c.as_slice-row.ensures.value))
          (subst S c.as_slice-row.ensures.value c.behind_term-at.ensures.behind);
      behind_room = omega (arith, i.behind_room, c.is_left.ensures.capacity, c.meet.ensures.behind_capacity);
      behind_len = omega (arith, i.behind_len, c.is_left.ensures.len, c.meet.ensures.behind_len, c.behind_term-at.ensures.above);
      room = λ k. omega (arith, i.room k, c.meet.ensures.capacity);
      len = omega (arith, i.len, c.meet.ensures.len, c.behind_term-at.ensures.above);
    }

pub returns-in-Clashes : goal.returns-in-Clashes
returns-in-Clashes g c =
    let h = c.args.store.now.held in
    let before = cells_left h c.loop-at.span c.loop-at.behind.items in
    let same = cells_left h c.is_left.new.span c.is_left.new.behind.items in
    let now = cells_left h c.meet.new.span c.meet.new.behind.items in
    let lt : c.loop-at.at < length c.args.clause.now.patterns.items = omega (arith, c.loop-at-test.true, ap length c.as_slice-row.ensures.value) in
    let P : List Instruction → Type 0 = λ l. MeetsFirst g.N.NameValue.built h c.args.names.now (get_or l c.loop-at.at (Variable 0)) (keeps_of g.row.KEEP) same now c.loop-at.places.items c.meet.new.places.items Clashes in
    clashes_kept g.N.NameValue.built c.args.names.now c.args.clause.now h c.args.goal c.loop-at.at (Variable 0) (keeps_of g.row.KEEP) before same now c.loop-at.places.items c.meet.new.places.items c.args.awaited.now.items c.loop-at.awaited.items
    lt c.is_left.ensures.same c.loop-at.invariant.gives (subst P c.as_slice-row.ensures.value c.in-Clashes.ensures.meets)

pub returns-then-is_left : goal.returns-then-is_left
returns-then-is_left g c =
    let h = c.args.store.now.held in
    let le : length c.args.clause.now.patterns.items ≤ c.loop-at.at = omega (arith, c.loop-at-test.false, ap length c.as_slice-row.ensures.value) in
    patterns_wanted_kept g.N.NameValue.built c.args.names.now c.args.clause.now h c.args.goal c.loop-at.at (keeps_of g.row.KEEP) (cells_left h c.loop-at.span c.loop-at.behind.items) (cells_left h c.is_left-2.new.span c.is_left-2.new.behind.items) c.loop-at.places.items c.args.awaited.now.items c.loop-at.awaited.items
    le c.is_left-2.ensures.same (cells_there h c.is_left-2.new.span c.is_left-2.new.behind.items c.is_left-2.ensures.span (c.is_left-2.ensures.some c.if-is_left.true)) c.loop-at.invariant.gives

pub returns-then-len-before : goal.returns-then-len-before
returns-then-len-before g c =
    let h = c.args.store.now.held in
    let le : length c.args.clause.now.patterns.items ≤ c.loop-at.at = omega (arith, c.loop-at-test.false, ap length c.as_slice-row.ensures.value) in
    let same : length c.loop-at.awaited.items ≡ length c.args.awaited.now.items = omega (arith, c.loop-at.awaited.ok.0, c.args.awaited.now.ok.0, c.len-before.ensures, c.len.ensures, c.if-len-before.true) in
    accepted_kept g.N.NameValue.built c.args.names.now c.args.clause.now h c.args.goal c.loop-at.at (keeps_of g.row.KEEP) (cells_left h c.loop-at.span c.loop-at.behind.items) (cells_left h c.is_left-2.new.span c.is_left-2.new.behind.items) c.loop-at.places.items c.args.awaited.now.items c.loop-at.awaited.items
    le c.is_left-2.ensures.same (c.is_left-2.ensures.none c.if-is_left.false) same c.loop-at.invariant.gives

pub returns : goal.returns
returns g c =
    let h = c.args.store.now.held in
    let le : length c.args.clause.now.patterns.items ≤ c.loop-at.at = omega (arith, c.loop-at-test.false, ap length c.as_slice-row.ensures.value) in
    let more_named : length c.loop-at.awaited.items ≡ length c.args.awaited.now.items → ⊥ = λ e. c.if-len-before.false (omega (arith, c.loop-at.awaited.ok.0, c.args.awaited.now.ok.0, c.len-before.ensures, c.len.ensures, e)) in
    suspended_kept g.N.NameValue.built c.args.names.now c.args.clause.now h c.args.goal c.loop-at.at (keeps_of g.row.KEEP) (cells_left h c.loop-at.span c.loop-at.behind.items) (cells_left h c.is_left-2.new.span c.is_left-2.new.behind.items) c.loop-at.places.items c.args.awaited.now.items c.loop-at.awaited.items
    le c.is_left-2.ensures.same (c.is_left-2.ensures.none c.if-is_left.false) more_named c.loop-at.invariant.gives
