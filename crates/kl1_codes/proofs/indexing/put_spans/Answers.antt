use Rattle.std.proofs.Common.{◌≡◌, ℕ, ◌-◌, ◌<◌, suc, length, sym, ap, subst, ◌∙◌, arith}
use Rattle.kl1_clause.specs.declared.compiled_clause.CompiledClause.{CompiledClause}
use Rattle.kl1_clause.specs.Instructions.{IsPlaced}
use Rattle.kl1_codes.specs.declared.span.Span.{Span}
use Rattle.kl1_codes.specs.Numbered.{own_names}
use Rattle.kl1_codes.specs.Indexes.{Rows, span_at, end_by, IsInOrder, Spans}
use Rattle.kl1_codes.proofs.Rows.{none_in_order}
use Rattle.kl1_codes.proofs.Steps.{IsCompiledAt, compiled_count, compiled_at, no_spans, one_more}
use Rattle.kl1_codes.proofs.indexing.put_spans.Goals as goal

pub loop-start-init : goal.loop-start-init
loop-start-init c =
    let names = own_names c.args.code.now in
    let same : length c.clauses-clauses.result.now ≡ length c.args.code.now.clauses = compiled_count names c.clauses-clauses.result.now c.args.code.now.clauses c.clauses-clauses.ensures in
    let empty : length c.args.index.now.items ≡ 0 = ap length c.requires.empty in
    let room = c.requires.room in
    let P : Rows → Type 0 = λ rows. Spans c.args.row.now names c.args.code.now.clauses (length c.clauses-clauses.result.now) rows in
    record {
      below = omega arith;
      order = subst IsInOrder (sym c.requires.empty) none_in_order;
      spans = subst P (sym c.requires.empty) (no_spans c.args.row.now names c.args.code.now.clauses (length c.clauses-clauses.result.now) (omega arith));
      used = omega arith;
      room = omega arith;
    }

pub key_of-key-requires : goal.key_of-key-requires
key_of-key-requires c =
    let lt : c.loop-start.start - 1 < length c.clauses-clauses.result.now = omega (arith, c.loop-start.invariant.below) in
    let at = compiled_at (own_names c.args.code.now) c.clauses-clauses.result.now c.args.code.now.clauses (c.loop-start.start - 1) c.index-clauses-start.result c.clauses-clauses.ensures lt in
    let P : CompiledClause → Type 0 = λ x. IsPlaced (length (own_names c.args.code.now)) x.name in
    let Q : ℕ → Type 0 = λ n. IsPlaced n c.index-clauses-start.result.name in
    subst Q (sym c.requires.named) (subst P (sym c.index-clauses-start.is) at.is.placed)

pub loop-start-preserved : goal.loop-start-preserved
loop-start-preserved c =
    let names = own_names c.args.code.now in
    let place = c.loop-start.start - 1 in
    let same : length c.clauses-clauses.result.now ≡ length c.args.code.now.clauses = compiled_count names c.clauses-clauses.result.now c.args.code.now.clauses c.clauses-clauses.ensures in
    let below = c.loop-start.invariant.below in
    let used = c.loop-start.invariant.used in
    let room = c.loop-start.invariant.room in
    let lt : place < length c.clauses-clauses.result.now = omega arith in
    let P : CompiledClause → Type 0 = λ x. IsCompiledAt names x c.args.code.now.clauses place in
    let at = subst P (sym c.index-clauses-start.is) (compiled_at names c.clauses-clauses.result.now c.args.code.now.clauses place c.index-clauses-start.result c.clauses-clauses.ensures lt) in
    let known : c.span_of.result ≡ span_at c.loop-start.index.items c.key_of-key.result = c.span_of.ensures ∙ ap (λ (l : Rows). span_at l c.key_of-key.result) c.deref.ensures.value in
    let before : c.loop-start.start ≡ suc place = omega arith in
    let Q : ℕ → Type 0 = λ n. Spans c.args.row.now names c.args.code.now.clauses n c.loop-start.index.items in
    record {
      below = omega arith;
      order = c.put_span.ensures.order;
      spans = one_more c.args.row.now names c.args.code.now.clauses place c.index-clauses-start.result c.key_of-key.result c.loop-start.index.items c.put_span.new.index.items (record { start = place; end = c.end_of-end.result }) (omega arith) at c.key_of-key.ensures
          (ap (λ n. let s : Span = record { start = place; end = n } in s) (c.end_of-end.ensures ∙ ap (end_by place) known)) (subst Q before c.loop-start.invariant.spans) c.put_span.ensures.puts;
      used = omega (arith, c.put_span.ensures.len);
      room = omega (arith, c.put_span.ensures.room);
    }

pub returns : goal.returns
returns c =
    let same : length c.clauses-clauses.result.now ≡ length c.args.code.now.clauses = compiled_count (own_names c.args.code.now) c.clauses-clauses.result.now c.args.code.now.clauses c.clauses-clauses.ensures in
    let zero : c.loop-start.start ≡ 0 = omega arith in
    let Q : ℕ → Type 0 = λ n. Spans c.args.row.now (own_names c.args.code.now) c.args.code.now.clauses n c.loop-start.index.items in
    let room = c.loop-start.invariant.room in
    record { named = c.requires.named; order = c.loop-start.invariant.order; spans = subst Q zero c.loop-start.invariant.spans; room = omega arith }
