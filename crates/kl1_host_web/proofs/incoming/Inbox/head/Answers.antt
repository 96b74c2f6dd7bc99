use Rattle.std.proofs.Common.{ℕ, List, subst, arith}
use Rattle.std.specs.Io.KnownBytes.{prepend_known}
use Rattle.kl1_host_door.specs.declared.refusal.Refusal.TheVariants.{LargeHead}
use Rattle.kl1_host_door.specs.declared.head.Reading.{Reading}
use Rattle.kl1_host_door.specs.declared.head.Reading.TheVariants.{Whole}
use Rattle.kl1_host_door.specs.Heads.{IsReading}
use Rattle.kl1_host_web.proofs.Coming.{head_comes, no_head}
use Rattle.kl1_host_web.proofs.incoming.Inbox.head.Goals as goal

pub returns-then-len-gt-MOST_HEAD_BYTES : goal.returns-then-len-gt-MOST_HEAD_BYTES
returns-then-len-gt-MOST_HEAD_BYTES g c =
    let kept : List ℕ = c.loop.self.kept.items in
    let r : IsReading kept (Whole c.in-Whole.head c.in-Whole.len) = subst (λ (x : Reading). IsReading kept x) c.in-Whole.is (subst (λ (b : List ℕ). IsReading b c.in_ok-head.field-0) c.as_slice.ensures.value c.in_ok-head.ensures) in
    no_head (prepend_known c.args.self.now.kept.items (g.S.Source.remaining c.args.source.now)) (g.S.Source.remaining c.loop.source) kept LargeHead c.loop.invariant (omega (arith, r.0))

pub returns-in-Whole : goal.returns-in-Whole
returns-in-Whole g c =
    let kept : List ℕ = c.loop.self.kept.items in
    let r : IsReading kept (Whole c.in-Whole.head c.in-Whole.len) = subst (λ (x : Reading). IsReading kept x) c.in-Whole.is (subst (λ (b : List ℕ). IsReading b c.in_ok-head.field-0) c.as_slice.ensures.value c.in_ok-head.ensures) in
    head_comes (prepend_known c.args.self.now.kept.items (g.S.Source.remaining c.args.source.now)) (g.S.Source.remaining c.loop.source) kept c.take.new.self.kept.items c.in-Whole.len c.in-Whole.head c.loop.invariant r.0 r.1 c.if-len-gt-MOST_HEAD_BYTES.false c.in_ok-_head-in-Whole.ensures.rest
