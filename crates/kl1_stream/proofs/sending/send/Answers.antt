use Rattle.std.proofs.Common.{◌≡◌, ◌∙◌, subst}
use Rattle.std.specs.Prelude.{None}
use Rattle.kl1_store.specs.declared.cell.Cell.TheVariants.{Variable, Structure}
use Rattle.kl1_store.specs.declared.unified.Unified.{Unified}
use Rattle.kl1_store.specs.Unification.{UnifiesAs}
use Rattle.kl1_stream.specs.Sendings.{SentAs}
use Rattle.kl1_stream.proofs.Rooms.{spends_back}
use Rattle.kl1_stream.proofs.sending.send.Given as given
use Rattle.kl1_store.specs.Hooks.{Kept}
use Rattle.kl1_stream.proofs.Messages.{parts_in, sent, never_sent, same_hooks}
use Rattle.kl1_stream.proofs.sending.send.Goals as goal

pub build_pair-requires : goal.build_pair-requires
build_pair-requires g c = parts_in c.args.store.now.held c.fresh.new.self.held c.args.message c.in_ok-next.next c.in_ok-next.ensures.ok.0 c.in_ok-next.ensures.ok.1 c.requires.message

pub returns-in-Bound-clause-sent : goal.returns-in-Bound-clause-sent
returns-in-Bound-clause-sent g c =
    (sent g.N.NameValue.built c.args.store.now.held c.fresh.new.self.held c.build_pair.new.self.held c.unify.new.store.held c.args.variable c.args.message c.in_ok-cell.cell c.in_ok-next.next c.of-name.result c.in_ok-unify.field-0
    c.mark-mark.ensures.formed c.requires.within c.requires.unbound c.requires.message c.in_ok-next.ensures.ok c.of-name.ensures c.in_ok-cell.ensures.ok c.in-Bound.is c.in_ok-unify.ensures.ok).0

pub returns-in-Bound-clause-grown : goal.returns-in-Bound-clause-grown
returns-in-Bound-clause-grown g c =
    (sent g.N.NameValue.built c.args.store.now.held c.fresh.new.self.held c.build_pair.new.self.held c.unify.new.store.held c.args.variable c.args.message c.in_ok-cell.cell c.in_ok-next.next c.of-name.result c.in_ok-unify.field-0
    c.mark-mark.ensures.formed c.requires.within c.requires.unbound c.requires.message c.in_ok-next.ensures.ok c.of-name.ensures c.in_ok-cell.ensures.ok c.in-Bound.is c.in_ok-unify.ensures.ok).1

-- nothing was bound, and the store is as it was
taken_back : (g : given.Over) (c : goal.After-back g) → SentAs g.N.NameValue.built c.args.store.now.held c.back.new.self.held c.args.variable c.args.message None
taken_back g c =
    let k : Kept g.row.N.Denot = c.args.store.now in
    let never =
    never_sent g.N.NameValue.built k.held c.fresh.new.self.held c.build_pair.new.self.held c.unify.new.store.held c.args.variable c.args.message c.in_ok-cell.cell c.in_ok-next.next c.of-name.result c.in_ok-unify.field-0
    c.mark-mark.ensures.formed c.requires.within c.requires.unbound c.requires.message c.in_ok-next.ensures.ok c.of-name.ensures c.in_ok-cell.ensures.ok c.in-Clash.is c.in_ok-unify.ensures.ok in
    (c.back.ensures.held k c.mark-mark.ensures.point (record { held = never.1; hooks = same_hooks k.hooks c.unify.new.store.hooks (c.in_ok-unify.ensures.hooks ∙ c.in_ok-cell.ensures.hooks ∙ c.in_ok-next.ensures.hooks) }), never.0)

same_held : (g : given.Over) (c : goal.After-back g) → c.unify.new.store.held ≡ c.build_pair.new.self.held
same_held g c =
    let P : Unified → Type 0 = λ u. UnifiesAs g.N.NameValue.built c.build_pair.new.self.held c.unify.new.store.held (Variable c.args.variable) (Structure c.in_ok-cell.cell) u in
    (subst P c.in-Clash.is c.in_ok-unify.ensures.ok).1

pub returns-in-Clash-clause-spends : goal.returns-in-Clash-clause-spends
returns-in-Clash-clause-spends g c =
    spends_back c.args.store.now.held c.fresh.new.self.held c.build_pair.new.self.held c.unify.new.store.held c.back.new.self.held c.of-name.result c.args.message (Variable c.in_ok-next.next)
    c.args.store.now.room c.fresh.new.self.room c.build_pair.new.self.room c.unify.new.store.room c.back.new.self.room
    c.in_ok-next.ensures.ok.1 c.in_ok-cell.ensures.ok.1 (same_held g c) (taken_back g c).0 c.in_ok-next.ensures.spends c.in_ok-cell.ensures.spends c.in_ok-unify.ensures.spends c.back.ensures.room

pub returns-in-Clash-clause-sent : goal.returns-in-Clash-clause-sent
returns-in-Clash-clause-sent g c = taken_back g c
