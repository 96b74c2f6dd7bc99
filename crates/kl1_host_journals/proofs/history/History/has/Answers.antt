use Rattle.std.proofs.Common.{List, sym, ◌∙◌, ap, subst}
use Rattle.std.proofs.lemmas.Bool.{eqb-true}
use mathlib.Core.List.{IsPrefix}
use Rattle.kl1_host_journals.specs.declared.edition.Edition.{Edition}
use Rattle.kl1_host_journals.specs.Editions.{no_edition}
use Rattle.kl1_host_journals.proofs.Adding.{looks_moves}
use Rattle.kl1_host_journals.proofs.Chains.{prefix_trans, no_later}
use Rattle.kl1_host_journals.proofs.history.History.has.Goals as goal

pub load-found-requires : goal.load-found-requires
load-found-requires g c =
    let h = c.args.self.now.head_is in
    let b = c.learn.ensures.0 ∙ (ap (λ s. s.book) c.again-seen.ensures ∙ c.args.self.now.book_is) in
    let offer = c.plain-offer.ensures in (
      ap (λ w. w.tracked) h,
      b ∙ sym (ap (λ w. w.book) h),
      offer.0,
      rw (ap (λ w. w.key) h, offer.3) (looks_moves c.learn.new.self.log no_edition),
    )

pub returns : goal.returns
returns g c = λ is.
    let own = c.args.self.now.seen.log in
    let noted = c.args.noted.now.seen.log in
    let both = c.learn.new.self.log in
    let all = c.load-found.new.seen.log in
    let load = c.load-found.ensures in
    let this : IsPrefix own both = subst (λ (l : List Edition). IsPrefix l both) (ap (λ s. s.log) c.again-seen.ensures) c.learn.ensures.2 in
    no_later noted own all c.load-found.result c.args.self.now.count c.args.noted.now.some load.6.1.1 (prefix_trans noted both all c.learn.ensures.3 load.5) (prefix_trans own both all this load.5) load.6.1.0 c.args.self.now.counted
    (eqb-true c.load-found.result c.args.self.now.count is)
