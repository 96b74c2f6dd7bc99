use Rattle.std.proofs.Common.{sym, ◌∙◌, ap}
use Rattle.kl1_host_journals.proofs.Adding.{adds_moves}
use Rattle.kl1_host_journals.proofs.history.History.add.Goals as goal

pub compare_exchange-found-requires : goal.compare_exchange-found-requires
compare_exchange-found-requires g c =
    let h = c.args.self.now.head_is in
    let b = ap (λ s. s.book) c.again-seen.ensures ∙ c.args.self.now.book_is in
    let offer = c.plain-offer.ensures in
    let pen = c.no_pen-pen.ensures in (
      ap (λ w. w.tracked) h,
      b ∙ sym (ap (λ w. w.book) h),
      pen.0 ∙ (b ∙ sym (ap (λ w. w.book) h)),
      offer.0,
      rw (ap (λ w. w.key) h, pen.1, offer.1, offer.3, c.requires.state, ap (λ s. s.log) c.again-seen.ensures)
          (adds_moves c.args.self.now.seen.log (g.M.Plain.ask c.args.about.now) c.args.self.now.count (sym c.args.self.now.counted) c.requires.follows c.requires.dated),
    )
