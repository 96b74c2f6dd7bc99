use Rattle.std.proofs.Common.{get_or, take, set, sym, ap, ◌∙◌}
use Rattle.kl1_shoen_paths.specs.declared.tracked.Was.{Was}
use Rattle.kl1_shoen_paths.specs.Tracked.{Tracked, put_back}
use Rattle.kl1_shoen_paths.proofs.Putting.{put_more}
use Rattle.kl1_shoen_paths.proofs.tracked.TrackedList.put.Goals as goal

pub returns-clause-kept : goal.returns-clause-kept
returns-clause-kept g c =
    let i = c.self.inside in
    let w : Was g.row.T.Denot = record { place = c.args.place; value = c.replace-value.result } in
    let r = c.replace-value.ensures.value in
    ap (λ ws. put_back ws (take i.mark (set i.items.items c.args.place c.replace-value.new.dest))) c.push_reserved.ensures.items
    ∙ put_more i.was.items i.items.items i.mark w c.replace-value.new.dest (r ∙ c.index_mut.ensures.value ∙ ap (λ (x : g.row.T.Denot). get_or i.items.items c.args.place x) (sym r))
    ∙ ap (λ (t : Tracked g.row.T.Denot). t.kept) c.self.view_is
