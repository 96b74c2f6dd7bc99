use Rattle.kl1_store.specs.Held.{arguments_of}
use Rattle.kl1_store.proofs.Terms.{arguments_in, within_at}
use Rattle.kl1_store.proofs.Equalling.{argument_read}
use Rattle.kl1_match_guard.proofs.store_view.StoreView.argument.Goals as goal

pub returns-clause-inside : goal.returns-clause-inside
returns-clause-inside g c =
    let h = c.args.self.now.held in
    within_at h (arguments_of h c.args.structure) c.args.index c.argument.result (arguments_in h c.args.structure c.mark.ensures.formed) c.argument.ensures

pub returns-clause-means : goal.returns-clause-means
returns-clause-means g c = λ f. let h = c.args.self.now.held in argument_read f h (arguments_of h c.args.structure) c.args.index c.argument.result c.argument.ensures
