use Rattle.kl1_model.proofs.TreeGrows.{paths_go_on, paths_follow_parents}
use Rattle.kl1_model.proofs.TreeSteps.{fresh_is_tree, trees_stay}
use Rattle.kl1_model_laws.proofs.shoens.paths_go_on.Goals as goal

pub returns : goal.returns
returns c = record { paths = paths_go_on; parents = paths_follow_parents; fresh = fresh_is_tree; stay = trees_stay }
