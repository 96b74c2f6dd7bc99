use Rattle.kl1_model.proofs.SameStays.{same_stays, differs_stays, unknown_waits, unknown_stays, each_same_stays, each_differs_stays, each_unknown_waits, each_unknown_stays}
use Rattle.kl1_model_laws.proofs.same.open_answers_wait_for_named_variables.Goals as goal

pub returns : goal.returns
returns c = record { same = same_stays; differs = differs_stays; waits = unknown_waits; stays = unknown_stays; all_same = each_same_stays; some_differ = each_differs_stays; all_wait = each_unknown_waits; all_stay = each_unknown_stays }
