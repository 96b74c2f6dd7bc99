use Rattle.kl1_model.proofs.WorkOrder.{order_of_work_is_nothing, order_of_work_is_not_seen}
use Rattle.kl1_model_laws.proofs.relabelling.order_of_work_is_nothing.Goals as goal

pub returns : goal.returns
returns c = record { steps = order_of_work_is_nothing; choices = order_of_work_is_not_seen }
