use Rattle.kl1_model_server.proofs.Cuts as cuts
use Rattle.kl1_model_server.proofs.InputLaws as laws
use Rattle.kl1_session.proofs.cuts_anywhere.Goals as goal

pub returns-clause-two : goal.returns-clause-two
returns-clause-two c = cuts.cuts_anywhere

pub returns-clause-many : goal.returns-clause-many
returns-clause-many c = cuts.cuts_in_pieces

pub returns-clause-inputs : goal.returns-clause-inputs
returns-clause-inputs c = laws.inputs_cut_anywhere
