use Rattle.std.proofs.Common.{refl}
use Rattle.kl1_session.proofs.Lines.{first_of_more, first_of_one}
use Rattle.kl1_session.proofs.file.first_line.Goals as goal

pub returns-in-None : goal.returns-in-None
returns-in-None c = first_of_one c.args.text.now (c.in-None.ensures.none refl)

pub returns-in-Some : goal.returns-in-Some
returns-in-Some c = first_of_more c.args.text.now c.in-Some.parts.0.now c.in-Some.parts.1.now c.in-Some.ensures.some
