use Rattle.kl1_user_effects.proofs.KnownTexts.{room_known, room_new}
use Rattle.kl1_user_effects.proofs.names.has_room.Goals as goal

pub returns-in-Some : goal.returns-in-Some
returns-in-Some c = room_known c.args.most c.args.names.now.names c.args.text.now c.number_of.result c.in-Some.field-0 c.len.result c.number_of.ensures c.in-Some.is c.len.ensures

pub returns-in-None : goal.returns-in-None
returns-in-None c = room_new c.args.most c.args.names.now.names c.args.text.now c.number_of.result c.len-in-None.result c.number_of.ensures c.in-None.is c.len-in-None.ensures
