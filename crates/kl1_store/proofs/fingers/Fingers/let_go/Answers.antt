use Rattle.std.proofs.Common.{refl}
use Rattle.kl1_store.proofs.Fingering.{no_fingers}
use Rattle.kl1_store.proofs.fingers.Fingers.let_go.Goals as goal

pub returns : goal.returns
returns g c = λ h. no_fingers g.N.NameValue.built h (record { places = c.clear.new.self; since = record { variables = 0; structures = 0; bindings = 0 } }) c.clear.ensures.items refl
