use Rattle.kl1_store.proofs.Fingering.{fingers_more}
use Rattle.kl1_store.proofs.fingers.Fingers.keep.Goals as goal

pub returns-in-Ok : goal.returns-in-Ok
returns-in-Ok g c =
    λ h formed now right all. fingers_more g.N.NameValue.built h c.args.self.now (record { places = c.push.new.self; since = c.args.now }) c.args.finger formed now c.in-Ok.ensures.items right all
