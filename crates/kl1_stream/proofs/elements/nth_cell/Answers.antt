use Rattle.kl1_stream.proofs.Listing.{skipped_at}
use Rattle.kl1_stream.proofs.elements.nth_cell.Goals as goal

pub loop-left-init : goal.loop-left-init
loop-left-init g c =
    let place = c.finger-finger.ensures in
    (place.right.rest_in, λ f reads. skipped_at f c.args.store.now.held c.args.cell c.finger-finger.result c.args.skip place.list place.count (place.right.after f reads))
