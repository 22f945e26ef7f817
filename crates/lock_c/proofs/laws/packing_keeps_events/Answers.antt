use Rattle.lock_c.proofs.Packing.{packing_keeps_events}
use Rattle.lock_c.proofs.laws.packing_keeps_events.Goals as goal

pub returns : goal.returns
returns c = packing_keeps_events
