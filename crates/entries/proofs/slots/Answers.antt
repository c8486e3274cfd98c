-- `entries::slots` meets its contract: what both forms have, together.
use Rattle.entries.proofs.Numbers.{both_slots}
use Rattle.entries.proofs.slots.Goals as goal

pub returns : goal.returns
returns c = both_slots _ _ _ _ c.slots.ensures.slots c.slots-2.ensures.slots
