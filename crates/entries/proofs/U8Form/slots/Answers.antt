-- Sixteen bytes make a slot.
use mathlib.Core.Path.{refl}
use Rattle.entries.proofs.U8Form.slots.Goals as goal

pub returns-clause-slots : goal.returns-clause-slots
returns-clause-slots c = refl
