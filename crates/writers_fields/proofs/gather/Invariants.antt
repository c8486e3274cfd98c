-- `writers_fields::gather` meets its contract: gathering what remains gives the same at every turn.
use Prim.Native.Nat.{◌-◌}
use Rattle.table.specs.Packed.{size}
use Rattle.writers_fields.specs.Fields.{fields_at}
use Rattle.writers_fields.proofs.Gathering.{Gathering}
use Rattle.writers_fields.proofs.gather.Given as goal

abbrev pub invariant-loop-x : goal.invariant-loop-x
invariant-loop-x l = Gathering l.numbers l.slots l.framed l.room l.initial.left (fields_at l.layout l.pc-2) l.entries l.bytes l.has_frames l.left (fields_at l.layout l.pc)

abbrev pub decreases-loop-x : goal.decreases-loop-x
decreases-loop-x l = size - l.pc
