-- `writers_calls::put_items` meets its contract: putting what remains gives the same at every turn.
use Prim.Native.Nat.{◌-◌}
use Rattle.table.specs.Packed.{size}
use Rattle.writers_calls.proofs.Puts.{Going}
use Rattle.writers_calls.proofs.put_items.Given as goal

abbrev pub invariant-loop-x : goal.invariant-loop-x
invariant-loop-x g l = Going l.numbers l.payload l.s (g.T.Form.numbers l.entries) l.slots l.layout l.pc-2 l.initial.out l.pc l.at l.i l.out

abbrev pub decreases-loop-x : goal.decreases-loop-x
decreases-loop-x g l = size - l.pc
