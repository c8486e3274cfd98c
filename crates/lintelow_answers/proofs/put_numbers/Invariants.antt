-- `lintelow_answers::put_numbers` meets its contract: one number more at each turn.
use Prim.Native.Nat.{◌-◌}
use lib.ListN.{length}
use Rattle.lintelow_answers.proofs.Laws.{Putting}
use Rattle.lintelow_answers.proofs.put_numbers.Given as goal

abbrev pub invariant-loop-i : goal.invariant-loop-i
invariant-loop-i l = Putting l.initial.out l.ns l.out l.i

abbrev pub decreases-loop-i : goal.decreases-loop-i
decreases-loop-i l = length l.ns - l.i
