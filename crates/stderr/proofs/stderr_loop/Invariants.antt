-- `stderr::stderr_loop` meets its contract: what is still to come is what the whole is.
use Prim.Native.Nat.{◌-◌}
use lib.ListN.{length}
use Rattle.stderr.proofs.Going.{Going}
use Rattle.stderr.proofs.stderr_loop.Given as goal

abbrev pub invariant-loop-c : goal.invariant-loop-c
invariant-loop-c l = Going l.s l.at l.messages

abbrev pub decreases-loop-c : goal.decreases-loop-c
decreases-loop-c l = length l.s - l.at
