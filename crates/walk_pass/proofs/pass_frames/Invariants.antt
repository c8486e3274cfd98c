-- `walk_pass::pass_frames` meets its contract: chunk by chunk.
use Prim.Native.Nat.{◌-◌}
use lib.ListN.{length}
use Rattle.walk_pass.proofs.Passing.{Framing}
use Rattle.walk_pass.proofs.pass_frames.Given as goal

abbrev pub invariant-loop-next : goal.invariant-loop-next
invariant-loop-next l = Framing l.s l.from l.at

abbrev pub decreases-loop-next : goal.decreases-loop-next
decreases-loop-next l = length l.s - l.at
