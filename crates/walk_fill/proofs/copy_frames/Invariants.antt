-- `walk_fill::copy_frames` meets its contract: chunk by chunk.
use Prim.Native.Nat.{◌-◌}
use lib.ListN.{length}
use Rattle.walk_fill.proofs.Pieces.{Copying}
use Rattle.walk_fill.proofs.copy_frames.Given as goal

abbrev pub invariant-loop-size : goal.invariant-loop-size
invariant-loop-size l = Copying l.s l.initial.payload l.place l.from l.payload l.filled l.at l.size

abbrev pub decreases-loop-size : goal.decreases-loop-size
decreases-loop-size l = length l.s - l.at
