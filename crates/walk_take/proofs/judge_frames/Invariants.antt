-- `walk_take::judge_frames` meets its contract: chunk by chunk.
use Prim.Native.Nat.{◌-◌}
use lib.ListN.{length}
use Rattle.walk_take.proofs.Frames.{Framing}
use Rattle.walk_take.proofs.judge_frames.Given as goal

abbrev pub invariant-loop-next : goal.invariant-loop-next
invariant-loop-next l = Framing l.s l.room l.from l.n l.at l.total

abbrev pub decreases-loop-next : goal.decreases-loop-next
decreases-loop-next l = length l.s - l.at
