-- `walk_take::judge_series` meets its contract: string by string.
use Prim.Native.Nat.{◌-◌}
use lib.ListN.{length}
use Rattle.table.specs.Table.{role_of}
use Rattle.walk_take.proofs.Strings.{Along}
use Rattle.walk_take.proofs.judge_series.Given as goal

abbrev pub invariant-loop-more : goal.invariant-loop-more
invariant-loop-more l = Along l.s l.slots (role_of l.role) l.extra l.from l.pend l.left l.initial.window l.n l.window l.at l.p l.l l.entries

abbrev pub decreases-loop-more : goal.decreases-loop-more
decreases-loop-more l = length l.s - l.at
