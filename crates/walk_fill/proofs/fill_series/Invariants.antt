-- `walk_fill::fill_series` meets its contract: string by string.
use Prim.Native.Nat.{◌-◌}
use lib.ListN.{length}
use Rattle.table.specs.Table.{role_of}
use Rattle.walk_fill.proofs.Pieces.{Along}
use Rattle.walk_fill.proofs.fill_series.Given as goal

abbrev pub invariant-loop-more : goal.invariant-loop-more
invariant-loop-more g l = Along g.T.Room.laid l.s l.initial.entries l.place (role_of l.role) l.extra l.from l.count l.entries l.e l.at l.p l.l

abbrev pub decreases-loop-more : goal.decreases-loop-more
decreases-loop-more g l = length l.s - l.at
