-- `walk_fill::fill` meets its contract: item by item.
use Rattle.walk_items.specs.Items.{version_of, fuel_of}
use Rattle.walk_fill.specs.There.{pieces_there}
use Rattle.walk_fill.specs.Fill.{Fills, rooms}
use Rattle.walk_fill.proofs.Folding.{to_come}
use Rattle.walk_fill.proofs.fill.Given as goal

abbrev pub invariant-loop-f : goal.invariant-loop-f
invariant-loop-f g l = Fills g.T.Room.laid l.s (rooms l.initial.entries l.place l.initial.payload 0) (pieces_there l.layout l.s l.from) (rooms l.entries l.e l.payload l.p) (to_come l.s (version_of l.layout) l.at l.pc l.reps l.body l.group)

abbrev pub decreases-loop-f : goal.decreases-loop-f
decreases-loop-f g l = fuel_of l.s l.at l.pc l.reps l.group
