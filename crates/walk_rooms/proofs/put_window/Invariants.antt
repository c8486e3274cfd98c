-- `walk_rooms::put_window` meets its contract: entry by entry.
use Rattle.walk_rooms.proofs.Laws.{Flushing}
use Rattle.walk_rooms.proofs.put_window.Given as goal

abbrev pub invariant-loop-i : goal.invariant-loop-i
invariant-loop-i g l = Flushing g.T.Room.laid g.met.T.Room.nothing g.met.T.Room.joined l.window l.i-end l.initial.out l.out l.at l.i
