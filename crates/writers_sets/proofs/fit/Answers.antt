-- `writers_sets::fit` meets its contract.
use borrow.Author.Tests.{le-leb, lt-leb}
use Rattle.writers_sets.proofs.fit.Goals as goal

pub returns-then-room-n : goal.returns-then-room-n
returns-then-room-n c = simp (lt-leb _ _ c.if-room-n.true, c.refuse.ensures)

pub returns : goal.returns
returns c = simp (le-leb _ _ c.if-room-n.false)
