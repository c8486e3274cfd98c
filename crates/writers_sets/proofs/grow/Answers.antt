-- `writers_sets::grow` meets its contract.
use mathlib.Core.Path.{refl}
use borrow.Author.Tests.{le-ltb, lt-ltb}
use Rattle.writers_sets.proofs.grow.Goals as goal

pub returns-then-room-total : goal.returns-then-room-total
returns-then-room-total c = simp (lt-ltb _ _ c.if-room-total.true)

pub returns-then-room-total-2 : goal.returns-then-room-total-2
returns-then-room-total-2 c = simp (le-ltb _ _ c.if-room-total.false, lt-ltb _ _ c.if-room-total-2.true) refl

pub returns : goal.returns
returns c = simp (le-ltb _ _ c.if-room-total.false, le-ltb _ _ c.if-room-total-2.false)
