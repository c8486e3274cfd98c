-- `walk_strings::after_next` meets its contract: by what is left of the series.
use borrow.Author.Tests.{lt-ltb, le-ltb}
use Rattle.walk_strings.proofs.after_next.Goals as goal

pub returns-then-pend-gt0 : goal.returns-then-pend-gt0
returns-then-pend-gt0 c = simp (lt-ltb _ _ c.if-pend-gt0.true)

pub returns-then-left-gt0 : goal.returns-then-left-gt0
returns-then-left-gt0 c = simp (le-ltb _ _ c.if-pend-gt0.false, lt-ltb _ _ c.if-left-gt0.true)

pub returns : goal.returns
returns c = simp (le-ltb _ _ c.if-pend-gt0.false, le-ltb _ _ c.if-left-gt0.false)
