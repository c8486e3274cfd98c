-- `walk_take::keep` meets its contract: inside the window, or past its end.
use Rattle.walk_take.proofs.Pieces.{keeps_in, keeps_none}
use Rattle.walk_take.proofs.keep.Goals as goal

pub returns-then-n-lt-WINDOW : goal.returns-then-n-lt-WINDOW
returns-then-n-lt-WINDOW c es = keeps_in _ _ _ _ es c.if-n-lt-WINDOW.true

pub returns : goal.returns
returns c es = keeps_none _ _ _ _ es c.if-n-lt-WINDOW.false
