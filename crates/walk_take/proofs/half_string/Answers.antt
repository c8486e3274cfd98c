-- `walk_take::half_string` meets its contract: 3 before 1.
use Rattle.walk_take.proofs.Pieces.{half_bad, half_cut}
use Rattle.walk_take.proofs.half_string.Goals as goal

pub returns-then-to-start : goal.returns-then-to-start
returns-then-to-start c = search half_bad

pub returns : goal.returns
returns c = search half_cut
