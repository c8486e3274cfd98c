-- `walk_judge::flag` meets its contract: a number that is not 0 is 1.
use Rattle.walk_judge.proofs.Notes.{truth_some}
use Rattle.walk_judge.proofs.flag.Goals as goal

pub returns : goal.returns
returns c = truth_some _ c.if-x-eq0.false
