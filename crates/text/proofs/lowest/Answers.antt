-- `text::lowest` meets its contract, by what `pick` ensures.
use Rattle.text.specs.Prefix.{low}
use Rattle.text.proofs.lowest.Goals as goal

pub returns : goal.returns
unfolding low
returns c = simp (c.pick-2.ensures, c.pick.ensures)
