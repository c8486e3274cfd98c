-- `text::highest` meets its contract, by what `pick` ensures.
use Rattle.text.specs.Prefix.{high}
use Rattle.text.proofs.highest.Goals as goal

pub returns : goal.returns
unfolding high
returns c = simp (c.pick-2.ensures, c.pick.ensures)
