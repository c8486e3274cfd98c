-- `text::is_second` meets its contract, by what `lowest` and `highest` ensure.
use Rattle.text.proofs.is_second.Goals as goal

pub returns : goal.returns
returns c = simp (c.highest.ensures, c.lowest.ensures)
