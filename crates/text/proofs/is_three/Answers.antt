-- `text::is_three` meets its contract, by what its callees ensure.
use Rattle.text.proofs.is_three.Goals as goal

pub returns : goal.returns
returns c = simp (c.is_tail.ensures, c.is_second.ensures)
