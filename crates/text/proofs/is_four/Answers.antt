-- `text::is_four` meets its contract, by what its callees ensure.
use Rattle.text.proofs.is_four.Goals as goal

pub returns : goal.returns
returns c =
    simp (c.is_tail-2.ensures, c.is_tail.ensures, c.is_second.ensures)
