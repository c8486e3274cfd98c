-- `text::is_two` meets its contract, by what `is_tail` ensures.
use Rattle.text.proofs.is_two.Goals as goal

pub returns : goal.returns
returns c = simp c.is_tail.ensures
