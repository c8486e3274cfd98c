-- `writers_fields::left_of` meets its contract.
use Rattle.writers_fields.proofs.left_of.Goals as goal

pub returns-then-target-n : goal.returns-then-target-n
returns-then-target-n c = simp c.if-target-n.true

pub returns : goal.returns
returns c = simp c.if-target-n.false
