-- `writers_fields::take` meets its contract: by the number that a target has.
use Rattle.writers_fields.proofs.Steps.{leave_in, leave_out}
use Rattle.writers_fields.proofs.take.Goals as goal

pub returns-then-i-lt-NUMBERS : goal.returns-then-i-lt-NUMBERS
returns-then-i-lt-NUMBERS c = leave_in _ _ _ c.index-i.ensures _ c.if-i-lt-NUMBERS.true _ c.left_of.ensures

pub returns : goal.returns
returns c = leave_out _ _ _ c.index-i.ensures _ c.if-i-lt-NUMBERS.false
