-- `writers_fields::number` meets its contract: by the number that a target has.
use Rattle.writers_fields.proofs.Steps.{value_in, value_out}
use Rattle.writers_fields.proofs.number.Goals as goal

pub returns-then-i-lt-NUMBERS : goal.returns-then-i-lt-NUMBERS
returns-then-i-lt-NUMBERS c = value_in _ _ _ c.index-i.ensures c.if-i-lt-NUMBERS.true

pub returns : goal.returns
returns c = value_out _ _ _ c.index-i.ensures c.if-i-lt-NUMBERS.false
