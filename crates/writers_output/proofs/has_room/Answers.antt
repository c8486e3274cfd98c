-- `writers_output::has_room` meets its contract.
use Rattle.writers_output.proofs.Laws.{within, beyond}
use Rattle.writers_output.proofs.has_room.Goals as goal

pub returns-then-at-size : goal.returns-then-at-size
returns-then-at-size c = within _ _ _ c.if-at-size.true

pub returns : goal.returns
returns c = beyond _ _ _ c.if-at-size.false
