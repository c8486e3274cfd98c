-- `table_operations::since` meets its contract.
use Rattle.table_operations.proofs.since.Goals as goal

pub returns : goal.returns
returns c = rw (c.either.ensures, c.at_least.ensures)
