-- `table_operations::row_code` meets its contract, mode by mode.
use Rattle.table_operations.proofs.row_code.Goals as goal

pub returns-in-Ported : goal.returns-in-Ported
returns-in-Ported c = rw c.in-Ported.is c.ported.ensures

pub returns-in-Published : goal.returns-in-Published
returns-in-Published c = rw c.in-Published.is c.published.ensures
