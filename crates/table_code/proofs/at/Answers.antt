-- `table_code::at` meets its contract.
use Rattle.table.specs.Packed.{packed_table}
use Rattle.table_code.proofs.at.Goals as goal

pub returns : goal.returns
unfolding packed_table
returns c = c.code.ensures
