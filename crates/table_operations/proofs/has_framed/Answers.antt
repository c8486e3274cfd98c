-- `table_operations::has_framed` meets its contract.
use mathlib.Core.Path.{refl}
use Rattle.table_operations.proofs.has_framed.Goals as goal

pub returns : goal.returns
returns c = refl
