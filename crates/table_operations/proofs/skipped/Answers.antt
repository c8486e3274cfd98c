-- `table_operations::skipped` meets its contract: two bytes of a row.
use mathlib.Core.Path.{◌∙◌}
use Rattle.table.specs.declared.Row.{Row}
use Rattle.table_operations.proofs.Search.{shaped}
use Rattle.table_operations.proofs.skipped.Goals as goal

pub returns : goal.returns
returns c = c.packed_shape.ensures ∙ shaped (λ (r : Row). r.skipped) (λ (r : Row). r.skipped_kind) _ _ _ c.row_code.ensures
