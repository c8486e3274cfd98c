-- `table_operations::arguments` meets its contract: two bytes of a row.
use mathlib.Core.Path.{◌∙◌}
use Rattle.table.specs.declared.Row.{Row}
use Rattle.table_operations.proofs.Search.{by_one, shaped}
use Rattle.table_operations.proofs.arguments.Goals as goal

pub returns : goal.returns
returns c = c.packed_shape.ensures ∙ by_one _ _ ∙ shaped (λ (r : Row). r.arguments) (λ (r : Row). r.arguments_kind) _ _ _ c.row_code.ensures
