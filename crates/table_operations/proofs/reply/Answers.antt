-- `table_operations::reply` meets its contract: two bytes of a row.
use mathlib.Core.Path.{◌∙◌}
use Rattle.table.specs.declared.Row.{Row}
use Rattle.table_operations.proofs.Search.{shaped}
use Rattle.table_operations.proofs.reply.Goals as goal

pub returns : goal.returns
returns c = c.packed_shape.ensures ∙ shaped (λ (r : Row). r.reply) (λ (r : Row). r.reply_kind) _ _ _ c.ported.ensures
