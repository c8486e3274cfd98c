-- `table_code::row_at` meets its contract: the constant tables are the lists of rows.
use mathlib.Core.Path.{◌∙◌}
use Rattle.table_code.proofs.Places.{row_there}
use Rattle.table_code.proofs.row_at.Goals as goal

pub returns-in-Ported : goal.returns-in-Ported
returns-in-Ported c = c.copied.ensures ∙ row_there c.in-Ported.is c.args.i _ c.get.ensures.lookup

pub returns-in-Published : goal.returns-in-Published
returns-in-Published c = c.copied-in-Published.ensures ∙ row_there c.in-Published.is c.args.i _ c.get-in-Published.ensures.lookup
