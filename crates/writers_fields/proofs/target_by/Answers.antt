-- `writers_fields::target_by` meets its contract.
use mathlib.Core.Path.{sym, ◌∙◌}
use Rattle.writers_fields.proofs.target_by.Goals as goal

pub returns-then-has_number : goal.returns-then-has_number
returns-then-has_number c = simp (sym c.has_number.ensures ∙ c.if-has_number.true)

pub returns : goal.returns
returns c = simp (sym c.has_number.ensures ∙ c.if-has_number.false)
