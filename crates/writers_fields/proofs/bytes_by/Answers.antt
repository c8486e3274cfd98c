-- `writers_fields::bytes_by` meets its contract.
use mathlib.Core.Path.{sym, ◌∙◌}
use Rattle.writers_fields.proofs.Steps.{bytes_none}
use Rattle.writers_fields.proofs.bytes_by.Goals as goal

pub returns-then-kind-eq-NUM : goal.returns-then-kind-eq-NUM
returns-then-kind-eq-NUM c = rw c.if-kind-eq-NUM.true

pub returns-then-has_number : goal.returns-then-has_number
returns-then-has_number c = simp (sym c.has_number.ensures ∙ c.if-has_number.true)

pub returns-then-kind-eq-FRAMES : goal.returns-then-kind-eq-FRAMES
returns-then-kind-eq-FRAMES c = rw c.if-kind-eq-FRAMES.true

pub returns : goal.returns
returns c = bytes_none _ _ (sym c.has_number.ensures ∙ c.if-has_number.false) c.if-kind-eq-FRAMES.false
