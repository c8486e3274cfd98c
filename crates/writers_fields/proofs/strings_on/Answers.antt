-- `writers_fields::strings_on` meets its contract.
use Rattle.writers_fields.proofs.Steps.{number_stays}
use Rattle.writers_fields.proofs.strings_on.Goals as goal

pub returns-then-kind-eq-NUM : goal.returns-then-kind-eq-NUM
returns-then-kind-eq-NUM c = number_stays _ _ _ c.if-kind-eq-NUM.true _
