-- `writers_fields::none_left` meets its contract.
use Rattle.layouts.specs.Refusal.{refused_by}
use mathlib.Core.Path.{ap}
use Rattle.writers_fields.proofs.none_left.Goals as goal

pub returns : goal.returns
returns c = ap refused_by c.refuse.ensures
