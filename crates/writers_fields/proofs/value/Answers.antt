-- `writers_fields::value` meets its contract.
use mathlib.Core.Path.{ap, ◌∙◌}
use Prim.Native.Nat.{ℕ}
use Rattle.layouts.specs.CallWriter.{value_for}
use Rattle.table.specs.Table.{target_of}
use Rattle.writers_fields.proofs.value.Goals as goal

pub returns : goal.returns
returns c = c.number.ensures ∙ ap (λ (t : ℕ). value_for c.args.numbers.now (target_of t)) c.target_by.ensures
