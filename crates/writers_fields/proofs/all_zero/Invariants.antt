-- `writers_fields::all_zero` meets its contract: number by number.
use mathlib.Core.Path.{◌≡◌}
use Rattle.layouts.specs.CallWriter.{all_zero}
use Rattle.writers_fields.proofs.all_zero.Given as goal

abbrev pub invariant-loop-n : goal.invariant-loop-n
invariant-loop-n l = l.zero ≡ all_zero l.n-index l.left
