-- `writers_texts::digits` meets its contract: the digits to come and those that are there make up the number's.
use mathlib.Core.Path.{◌≡◌}
use mathlib.Core.List.{◌++◌}
use lib.ListN.{length, drop}
use Rattle.layouts.specs.Writers.{decimal}
use Rattle.layouts.specs.Writers.{digits}
use Rattle.writers_texts.proofs.digits.Given as goal

abbrev pub invariant-loop-i : goal.invariant-loop-i
invariant-loop-i l = (digits l.i l.x ++ drop l.i l.text ≡ decimal l.n) × (length l.text ≡ 20)
