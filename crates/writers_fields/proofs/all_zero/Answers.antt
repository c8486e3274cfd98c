use mathlib.Core.Path.{refl}
use native.Mathlib.Numerals.{add-one}
use Rattle.layouts.specs.CallWriter.{all_zero}
use Rattle.writers_fields.proofs.all_zero.Goals as goal

pub loop-n-init : goal.loop-n-init
unfolding all_zero
loop-n-init c = refl

pub loop-n-preserved : goal.loop-n-preserved
unfolding all_zero
loop-n-preserved c = rw (add-one, c.loop-n.invariant)
