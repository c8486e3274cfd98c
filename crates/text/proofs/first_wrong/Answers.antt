use native.Mathlib.Omega.{arith}
use Rattle.text.proofs.Steps.{Upto, start, past, stopped, ended}
use Rattle.text.proofs.first_wrong.Goals as goal

pub loop-i-preserved : goal.loop-i-preserved
loop-i-preserved c = search past

pub loop-i-init : goal.loop-i-init
loop-i-init c = start _

pub returns-then-n-eq0 : goal.returns-then-n-eq0
returns-then-n-eq0 c = search stopped

pub overflow_add-i : goal.overflow_add-i
overflow_add-i c = let u : Upto _ _ = loop-i-preserved c in omega arith

pub loop-i-smaller : goal.loop-i-smaller
loop-i-smaller c = let u : Upto _ _ = loop-i-preserved c in omega arith

pub returns : goal.returns
returns c = search ended
