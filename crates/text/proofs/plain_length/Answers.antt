use native.Mathlib.Omega.{arith}
use Rattle.text.specs.Prefix.{PlainFor}
use Rattle.text.proofs.Steps.{plain_more}
use Rattle.text.proofs.plain_length.Goals as goal

pub loop-n-preserved : goal.loop-n-preserved
loop-n-preserved c = search plain_more

pub loop-n-init : goal.loop-n-init
loop-n-init c = record { there = omega arith; ascii = tt }

pub overflow_add-n : goal.overflow_add-n
overflow_add-n c = let p : PlainFor _ _ = loop-n-preserved c in omega arith

pub loop-n-smaller : goal.loop-n-smaller
loop-n-smaller c = let p : PlainFor _ _ = loop-n-preserved c in omega arith
