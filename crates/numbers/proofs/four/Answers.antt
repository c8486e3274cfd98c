-- `numbers::four` meets its contract.
use native.Mathlib.Omega.{arith}
use Rattle.layouts.specs.Primitive.{little_at}
use Rattle.numbers.proofs.four.Goals as goal

pub returns : goal.returns
unfolding little_at
returns c = omega arith
