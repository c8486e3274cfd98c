-- `numbers::write_four` meets its contract.
use native.Mathlib.Omega.{arith}
use lib.ListN.{length-set}
use Rattle.layouts.specs.Primitive.{little_end}
use Rattle.numbers.proofs.Stores.{write_fits, write_none}
use Rattle.numbers.proofs.write_four.Goals as goal

pub returns-then-out-lt4 : goal.returns-then-out-lt4
returns-then-out-lt4 c = let all = write_none 4 _ _ c.if-out-lt4.true in record { done = all.0; out = all.1 }

pub bounds-out-1 : goal.bounds-out-1
bounds-out-1 c = simp length-set (omega arith)

pub bounds-out-2 : goal.bounds-out-2
bounds-out-2 c = simp length-set (omega arith)

pub returns : goal.returns
unfolding little_end
returns c = let all = write_fits 4 c.args.x c.args.out.now c.if-out-lt4.false in record { done = all.0; out = all.1 }
