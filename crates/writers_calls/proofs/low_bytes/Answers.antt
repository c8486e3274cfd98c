use native.Mathlib.Omega.{arith}
use Rattle.writers_calls.proofs.Numbers.{low_start, low_turn, low_small, low_end}
use Rattle.writers_calls.proofs.low_bytes.Goals as goal

pub loop-i-init : goal.loop-i-init
loop-i-init c = (low_start c.args.s.now c.args.at, omega arith)

pub overflow_mul-n : goal.overflow_mul-n
overflow_mul-n c = let l = low_small c.args.s.now c.args.at _ _ c.loop-i.invariant.0 (λ x. omega (arith, c.type_inv.s x)) (omega arith) in omega arith

pub overflow_add-n : goal.overflow_add-n
overflow_add-n c = let l = low_small c.args.s.now c.args.at _ _ c.loop-i.invariant.0 (λ x. omega (arith, c.type_inv.s x)) (omega arith) in omega arith

pub loop-i-preserved : goal.loop-i-preserved
loop-i-preserved c = (low_turn c.args.s.now c.args.at _ _ c.loop-i.invariant.0 (omega arith) (omega arith) _ c.byte_or_zero.ensures.0, omega arith)

pub returns : goal.returns
returns c = low_end c.args.s.now c.args.at _ _ c.loop-i.invariant.0 (omega arith)
