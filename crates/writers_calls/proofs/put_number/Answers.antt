-- `writers_calls::put_number` meets its contract.
use native.Mathlib.Omega.{arith}
use Rattle.writers_calls.proofs.Puts.{number_put, number_none, number_fits}
use Rattle.writers_calls.proofs.put_number.Goals as goal

pub overflow_add-result : goal.overflow_add-result
overflow_add-result c =
    let f = number_fits c.args.kind c.args.n c.args.at c.args.out.now _ c.has_number.ensures c.if-has_number.true c.requires in
    omega arith

pub returns-then-has_number : goal.returns-then-has_number
returns-then-has_number c = let all = number_put c.args.kind c.args.n _ _ _ c.has_number.ensures c.if-has_number.true _ c.put_number.ensures in record { next = all.0; out = all.1 }

pub returns : goal.returns
returns c = let all = number_none c.args.kind c.args.n _ _ _ c.has_number.ensures c.if-has_number.false in record { next = all.0; out = all.1 }
