-- `writers_calls::byte_or_zero` meets its contract.
use native.Mathlib.Omega.{arith}
use Rattle.table.proofs.Tables.{get_d_past}
use Rattle.writers_calls.proofs.byte_or_zero.Goals as goal

pub returns : goal.returns
returns c = (get_d_past c.args.s.now _ _ c.if-i-s.false, omega arith)
