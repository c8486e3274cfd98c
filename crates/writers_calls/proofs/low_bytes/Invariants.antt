-- `writers_calls::low_bytes` meets its contract: byte by byte, the last one first.
use Prim.Native.Nat.{◌+◌, ◌-◌, ◌≤◌}
use mathlib.Core.Path.{◌≡◌}
use Rattle.layouts.specs.Primitive.{little_at}
use Rattle.writers_calls.proofs.low_bytes.Given as goal

abbrev pub invariant-loop-i : goal.invariant-loop-i
invariant-loop-i l = (l.n ≡ little_at (l.at + 8 - l.i) l.s l.i) × (l.at ≤ l.i)
