-- `probe_text::count_chars` is safe and ends: the count is at most the next code point, which a `u32` holds.
use Prim.Native.Nat.{◌≤◌, ◌-◌}
use Rattle.probe_text.proofs.count_chars.Given as goal

abbrev pub invariant-loop-c : goal.invariant-loop-c
invariant-loop-c l = l.n ≤ l.c

abbrev pub decreases-loop-c : goal.decreases-loop-c
decreases-loop-c l = l.last - l.c
