-- `walk_take::take_chunk` meets its contract: 5, or the bytes with its own.
use native.Mathlib.Omega.{arith}
use Rattle.walk_take.proofs.Pieces.{chunk_full, chunk_fits}
use Rattle.walk_take.proofs.take_chunk.Goals as goal

pub returns-then-room-n : goal.returns-then-room-n
returns-then-room-n c r z = chunk_full _ r _ _ _ _ c.refuse.ensures c.saturating_sub-place.ensures (omega arith)

pub returns-then-room-n-2 : goal.returns-then-room-n-2
returns-then-room-n-2 c r z = chunk_full _ r _ _ _ _ c.refuse-then-room-n-2.ensures c.saturating_sub-place.ensures (omega arith)

pub returns : goal.returns
returns c r z = rw (← z) (chunk_fits _ r _ _ (omega arith))
