-- `put_entry` of `Room` for bytes meets its contract: two numbers where the room holds both.
use native.Mathlib.Omega.{arith}
use Rattle.walk_rooms.proofs.Laws.{put_numbers}
use Rattle.walk_rooms.proofs.U8Room.put_entry.Goals as goal

pub returns-then-out-at : goal.returns-then-out-at
returns-then-out-at c = c.put_cut_entry.ensures

pub returns-then-out-at-lt-BYTES : goal.returns-then-out-at-lt-BYTES
returns-then-out-at-lt-BYTES c = c.put_cut_entry-then-out-at-lt-BYTES.ensures

pub returns : goal.returns
returns c =
    put_numbers _ _ _ _ _ _ (omega arith) c.put_number.ensures c.put_number-2.ensures
