-- `writers_output::put_counted` meets its contract.
use native.Mathlib.Omega.{arith}
use Prim.Native.Nat.{◌+◌, ◌≤◌}
use mathlib.Core.Path.{sym}
use lib.ListN.{length}
use Rattle.writers_output.proofs.Laws.{is_room, no_room, placed_not, length_counted, counted_put}
use Rattle.writers_output.proofs.put_counted.Goals as goal

pub overflow_add-at : goal.overflow_add-at
overflow_add-at c = let room : c.args.at + (8 + length c.args.c.now) ≤ length c.args.out.now = search is_room in omega arith

pub returns-then-has_room : goal.returns-then-has_room
returns-then-has_room c =
    let room : c.args.at + (8 + length c.args.c.now) ≤ length c.args.out.now = search is_room in
    counted_put _ _ _ c.args.c.now _ room c.put_number.ensures c.put.ensures

pub returns : goal.returns
returns c = placed_not _ _ _ _ (sym (length_counted c.args.c.now)) (no_room _ _ _ c.has_room.ensures c.if-has_room.false)
