-- `writers_output::put_number` meets its contract.
use native.Mathlib.Omega.{arith}
use Prim.Native.Nat.{◌+◌, ◌≤◌}
use mathlib.Core.Path.{sym}
use lib.ListN.{length}
use Rattle.layouts.proofs.Little.{length_number}
use Rattle.writers_output.proofs.Laws.{is_room, no_room, placed_not, numbered}
use Rattle.writers_output.proofs.put_number.Goals as goal

pub slice_bounds-write-count : goal.slice_bounds-write-count
slice_bounds-write-count c = let room : c.args.at + 8 ≤ length c.args.out.now = search is_room in omega arith

pub slice_bounds-write-start : goal.slice_bounds-write-start
slice_bounds-write-start c = let room : c.args.at + 8 ≤ length c.args.out.now = search is_room in omega arith

pub returns-then-has_room : goal.returns-then-has_room
returns-then-has_room c =
    let room : c.args.at + 8 ≤ length c.args.out.now = search is_room in
    numbered _ _ _ _ room c.write.ensures.out

pub returns : goal.returns
returns c = placed_not _ _ _ _ (sym (length_number c.args.x)) (no_room _ _ _ c.has_room.ensures c.if-has_room.false)
