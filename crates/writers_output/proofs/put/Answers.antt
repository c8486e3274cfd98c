-- `writers_output::put` meets its contract.
use mathlib.Core.Path.{refl}
use Prim.Native.Nat.{◌+◌, ◌≤◌}
use lib.ListN.{length, length-take, length-drop}
use native.Mathlib.Omega.{arith}
use Rattle.writers_output.proofs.Laws.{is_room, copied, no_room, placed_not}
use Rattle.writers_output.proofs.put.Goals as goal

pub overflow_add-at : goal.overflow_add-at
overflow_add-at c = let room : c.args.at + length c.args.c.now ≤ length c.args.out.now = search is_room in omega arith

pub slice_bounds-copy_from_slice-end : goal.slice_bounds-copy_from_slice-end
slice_bounds-copy_from_slice-end c = let room : c.args.at + length c.args.c.now ≤ length c.args.out.now = search is_room in omega arith

pub copy_from_slice-requires : goal.copy_from_slice-requires
copy_from_slice-requires c =
    let room : c.args.at + length c.args.c.now ≤ length c.args.out.now = search is_room in simp (length-take, length-drop) (omega arith)

pub returns-then-has_room : goal.returns-then-has_room
returns-then-has_room c = let room : c.args.at + length c.args.c.now ≤ length c.args.out.now = search is_room in
    copied _ _ _ _ room c.copy_from_slice.ensures.after

pub returns : goal.returns
returns c = placed_not _ _ _ _ refl (no_room _ _ _ c.has_room.ensures c.if-has_room.false)
