-- `writers_output::put_string` meets its contract.
use native.Mathlib.Omega.{arith}
use Prim.Native.Nat.{◌+◌, ◌≤◌}
use lib.ListN.{length}
use Rattle.writers_output.proofs.Laws.{is_room, no_room, placed_not, length_string, string_put}
use Rattle.writers_output.proofs.put_string.Goals as goal

pub overflow_add-at : goal.overflow_add-at
overflow_add-at c =
    let room : c.args.at + c.string_length.result ≤ length c.args.out.now = search is_room in
    omega (arith, length_string c.args.c.now)

pub overflow_add-at-then-has_room : goal.overflow_add-at-then-has_room
overflow_add-at-then-has_room c =
    let room : c.args.at + c.string_length.result ≤ length c.args.out.now = search is_room in
    omega (arith, length_string c.args.c.now)

pub returns-then-has_room : goal.returns-then-has_room
returns-then-has_room c =
    let room : c.args.at + c.string_length.result ≤ length c.args.out.now = search is_room in
    string_put _ _ _ c.args.c.now _ (omega arith) c.put_counted.ensures c.put_padding.ensures

pub returns : goal.returns
returns c = placed_not _ _ _ _ c.string_length.ensures (no_room _ _ _ c.has_room.ensures c.if-has_room.false)
