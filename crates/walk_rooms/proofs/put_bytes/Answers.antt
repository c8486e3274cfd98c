-- `walk_rooms::put_bytes` meets its contract: all of them, or the beginning that the room holds.
use native.Mathlib.Omega.{arith}
use Rattle.walk_rooms.proofs.Laws.{put_past, put_beginning, put_whole}
use Rattle.walk_rooms.proofs.put_bytes.Goals as goal

pub returns-then-size-at : goal.returns-then-size-at
returns-then-size-at c = put_past c.args.out.now c.args.at _ c.if-size-at.true

pub returns-then-room-n : goal.returns-then-room-n
returns-then-room-n c =
    put_beginning c.args.c.now c.args.out.now c.args.at _ _ c.if-room-n.true (omega arith) c.copy_front.ensures

pub returns : goal.returns
returns c =
    put_whole c.args.c.now c.args.out.now c.args.at _ (omega arith) c.copy_front-2.ensures
