-- `walk_rooms::put` meets its contract: a place past the end takes nothing.
use Rattle.walk_rooms.proofs.Laws.{put_one, put_past}
use Rattle.walk_rooms.proofs.put.Goals as goal

pub returns-then-at-out : goal.returns-then-at-out
returns-then-at-out c = put_one c.args.out.now c.args.at c.args.x c.if-at-out.true

pub returns : goal.returns
returns c = put_past c.args.out.now c.args.at _ c.if-at-out.false
