-- `put_entry` of `Room` for numbers meets its contract: two numbers, one after the other.
use mathlib.Core.Path.{◌∙◌}
use Rattle.walk_rooms.proofs.Laws.{put_two}
use Rattle.walk_rooms.proofs.U64Room.put_entry.Goals as goal

pub shape_of-out : goal.shape_of-out
shape_of-out c = c.put.ensures.size ∙ c.put-second.ensures.size

pub returns : goal.returns
returns c = put_two _ _ _ _ _ _ _ _ c.put-second.ensures c.put.ensures
