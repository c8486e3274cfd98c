-- `walk_rooms::put_cut_entry` meets its contract: two numbers in sixteen bytes, put as bytes.
use mathlib.Core.Path.{refl}
use Rattle.walk_rooms.proofs.Laws.{put_entry}
use Rattle.walk_rooms.proofs.put_cut_entry.Goals as goal

pub returns : goal.returns
returns c =
    put_entry _ _ _ _ _ _ _ _ _ refl c.put_number.ensures c.put_number-2.ensures c.put_bytes.ensures
