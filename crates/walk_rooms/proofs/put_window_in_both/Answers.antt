-- `walk_rooms::put_window_in_both` meets its contract: each room by its own call.
use Rattle.walk_rooms.proofs.put_window_in_both.Goals as goal

pub returns : goal.returns
returns c = record { words = c.put_window.ensures; bytes = c.put_window-2.ensures }
