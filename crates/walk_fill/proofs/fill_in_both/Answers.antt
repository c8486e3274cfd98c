-- `walk_fill::fill_in_both` meets its contract: each room by its own call.
use Rattle.walk_fill.proofs.fill_in_both.Goals as goal

pub returns : goal.returns
returns c = record { words = c.fill.ensures.entries; bytes = c.fill_entries.ensures; payload = c.fill.ensures.payload }
