-- `walk_fill::fill_entries_in_both` meets its contract: as far as entries go it is `fill_in_both`.
use Rattle.walk_fill.proofs.fill_entries_in_both.Goals as goal

pub returns : goal.returns
returns c = record { words = c.fill_in_both.ensures.words; bytes = c.fill_in_both.ensures.bytes }
