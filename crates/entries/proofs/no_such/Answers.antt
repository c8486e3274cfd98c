-- `entries::no_such` meets its contract.
use Rattle.entries.proofs.no_such.Goals as goal

pub returns : goal.returns
returns c = c.refuse.ensures
