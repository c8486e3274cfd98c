-- `walk_items::at_least` meets its contract: numbers of versions are in the order of versions.
use native.Mathlib.Omega.{arith}
use Rattle.walk_items.proofs.Versions.{in_order}
use Rattle.walk_items.proofs.at_least.Goals as goal

pub returns : goal.returns
returns c = in_order c.args.spoken c.args.bound (omega arith)
