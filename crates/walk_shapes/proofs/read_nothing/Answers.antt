-- `walk_shapes::read_nothing` meets its contract: a layout without fields is read as nothing.
use mathlib.Core.Bool.{false}
use Rattle.table_operations.proofs.Itself.{plain}
use Rattle.walk_shapes.proofs.Brief.{nothing_said}
use Rattle.walk_shapes.proofs.read_nothing.Goals as goal

pub returns : goal.returns
returns c = let p = c.requires in nothing_said _ _ p.0 _ (plain _ false _ p.1)
