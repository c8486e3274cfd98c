-- `walk_pass::skip` meets its contract: item by item, what remains is skipped as the whole.
use mathlib.Core.Path.{◌≡◌}
use Rattle.layouts.specs.Pieces.{run, skip_of}
use Rattle.walk_items.specs.Items.{version_of, pieces_of, rest_tree, fuel_of}
use Rattle.walk_pass.proofs.skip.Given as goal

abbrev pub invariant-loop-f : goal.invariant-loop-f
invariant-loop-f l = skip_of (run (rest_tree (version_of l.layout) l.pc l.reps l.body l.group tt) l.s l.at) ≡ skip_of (pieces_of l.layout l.s l.from)

abbrev pub decreases-loop-f : goal.decreases-loop-f
decreases-loop-f l = fuel_of l.s l.at l.pc l.reps l.group
