-- `walk_strings::pass` meets its contract: skipping what is left of the series is skipping the whole.
use Prim.Native.Nat.{◌-◌}
use lib.ListN.{length}
use Rattle.walk_strings.proofs.Series.{Passing}
use Rattle.walk_strings.specs.Strings.{Strides}
use Rattle.walk_strings.proofs.pass.Given as goal

abbrev pub invariant-loop-more : goal.invariant-loop-more
invariant-loop-more l = Passing l.s l.extra l.from l.pend l.left l.at l.p l.l × Strides l.expected l.step

abbrev pub decreases-loop-more : goal.decreases-loop-more
decreases-loop-more l = length l.s - l.at
