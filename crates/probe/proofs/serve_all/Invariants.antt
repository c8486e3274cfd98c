-- `probe::serve_all` is safe and ends. The measure is the number of turns that are left.
use Rattle.probe.proofs.serve_all.Given as goal

abbrev pub invariant-loop-turns : goal.invariant-loop-turns
invariant-loop-turns l = Unit {0}

abbrev pub decreases-loop-turns : goal.decreases-loop-turns
decreases-loop-turns l = l.turns
