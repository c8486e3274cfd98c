-- `probe_round_trip::line` is safe and ends.
use mathlib.Core.Path.{sym}
use lib.Seq.{length-take-le}
use Rattle.probe_round_trip.proofs.line.Goals as goal

pub slice_bounds-write_all-end : goal.slice_bounds-write_all-end
slice_bounds-write_all-end c = sym (length-take-le _ _ c.if-n-s.true)
