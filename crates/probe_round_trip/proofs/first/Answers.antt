-- `probe_round_trip::first` is safe and ends.
use mathlib.Core.Path.{sym}
use lib.Seq.{length-take-le}
use Rattle.probe_round_trip.proofs.first.Goals as goal

pub slice_bounds-result-end : goal.slice_bounds-result-end
slice_bounds-result-end c = sym (length-take-le _ _ c.if-n-s.true)
