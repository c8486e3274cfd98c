-- `probe_by_number::lent::first` is safe and ends.
use mathlib.Core.Path.{sym}
use lib.Seq.{length-take-le}
use Rattle.probe_by_number.proofs.lent.first.Goals as goal

pub slice_bounds-result-end : goal.slice_bounds-result-end
slice_bounds-result-end c = sym (length-take-le _ _ c.if-n-s.true)
