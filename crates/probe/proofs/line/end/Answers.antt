-- `probe::line::end` is safe and ends.
use mathlib.Core.Path.{sym}
use lib.Seq.{length-take-le}
use Rattle.probe.proofs.line.end.Goals as goal

pub slice_bounds-write_all-end-then-m-text : goal.slice_bounds-write_all-end-then-m-text
slice_bounds-write_all-end-then-m-text c = sym (length-take-le _ _ c.if-m-text.true)
