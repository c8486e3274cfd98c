-- `views::part` meets its contract: a place that is answered lies inside.
use native.Mathlib.Omega.{arith}
use Rattle.entries.proofs.Places.{inside}
use Rattle.views.proofs.Laws.{part, part_begins, empty, empty_begins}
use Rattle.views.proofs.part.Goals as goal

pub overflow_add-end : goal.overflow_add-end
overflow_add-end g c = omega (arith, (inside _ _ _ _ c.find.ensures _ _ c.in-Ok.is).within)

pub slice_bounds-result-end : goal.slice_bounds-result-end
slice_bounds-result-end g c = omega (arith, (inside _ _ _ _ c.find.ensures _ _ c.in-Ok.is).within)

pub returns-in-Ok : goal.returns-in-Ok
returns-in-Ok g c =
    record { part = part _ _ _ _ c.find.ensures _ _ c.in-Ok.is; place = part_begins _ _ _ _ c.find.ensures _ _ c.in-Ok.is _ _ }

pub returns-in-Err : goal.returns-in-Err
returns-in-Err g c = record { part = search empty; place = empty_begins _ _ _ _ c.find.ensures _ c.in-Err.is _ _ }
