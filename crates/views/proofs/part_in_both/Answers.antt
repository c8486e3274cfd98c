-- `views::part_in_both` meets its contract: a place that is answered lies inside.
use native.Mathlib.Omega.{arith}
use Rattle.entries.proofs.Places.{inside}
use Rattle.views.proofs.Laws.{part, part_begins, empty, empty_begins}
use Rattle.views.proofs.part_in_both.Goals as goal

pub overflow_add-end : goal.overflow_add-end
overflow_add-end c = omega (arith, (inside _ _ _ _ c.find_in_both.ensures _ _ c.in-Ok.is).within)

pub slice_bounds-result-end : goal.slice_bounds-result-end
slice_bounds-result-end c = omega (arith, (inside _ _ _ _ c.find_in_both.ensures _ _ c.in-Ok.is).within)

pub returns-in-Ok : goal.returns-in-Ok
returns-in-Ok c =
    record { part = part _ _ _ _ c.find_in_both.ensures _ _ c.in-Ok.is; place = part_begins _ _ _ _ c.find_in_both.ensures _ _ c.in-Ok.is _ _ }

pub returns-in-Err : goal.returns-in-Err
returns-in-Err c = record { part = search empty; place = empty_begins _ _ _ _ c.find_in_both.ensures _ c.in-Err.is _ _ }
