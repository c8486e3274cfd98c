-- `writers_sets::judge_entry_in_both` meets its contract, by the place of the entry and its text.
use native.Mathlib.Omega.{arith}
use Rattle.std.proofs.lemmas.Result.{err_from_is_err_and}
use Rattle.entries.proofs.Places.{inside}
use Rattle.writers_sets.proofs.Sets.{entry_refused, entry_taken_lem}
use Rattle.writers_sets.proofs.judge_entry_in_both.Goals as goal

pub overflow_add-end : goal.overflow_add-end
overflow_add-end c = omega (arith, (inside _ _ _ _ c.find_in_both.ensures _ _ c.in_ok-place.was).within)

pub slice_bounds-judge_text-end : goal.slice_bounds-judge_text-end
slice_bounds-judge_text-end c = omega (arith, (inside _ _ _ _ c.find_in_both.ensures _ _ c.in_ok-place.was).within)

pub returns-in_err-place : goal.returns-in_err-place
returns-in_err-place c =
    let p = err_from_is_err_and c.from_residual.result c.from_residual.ensures.1 in
    rw (p.1, p.2) (entry_refused _ _ _ _ c.find_in_both.ensures _ c.in_err-place.was)

pub returns : goal.returns
returns c = entry_taken_lem _ _ _ _ c.find_in_both.ensures _ _ c.in_ok-place.was _ c.judge_text.ensures
