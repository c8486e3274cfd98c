use native.Mathlib.Omega.{arith}
use Rattle.std.proofs.lemmas.Result.{err_from_is_err_and}
use Rattle.writers_sets.proofs.Sets.{judging_start, judging_turn, judging_refused, judging_end}
use Rattle.writers_sets.proofs.judge_strings_in_both.Goals as goal

pub loop-i-init : goal.loop-i-init
loop-i-init c = judging_start _ _ _ _ _ (omega arith)

pub returns-in_err-n : goal.returns-in_err-n
returns-in_err-n c =
    let p = err_from_is_err_and c.from_residual.result c.from_residual.ensures.1 in
    rw (p.1, p.2) (judging_refused _ _ _ _ _ _ _ c.loop-i.invariant c.loop-i-test.true _ c.in_err-n.ensures)

pub loop-i-preserved : goal.loop-i-preserved
loop-i-preserved c = judging_turn _ _ _ _ _ _ _ c.loop-i.invariant c.loop-i-test.true _ _ c.in_ok-n.ensures c.grow-sum.ensures

pub returns : goal.returns
returns c = search judging_end
