use mathlib.Core.Path.{refl}
use native.Mathlib.Omega.{arith}
use Rattle.std.proofs.lemmas.Result.{err_from_is_err_and}
use Rattle.walk_take.proofs.Strings.{along_start, along_end, along_refused, along_on}
use Rattle.walk_take.proofs.judge_series.Goals as goal

pub loop-more-init : goal.loop-more-init
loop-more-init c = along_start _ _ _ _ _ _ _ _ _

pub returns : goal.returns
returns c = record { law = along_end _ _ _ _ _ _ _ _ _ _ _ _ _ _ c.loop-more.invariant _ c.after_next.ensures c.in_default.is; on = c.loop-more.invariant.on }

pub returns-in_err-t-clause-law : goal.returns-in_err-t-clause-law
returns-in_err-t-clause-law c =
    let p = err_from_is_err_and c.from_residual.result c.from_residual.ensures.1 in
    rw (p.1, p.2) (along_refused _ _ _ _ _ _ _ _ _ _ _ _ _ _ c.loop-more.invariant _ c.after_next.ensures _ _ c.in-Some.is _ _ c.in_err-t.ensures.law _ refl)

pub loop-more-smaller : goal.loop-more-smaller
loop-more-smaller c = let a = c.in_ok-t.ensures.on in omega arith

pub loop-more-preserved : goal.loop-more-preserved
loop-more-preserved c = along_on _ _ _ _ _ _ _ _ _ _ _ _ _ _ c.loop-more.invariant _ c.after_next.ensures _ _ c.in-Some.is _ _ c.in_ok-t.ensures.law _ _ refl c.in_ok-t.ensures.on
