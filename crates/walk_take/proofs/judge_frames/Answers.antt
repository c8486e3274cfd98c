use mathlib.Core.Path.{refl, ap}
use native.Mathlib.Omega.{arith}
use Rattle.std.proofs.lemmas.Result.{err_from_is_err_and}
use Rattle.std.specs.Prelude.{Ok}
use Rattle.pieces.proofs.Nodes.{part_found}
use Rattle.walk_take.proofs.Frames.{framing_start, framing_wrong, framing_last, last_took, framing_stop, framing_on}
use Rattle.walk_take.proofs.judge_frames.Goals as goal

pub loop-next-init : goal.loop-next-init
loop-next-init c = framing_start _ _ _ _

pub returns-in_err-next-clause-law : goal.returns-in_err-next-clause-law
returns-in_err-next-clause-law c =
    let p = err_from_is_err_and c.from_residual.result c.from_residual.ensures.1 in
    rw (p.1, p.2) (framing_wrong _ _ _ _ _ _ c.loop-next.invariant _ c.in_err-next.ensures _ refl)

pub returns-in-Last : goal.returns-in-Last
returns-in-Last c =
    record { law = framing_last _ _ _ _ _ _ c.loop-next.invariant _ c.in_ok-next.ensures _ (ap Ok c.in-Last.is); on = last_took _ _ _ _ _ _ c.loop-next.invariant _ c.in_ok-next.ensures _ (ap Ok c.in-Last.is) }

pub returns-in_err-total-in-Part-clause-law : goal.returns-in_err-total-in-Part-clause-law
returns-in_err-total-in-Part-clause-law c =
    let p = err_from_is_err_and c.from_residual-in_err-total-in-Part.result c.from_residual-in_err-total-in-Part.ensures.1 in
    rw (p.1, p.2) (framing_stop _ _ _ _ _ _ c.loop-next.invariant _ c.in_ok-next.ensures _ _ _ (ap Ok c.in-Part.is) _ c.in_err-total-in-Part.ensures _ refl)

pub loop-next-smaller : goal.loop-next-smaller
loop-next-smaller c =
    omega (arith, part_found c.args.s.now _ _ c.in_ok-next.ensures _ _ _ (ap Ok c.in-Part.is))

pub loop-next-preserved : goal.loop-next-preserved
loop-next-preserved c =
    framing_on _ _ _ _ _ _ c.loop-next.invariant _ c.in_ok-next.ensures _ _ _ (ap Ok c.in-Part.is) _ c.in_ok-total-in-Part.ensures _ refl
