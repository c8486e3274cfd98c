-- `wire::judge_framed` meets its contract: by what was judged.
use mathlib.Core.Path.{refl}
use Rattle.std.proofs.lemmas.Result.{err_from_is_err_and}
use Rattle.wire.proofs.Frames.{framed_refused, framed_judged}
use Rattle.wire.proofs.judge_framed.Goals as goal

pub returns-in_err-t : goal.returns-in_err-t
returns-in_err-t c =
    let p = err_from_is_err_and c.from_residual.result c.from_residual.ensures.1 in
    rw (p.1, p.2) (framed_refused _ _ _ _ c.in_err-t.ensures.law _ refl)

pub returns : goal.returns
returns c = framed_judged _ _ _ _ c.in_ok-t.ensures.law _ _ refl
