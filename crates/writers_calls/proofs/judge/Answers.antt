-- `writers_calls::judge` meets its contract: by what the fields need.
use mathlib.Core.Path.{◌∙◌}
use native.Mathlib.Omega.{arith}
use Rattle.std.proofs.lemmas.Result.{err_from_is_err_and}
use Rattle.writers_calls.proofs.Judged.{judged_refused, judged_fine}
use Rattle.writers_calls.proofs.judge.Goals as goal

pub returns-in_err-used : goal.returns-in_err-used
returns-in_err-used g c =
    let p = err_from_is_err_and c.from_residual.result c.from_residual.ensures.1 in
    rw (p.1, p.2) (judged_refused _ _ _ _ _ _ (omega arith) c.judge-needs.result _ (c.slots-slots.ensures.slots ∙ g.met.T.Form.counted _) c.judge-needs.ensures.entries
    c.judge-needs.ensures.bytes _ c.in_err-used.was)

pub returns : goal.returns
returns g c =
    judged_fine _ _ _ _ _ _ (omega arith) c.judge-needs.result _ (c.slots-slots.ensures.slots ∙ g.met.T.Form.counted _) c.judge-needs.ensures.entries
    c.judge-needs.ensures.bytes _ c.in_ok-used.was _ c.judge_strings.ensures
