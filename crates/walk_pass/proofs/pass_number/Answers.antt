-- `walk_pass::pass_number` meets its contract.
use mathlib.Core.Path.{refl}
use Rattle.std.proofs.lemmas.Result.{err_from_is_err_and}
use Rattle.std.specs.Prelude.{Ok}
use native.Mathlib.Omega.{arith}
use Rattle.walk_pass.proofs.Passing.{cut_passes, value_passes, value_took}
use Rattle.walk_pass.proofs.pass_number.Goals as goal

pub returns-in_err-number_or_cut-clause-law : goal.returns-in_err-number_or_cut-clause-law
returns-in_err-number_or_cut-clause-law c =
    let p = err_from_is_err_and c.from_residual.result c.from_residual.ensures.1 in
    rw (p.1, p.2) (λ i. cut_passes _ _ _ c.in_err-number_or_cut.ensures.cut i (λ k n. k tt))

pub returns : goal.returns
returns c =
    record { law = λ i. value_passes _ _ _ c.in_ok-number_or_cut.ensures.whole i (λ k n. k tt) (Ok _) (λ k. refl); on = value_took c.args.s.now _ _ c.in_ok-number_or_cut.ensures.whole (Ok _) (omega arith) }
