-- `walk_shapes::text_said` meets its contract: a refusal, or one entry and the end.
use mathlib.Core.Bool.{false}
use mathlib.Core.Path.{refl}
use Rattle.std.proofs.lemmas.Result.{err_from_is_err_and}
use Rattle.table_operations.proofs.Itself.{plain}
use Rattle.walk_shapes.proofs.OneText.{said_refused, said_fine}
use Rattle.walk_shapes.proofs.text_said.Goals as goal

pub returns-in_err-t : goal.returns-in_err-t
returns-in_err-t c =
    let p = err_from_is_err_and c.from_residual.result c.from_residual.ensures.1 in
    rw (p.1, p.2) (said_refused _ _ _ c.in_err-t.was _ refl)

pub returns : goal.returns
returns c = said_fine _ _ _ c.in_ok-t.was _ (λ v. plain _ false _ c.requires)
