-- `walk_shapes::read_number` meets its contract: a number, or none.
use mathlib.Core.Bool.{false}
use Rattle.std.proofs.lemmas.Result.{err_from_is_err_and}
use Rattle.table_operations.proofs.Itself.{plain}
use Rattle.walk_shapes.proofs.Brief.{short_said, number_said}
use Rattle.walk_shapes.proofs.read_number.Goals as goal

pub returns-in_err-x : goal.returns-in_err-x
returns-in_err-x c =
    let p = err_from_is_err_and c.from_residual.result c.from_residual.ensures.1 in
    rw (p.1, p.2) (short_said _ _ c.requires.0 _ _ c.in_err-x.ensures.cut)

pub returns : goal.returns
returns c =
    number_said _ _ c.requires.0 _ _ _ c.in_ok-x.ensures.whole (plain _ false _ c.requires.1)
