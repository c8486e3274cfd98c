-- `lintelow_answers::head` meets its contract: way by way.
use mathlib.Core.Path.{refl}
use Rattle.lintelow_answers.proofs.Laws.{head_fine, head_refused}
use Rattle.lintelow_answers.proofs.head.Goals as goal

pub returns-in-Ok : goal.returns-in-Ok
returns-in-Ok c = (search head_fine, refl)

pub returns-in-Err : goal.returns-in-Err
returns-in-Err c = (search head_refused, refl)
