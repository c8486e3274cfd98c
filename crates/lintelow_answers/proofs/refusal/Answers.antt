-- `lintelow_answers::refusal` meets its contract: a fine answer has none.
use mathlib.Core.Path.{sym, ap, refl}
use Rattle.lintelow_answers.specs.Block.{refusal_of}
use Rattle.lintelow_answers.proofs.refusal.Goals as goal

pub returns-in-Err : goal.returns-in-Err
returns-in-Err c = (ap refusal_of (sym c.in-Err.is), refl)
