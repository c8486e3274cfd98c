-- `lintelow_answers::numbers` meets its contract: the numbers by their places.
use mathlib.Core.Path.{refl}
use Rattle.lintelow_answers.proofs.Laws.{block_by}
use Rattle.lintelow_answers.proofs.numbers.Goals as goal

pub returns : goal.returns
returns c = (search block_by, refl)
