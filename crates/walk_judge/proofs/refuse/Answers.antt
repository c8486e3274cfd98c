-- `walk_judge::refuse` meets its contract.
use mathlib.Core.Path.{refl}
use Rattle.walk_judge.proofs.refuse.Goals as goal

pub returns : goal.returns
returns c = record { said = refl; answer = refl }
