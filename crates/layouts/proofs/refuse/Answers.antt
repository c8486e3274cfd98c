-- `layouts::refuse` meets its contract.
use mathlib.Core.Path.{refl}
use Rattle.layouts.proofs.refuse.Goals as goal

pub returns : goal.returns
returns c = refl
