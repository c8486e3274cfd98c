-- `walk_judge::target_for` meets its contract: by the kind of the field.
use Rattle.walk_judge.proofs.Feeding.{own_target}
use Rattle.walk_judge.proofs.target_for.Goals as goal

pub returns-in-6 : goal.returns-in-6
returns-in-6 c = simp c.in-6.is

pub returns-in-7 : goal.returns-in-7
returns-in-7 c = simp c.in-7.is

pub returns-in-8 : goal.returns-in-8
returns-in-8 c = simp c.in-8.is

pub returns-in_default : goal.returns-in_default
returns-in_default c = search own_target
