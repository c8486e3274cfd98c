-- `walk_judge::answer_of` meets its contract: by what is said.
use mathlib.Core.Path.{sym, ap}
use Rattle.walk_judge.specs.Judged.{answer_of}
use Rattle.walk_judge.proofs.answer_of.Goals as goal
use Rattle.walk_judge.specs.declared.Said.{Said}
use Rattle.layouts.specs.declared.Refusal.{Refusal}
use Rattle.std.specs.Prelude.{Result}

pub returns-in-Ok : goal.returns-in-Ok
returns-in-Ok c = ap (λ (x : Result Said Refusal). answer_of x c.args.numbers c.args.counts) (sym c.in-Ok.is)

pub returns-in-Err : goal.returns-in-Err
returns-in-Err c = ap (λ (x : Result Said Refusal). answer_of x c.args.numbers c.args.counts) (sym c.in-Err.is)
