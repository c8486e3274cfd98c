-- `lintelow_answers::count` meets its contract: by what was read.
use mathlib.Core.Path.{sym, ◌∙◌, ap}
use Rattle.walk_judge.specs.Judged.{answer_as}
use Rattle.wire.specs.Answers.{count_read}
use Rattle.lintelow_answers.specs.Answers.{ended}
use Rattle.lintelow_answers.proofs.count.Goals as goal
use Rattle.wire.specs.declared.Read.{Read}
use Rattle.layouts.specs.declared.Refusal.{Refusal}
use Rattle.std.specs.Prelude.{Result}

pub returns-in-Ok : goal.returns-in-Ok
returns-in-Ok c = ap (λ (x : Result Read Refusal). answer_as (ended (count_read x))) (sym c.in-Ok.is)

pub returns-in-Err : goal.returns-in-Err
returns-in-Err c = c.refused_answer.ensures ∙ ap (λ (x : Result Read Refusal). answer_as (ended (count_read x))) (sym c.in-Err.is)
