-- `lintelow_answers::framed` meets its contract: by the answer.
use mathlib.Core.Path.{sym, ◌∙◌, ap}
use Rattle.walk_judge.specs.Judged.{answer_as}
use Rattle.lintelow_answers.specs.Answers.{yes_no, framed_said}
use Rattle.lintelow_answers.proofs.framed.Goals as goal
use Rattle.layouts.specs.declared.Refusal.{Refusal}
use Rattle.std.specs.Prelude.{Bool, Result}

pub returns-in-Ok : goal.returns-in-Ok
returns-in-Ok c = c.yes_no.ensures ∙ ap (λ (x : Result Bool Refusal). answer_as (yes_no (framed_said x))) (sym c.in-Ok.is)

pub returns-in-Err : goal.returns-in-Err
returns-in-Err c = c.refused_answer.ensures ∙ ap (λ (x : Result Bool Refusal). answer_as (yes_no (framed_said x))) (sym c.in-Err.is)
