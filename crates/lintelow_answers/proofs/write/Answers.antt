-- `lintelow_answers::write` meets its contract: by what was written.
use mathlib.Core.Path.{sym, ◌∙◌, ap}
use Rattle.walk_judge.specs.Judged.{answer_as}
use Rattle.writers_output.specs.Answer.{meaning}
use Rattle.lintelow_answers.specs.Answers.{written}
use Rattle.lintelow_answers.proofs.write.Goals as goal
use Rattle.layouts.specs.declared.Refusal.{Refusal}
use Rattle.std.specs.Prelude.{ℕ, Result}

pub returns-in-Ok : goal.returns-in-Ok
returns-in-Ok c = c.fine.ensures ∙ ap (λ (x : Result ℕ Refusal). answer_as (written (meaning x))) (sym c.in-Ok.is)

pub returns-in-Err : goal.returns-in-Err
returns-in-Err c = c.refused_answer.ensures ∙ ap (λ (x : Result ℕ Refusal). answer_as (written (meaning x))) (sym c.in-Err.is)
