-- `lintelow_answers::passed` meets its contract: by where the skipper is.
use mathlib.Core.Path.{sym, ◌∙◌, ap}
use Rattle.walk_judge.specs.Judged.{answer_as}
use Rattle.wire.specs.Answers.{skipped_to}
use Rattle.lintelow_answers.specs.Answers.{passed_to}
use Rattle.lintelow_answers.proofs.passed.Goals as goal
use Rattle.layouts.specs.declared.Refusal.{Refusal}
use Rattle.wire.specs.declared.Cursor.{Cursor}
use Rattle.std.specs.Prelude.{Result}

pub returns-in-Ok : goal.returns-in-Ok
returns-in-Ok c = c.fine.ensures ∙ ap (λ (x : Result Cursor Refusal). answer_as (passed_to (skipped_to x))) (sym c.in-Ok.is)

pub returns-in-Err : goal.returns-in-Err
returns-in-Err c = c.refused_answer.ensures ∙ ap (λ (x : Result Cursor Refusal). answer_as (passed_to (skipped_to x))) (sym c.in-Err.is)
