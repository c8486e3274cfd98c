-- `lintelow_answers::string` meets its contract: by what was read.
use mathlib.Core.Path.{sym, ◌∙◌, ap}
use Rattle.walk_judge.specs.Judged.{answer_as}
use Rattle.wire.specs.Answers.{spanned}
use Rattle.lintelow_answers.specs.Answers.{string_read}
use Rattle.lintelow_answers.proofs.string.Goals as goal
use Rattle.wire.specs.declared.Spanned.{Spanned}
use Rattle.layouts.specs.declared.Refusal.{Refusal}
use Rattle.std.specs.Prelude.{Result}

pub returns-in-Ok : goal.returns-in-Ok
returns-in-Ok c = c.fine.ensures ∙ ap (λ (x : Result Spanned Refusal). answer_as (string_read (spanned x))) (sym c.in-Ok.is)

pub returns-in-Err : goal.returns-in-Err
returns-in-Err c = c.refused_answer.ensures ∙ ap (λ (x : Result Spanned Refusal). answer_as (string_read (spanned x))) (sym c.in-Err.is)
