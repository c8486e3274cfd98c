-- `lintelow_answers::entry` meets its contract: by where the string lies.
use mathlib.Core.Path.{sym, ◌∙◌, ap}
use Rattle.walk_judge.specs.Judged.{answer_as}
use Rattle.entries.specs.Entries.{found}
use Rattle.lintelow_answers.specs.Answers.{entry_told}
use Rattle.lintelow_answers.proofs.entry.Goals as goal
use Rattle.entries.specs.declared.Located.{Located}
use Rattle.layouts.specs.declared.Refusal.{Refusal}
use Rattle.std.specs.Prelude.{Result}

pub returns-in-Ok : goal.returns-in-Ok
returns-in-Ok c = c.fine.ensures ∙ ap (λ (x : Result Located Refusal). answer_as (entry_told (found x))) (sym c.in-Ok.is)

pub returns-in-Err : goal.returns-in-Err
returns-in-Err c = c.refused_answer.ensures ∙ ap (λ (x : Result Located Refusal). answer_as (entry_told (found x))) (sym c.in-Err.is)
