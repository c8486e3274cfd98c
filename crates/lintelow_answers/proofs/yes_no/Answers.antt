-- `lintelow_answers::yes_no` meets its contract: by the answer.
use mathlib.Core.Path.{sym, ◌∙◌, ap}
use mathlib.Core.Bool.{Bool}
use Rattle.layouts.specs.Primitive.{ok}
use Rattle.walk_judge.specs.Judged.{answer_as}
use Rattle.lintelow_answers.specs.Answers.{yes_no}
use Rattle.lintelow_answers.proofs.yes_no.Goals as goal

pub returns-then-b : goal.returns-then-b
returns-then-b c = c.fine.ensures ∙ ap (λ (x : Bool). answer_as (yes_no (ok x))) (sym c.if-b.true)

pub returns : goal.returns
returns c = c.fine-2.ensures ∙ ap (λ (x : Bool). answer_as (yes_no (ok x))) (sym c.if-b.false)
