-- `lintelow::reads::lintelow_skip_string_set` meets its contract: the answer of the call is put.
use mathlib.Core.Path.{◌∙◌, ap}
use Rattle.layouts.specs.Primitive.{Result}
use Rattle.layouts.specs.Judge.{Ended}
use Rattle.layouts.specs.Calls.{skip_string_set}
use Rattle.walk_judge.specs.Judged.{answer_as}
use Rattle.lintelow_answers.specs.Answers.{ended}
use Rattle.lintelow_answers.proofs.Guard.{told_number, told_block}
use Rattle.lintelow.proofs.reads.lintelow_skip_string_set.Goals as goal

pub returns : goal.returns
returns c =
    let e = c.number.ensures ∙ ap (λ (x : Result Ended). answer_as (ended x)) c.skip_string_set-r.ensures in record { number = told_number c.args.block.now (answer_as (ended (skip_string_set c.args.s.now c.args.at))) _ _ e c.put.ensures.number; block = told_block c.args.block.now (answer_as (ended (skip_string_set c.args.s.now c.args.at))) _ _ e c.put.ensures.block }
