-- `lintelow::reads::lintelow_read_u64` meets its contract: the answer of the call is put.
use mathlib.Core.Path.{◌∙◌, ap}
use Rattle.layouts.specs.Primitive.{Result}
use Rattle.layouts.specs.Judge.{Ended}
use Rattle.layouts.specs.Calls.{read_number}
use Rattle.walk_judge.specs.Judged.{answer_as}
use Rattle.lintelow_answers.specs.Answers.{ended}
use Rattle.lintelow_answers.proofs.Guard.{told_number, told_block}
use Rattle.lintelow.proofs.reads.lintelow_read_u64.Goals as goal

pub returns : goal.returns
returns c =
    let e = c.number.ensures ∙ ap (λ (x : Result Ended). answer_as (ended x)) c.read_u64-r.ensures in record { number = told_number c.args.block.now (answer_as (ended (read_number c.args.s.now c.args.at))) _ _ e c.put.ensures.number; block = told_block c.args.block.now (answer_as (ended (read_number c.args.s.now c.args.at))) _ _ e c.put.ensures.block }
