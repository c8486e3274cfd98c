-- `lintelow::reads::lintelow_op_has_client_framed_data` meets its contract: the answer of the call is put.
use mathlib.Core.Path.{◌∙◌, ap}
use mathlib.Core.Bool.{Bool}
use Rattle.layouts.specs.Primitive.{Result}
use Rattle.layouts.specs.Calls.{op_has_client_framed_data}
use Rattle.walk_judge.specs.Judged.{answer_as}
use Rattle.lintelow_answers.specs.Answers.{yes_no}
use Rattle.lintelow_answers.proofs.Guard.{told_number, told_block}
use Rattle.lintelow.proofs.reads.lintelow_op_has_client_framed_data.Goals as goal

pub returns : goal.returns
returns c =
    let e = c.framed.ensures ∙ ap (λ (x : Result Bool). answer_as (yes_no x)) c.op_has_client_framed_data-f.ensures in record { number = told_number c.args.block.now (answer_as (yes_no (op_has_client_framed_data c.args.op))) _ _ e c.put.ensures.number; block = told_block c.args.block.now (answer_as (yes_no (op_has_client_framed_data c.args.op))) _ _ e c.put.ensures.block }
