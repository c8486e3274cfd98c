-- `lintelow::lintelow_skip_op_args` meets its contract: the answer of the call is put.
use Rattle.lintelow_answers.proofs.Guard.{told_number, told_block}
use Rattle.lintelow.proofs.lintelow_skip_op_args.Goals as goal

pub returns : goal.returns
returns c =
    let e = rw c.mode.ensures at c.skip_op_args-passed.ensures in
    record { number = told_number _ _ _ _ e c.put.ensures.number; block = told_block _ _ _ _ e c.put.ensures.block }
