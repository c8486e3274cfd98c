-- `lintelow::lintelow_skip_daemon_result` meets its contract: the answer of the call is put.
use Rattle.lintelow_answers.proofs.Guard.{told_number, told_block}
use Rattle.lintelow.proofs.lintelow_skip_daemon_result.Goals as goal

pub returns : goal.returns
returns c =
    record { number = told_number _ _ _ _ c.skip_daemon_result-past.ensures c.put.ensures.number; block = told_block _ _ _ _ c.skip_daemon_result-past.ensures c.put.ensures.block }
