-- `lintelow_answers::skip_daemon_result` meets its contract: the end or the refusal, with a blank record.
use mathlib.Core.Path.{ap}
use Rattle.layouts.specs.declared.Record.{Record}
use Rattle.lintelow_answers.proofs.Skips.{result_is}
use Rattle.lintelow_answers.proofs.skip_daemon_result.Goals as goal
use Rattle.std.specs.Prelude.{Ok}

pub returns-in-Ok : goal.returns-in-Ok
returns-in-Ok c =
    result_is _ _ _ c.skip_daemon_result-k.ensures c.in-Ok.is _
    (ap (λ (x : Record). record { outcome = (Ok tt); kind = 0; ends = c.in-Ok.ends; ends2 = 0; found = x }) c.empty.ensures)

pub returns-in-Err : goal.returns-in-Err
returns-in-Err c = search result_is
