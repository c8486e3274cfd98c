-- `writers::write_bytes` meets its contract.
use Rattle.layouts.specs.Writers.{string_bytes}
use Rattle.writers_output.proofs.Laws.{done, full}
use Rattle.writers.proofs.write_bytes.Goals as goal

pub returns-then-out-n : goal.returns-then-out-n
returns-then-out-n c =
    let a = c.args in
    let all = full (string_bytes a.c.now) _ _ c.string_length-n.ensures c.if-out-n.true _ c.refuse.ensures in record { answer = all.0; lent = all.1 }

pub returns : goal.returns
returns c =
    let a = c.args in
    let all = done (string_bytes a.c.now) a.out.now _ _ c.string_length-n.ensures c.if-out-n.false c.put_string.ensures in record { answer = all.0; lent = all.1 }
