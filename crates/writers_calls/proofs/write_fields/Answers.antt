-- `writers_calls::write_fields` meets its contract: by what was judged.
use Rattle.std.proofs.lemmas.Result.{err_from_is_err_and}
use Rattle.writers_calls.proofs.Judged.{fields_refused, fields_planned, fields_done}
use Rattle.writers_calls.proofs.write_fields.Goals as goal

pub returns-in_err-n : goal.returns-in_err-n
returns-in_err-n g c =
    let p = err_from_is_err_and c.from_residual.result c.from_residual.ensures.1 in
    let all = fields_refused _ _ _ _ _ _ _ c.in_err-n.ensures in
    record { answer = rw (p.1, p.2) all.0; lent = all.1 }

pub put_items-requires : goal.put_items-requires
put_items-requires g c = fields_planned _ _ _ _ _ _ _ c.in_ok-n.ensures

pub returns : goal.returns
returns g c = let all = fields_done _ _ _ _ _ _ _ c.in_ok-n.ensures _ c.put_items.ensures in record { answer = all.0; lent = all.1 }
