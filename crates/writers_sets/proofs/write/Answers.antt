-- `writers_sets::write` meets its contract: by what was judged.
use Rattle.std.proofs.lemmas.Result.{err_from_is_err_and}
use Rattle.writers_sets.proofs.Sets.{set_refused, set_held, set_done}
use Rattle.writers_sets.proofs.write.Goals as goal

pub returns-in_err-n : goal.returns-in_err-n
returns-in_err-n g c =
    let p = err_from_is_err_and c.from_residual.result c.from_residual.ensures.1 in
    let all = set_refused _ _ _ _ _ c.in_err-n.ensures in
    record { answer = rw (p.1, p.2) all.0; lent = all.1 }

pub put_set-requires : goal.put_set-requires
put_set-requires g c = set_held _ _ _ _ _ c.in_ok-n.ensures

pub returns : goal.returns
returns g c = let all = set_done _ _ _ _ _ c.in_ok-n.ensures _ c.put_set.ensures in record { answer = all.0; lent = all.1 }
