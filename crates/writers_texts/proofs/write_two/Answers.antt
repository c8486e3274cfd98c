-- `writers_texts::write_two` meets its contract.
use native.Mathlib.Omega.{arith}
use mathlib.Core.Path.{sym}
use mathlib.Core.List.{◌++◌}
use lib.ListN.{length, length-append}
use Rattle.writers_output.proofs.Laws.{done, full, then}
use Rattle.writers_texts.proofs.write_two.Goals as goal

pub returns-then-out-n : goal.returns-then-out-n
returns-then-out-n c =
    let a = c.args in
    let all = full (a.a.now ++ a.b.now) _ _ (sym (length-append a.a.now a.b.now)) c.if-out-n.true _ c.refuse.ensures in record { answer = all.0; lent = all.1 }

pub returns : goal.returns
returns c =
    let a = c.args in
    let all = done (a.a.now ++ a.b.now) _ _ _ (sym (length-append a.a.now a.b.now)) c.if-out-n.false
    (then _ _ _ 0 (length a.a.now) a.a.now a.b.now (omega arith) (omega arith) c.put.ensures c.put-2.ensures) in record { answer = all.0; lent = all.1 }
