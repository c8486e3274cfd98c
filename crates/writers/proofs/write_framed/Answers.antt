-- `writers::write_framed` meets its contract.
use native.Mathlib.Omega.{arith}
use mathlib.Core.Path.{sym, ◌∙◌}
use Rattle.layouts.specs.Writers.{framed_bytes}
use Rattle.writers_output.proofs.Laws.{done, full}
use Rattle.writers.proofs.Framed.{length_framed}
use Rattle.writers.proofs.write_framed.Goals as goal

pub returns-then-out-n : goal.returns-then-out-n
returns-then-out-n c =
    let a = c.args in
    let all = full (framed_bytes a.c.now) _ _ (c.framed_length-n.ensures ∙ sym (length_framed a.c.now)) c.if-out-n.true _ c.refuse.ensures in record { answer = all.0; lent = all.1 }

pub put_framed-requires : goal.put_framed-requires
put_framed-requires c = omega (arith, length_framed c.args.c.now)

pub returns : goal.returns
returns c =
    let a = c.args in
    let all = done (framed_bytes a.c.now) _ _ _ (c.framed_length-n.ensures ∙ sym (length_framed a.c.now)) c.if-out-n.false c.put_framed.ensures in record { answer = all.0; lent = all.1 }
