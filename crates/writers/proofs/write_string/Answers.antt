-- `writers::write_string` meets its contract.
use Rattle.writers_output.specs.Answer.{meaning}
use Rattle.writers.proofs.Laws.{string_text, string_bad}
use Rattle.writers.proofs.write_string.Goals as goal

pub returns-then-is_text : goal.returns-then-is_text
returns-then-is_text c =
    let a = c.args in
    let t = c.is_text in
    let w = c.write_bytes in
    let all = string_text t.result a.c.now t.ensures a.out.now w.new.out (meaning w.result) c.if-is_text.true (w.ensures.answer, w.ensures.lent) in record { answer = all.0; lent = all.1 }

pub returns : goal.returns
returns c =
    let a = c.args in
    let t = c.is_text in
    let all = string_bad t.result a.c.now t.ensures a.out.now c.if-is_text.false _ c.refuse.ensures in record { answer = all.0; lent = all.1 }
