-- `writers::write_u32` meets its contract.
use Rattle.writers.proofs.Laws.{little_done, little_full}
use Rattle.writers.proofs.write_u32.Goals as goal

pub returns-then-write_four : goal.returns-then-write_four
returns-then-write_four c =
    let a = c.args in
    let w = c.write_four in
    let all = little_done 4 a.x a.out.now w.new.out w.result w.ensures.done w.ensures.out c.if-write_four.true in record { answer = all.0; lent = all.1 }

pub returns : goal.returns
returns c =
    let a = c.args in
    let w = c.write_four in
    let all = little_full 4 a.x a.out.now w.new.out w.result w.ensures.done w.ensures.out c.if-write_four.false _ c.refuse.ensures in record { answer = all.0; lent = all.1 }
