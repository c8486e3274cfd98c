-- `writers::write_u64` meets its contract.
use Rattle.layouts.specs.Primitive.{number_bytes}
use Rattle.writers.proofs.Laws.{little_done, little_full}
use Rattle.writers.proofs.write_u64.Goals as goal

pub returns-then-write : goal.returns-then-write
unfolding number_bytes
returns-then-write c =
    let a = c.args in
    let w = c.write in
    let all = little_done 8 a.x a.out.now w.new.out w.result w.ensures.done w.ensures.out c.if-write.true in record { answer = all.0; lent = all.1 }

pub returns : goal.returns
unfolding number_bytes
returns c =
    let a = c.args in
    let w = c.write in
    let all = little_full 8 a.x a.out.now w.new.out w.result w.ensures.done w.ensures.out c.if-write.false _ c.refuse.ensures in record { answer = all.0; lent = all.1 }
