-- `writers_fields::judge` meets its contract: by what is left of the numbers.
use Rattle.writers_fields.proofs.Gathering.{judge_fine, judge_other}
use Rattle.writers_fields.proofs.judge.Goals as goal

pub returns-then-all_zero-needs : goal.returns-then-all_zero-needs
returns-then-all_zero-needs c = let all = judge_fine _ _ _ _ _ _ c.framed_size-framed.ensures c.gather-needs.result
    (c.gather-needs.ensures.entries, (c.gather-needs.ensures.bytes, c.gather-needs.ensures.framed)) _ c.gather-needs.ensures.left _ c.all_zero.ensures
    c.if-all_zero-needs.true in record { entries = all.0; bytes = all.1.0; framed = all.1.1 }

pub returns : goal.returns
returns c = let all = judge_other _ _ _ _ _ _ c.framed_size-framed.ensures c.gather-needs.result
    (c.gather-needs.ensures.entries, (c.gather-needs.ensures.bytes, c.gather-needs.ensures.framed)) _ c.gather-needs.ensures.left _ c.all_zero.ensures
    c.if-all_zero-needs.false _ c.refuse.ensures in record { entries = all.0; bytes = all.1.0; framed = all.1.1 }
