-- `lintelow::writes::lintelow_write_u64` meets its contract: a short block is refused, else the answer of the call is put.
use Rattle.lintelow_answers.proofs.Guard.{write_short, write_long}
use Rattle.lintelow.proofs.writes.lintelow_write_u64.Goals as goal

pub returns-then-block-lt-BLOCK : goal.returns-then-block-lt-BLOCK
returns-then-block-lt-BLOCK c = let all = write_short c.args.block.now _ _ _ c.if-block-lt-BLOCK.true in record { number = all.0; block = all.1.0; out = all.1.1 }

pub returns : goal.returns
returns c = let all = write_long c.args.block.now _ _ _ c.if-block-lt-BLOCK.false c.write_u64-r.result _ (c.write_u64-r.ensures.answer, c.write_u64-r.ensures.lent) _ c.write.ensures _ _
    (c.put.ensures.number, c.put.ensures.block) in record { number = all.0; block = all.1.0; out = all.1.1 }
