-- `lintelow::writes::lintelow_write_string_set` meets its contract: a short block is refused, else the answer of the call is put.
use borrow.Author.Rules.{rules}
use Rattle.lintelow_answers.proofs.Guard.{write_short, write_long}
use Rattle.lintelow.proofs.writes.lintelow_write_string_set.Goals as goal

pub returns-then-block-lt-BLOCK : goal.returns-then-block-lt-BLOCK
returns-then-block-lt-BLOCK c = let h = write_short c.args.block.now _ _ _ c.if-block-lt-BLOCK.true in record { number = h.0; block = h.1.0; out = h.1.1; size = search rules }

pub returns : goal.returns
returns c =
    let w = c.write_string_set_bytes-r in
    let h = write_long c.args.block.now _ _ _ c.if-block-lt-BLOCK.false w.result _ (w.ensures.answer, w.ensures.lent) _ c.write.ensures _ _ (c.put.ensures.number, c.put.ensures.block) in
    record { number = h.0; block = h.1.0; out = h.1.1; size = search rules }
