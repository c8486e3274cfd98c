-- `lintelow::writes::lintelow_write_op_args` meets its contract: a short block is refused, else the answer of the call is put.
use native.Mathlib.Omega.{arith}
use Rattle.writers_calls.proofs.Rows.{call_answers}
use Rattle.lintelow_answers.proofs.Guard.{write_short, write_long}
use Rattle.lintelow.proofs.writes.lintelow_write_op_args.Goals as goal

pub returns-then-block-lt-BLOCK : goal.returns-then-block-lt-BLOCK
returns-then-block-lt-BLOCK c =
    let h = write_short c.args.block.now _ _ _ c.if-block-lt-BLOCK.true in
    record { number = h.0; block = h.1.0; out = h.1.1; size = omega arith; held = (λ i. (c.type_inv.«record» i).fits, omega arith) }

pub returns : goal.returns
returns c =
    let m = c.mode.ensures in
    let w = c.write_op_args_bytes-r in
    let r = call_answers _ _ _ _ _ _ _ _ (rw m at w.ensures.answer, rw m at w.ensures.lent) in
    let h = write_long c.args.block.now _ _ _ c.if-block-lt-BLOCK.false w.result _ r _ c.write.ensures _ _ (c.put.ensures.number, c.put.ensures.block) in
    record { number = h.0; block = h.1.0; out = h.1.1; size = omega arith; held = (λ i. (c.type_inv.«record» i).fits, omega arith) }
