-- `lintelow::lintelow_read_op_args` meets its contract: a short block is refused, else the answer of the call is put.
use Rattle.lintelow_answers.proofs.Guard.{read_short, read_long}
use Rattle.lintelow.proofs.lintelow_read_op_args.Goals as goal

pub returns-then-block-lt-BLOCK : goal.returns-then-block-lt-BLOCK
returns-then-block-lt-BLOCK c = let all = read_short _ _ _ _ _ _ c.if-block-lt-BLOCK.true in record { number = all.0; block = all.1.0; entries = all.1.1.0; payload = all.1.1.1 }

pub returns : goal.returns
returns c =
    let m = c.mode.ensures in
    let said = c.read_op_args_bytes-said.ensures in
    let all = read_long _ _ _ _ _ _ c.if-block-lt-BLOCK.false _ _ _ (rw m at said.answer, (rw m at said.entries, rw m at said.payload)) _ _ (c.put_said.ensures.number, c.put_said.ensures.block) in record { number = all.0; block = all.1.0; entries = all.1.1.0; payload = all.1.1.1 }
