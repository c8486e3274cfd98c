-- `lintelow::lintelow_parse_daemon_handshake` meets its contract: a short block is refused, else the answer of the call is put.
use Rattle.walk_judge.specs.Judged.{answer_as}
use Rattle.lintelow_answers.proofs.Guard.{called_short, called_long}
use Rattle.lintelow.proofs.lintelow_parse_daemon_handshake.Goals as goal

pub returns-then-block-lt-BLOCK : goal.returns-then-block-lt-BLOCK
returns-then-block-lt-BLOCK c = let all = called_short answer_as _ _ _ _ c.if-block-lt-BLOCK.true in record { number = all.0; block = all.1.0; entries = all.1.1 }

pub returns : goal.returns
returns c = let all = called_long answer_as _ _ _ _ c.if-block-lt-BLOCK.false _ c.parse_daemon_handshake_bytes-heard.ensures.answer _ _ (c.put_said.ensures.number, c.put_said.ensures.block) _
    c.parse_daemon_handshake_bytes-heard.ensures.entries in record { number = all.0; block = all.1.0; entries = all.1.1 }
