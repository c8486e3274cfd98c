-- `lintelow_answers::put_parts` meets its contract: the numbers at the front, or a block that is too short.
use Rattle.lintelow_answers.proofs.Laws.{put_short, put_long}
use Rattle.lintelow_answers.proofs.put_parts.Goals as goal

pub returns-then-block-lt-BLOCK : goal.returns-then-block-lt-BLOCK
returns-then-block-lt-BLOCK c = let all = put_short _ _ c.if-block-lt-BLOCK.true in record { number = all.0; block = all.1 }

pub returns : goal.returns
returns c = let all = put_long _ _ c.if-block-lt-BLOCK.false _ _ c.numbers-ns.ensures c.put_numbers.ensures in record { number = all.0; block = all.1 }
