-- `lintelow_answers::put_said` meets its contract: the parts of what is said are put.
use Rattle.lintelow_answers.proofs.Laws.{said_block, put_as}
use Rattle.lintelow_answers.proofs.put_said.Goals as goal

pub returns : goal.returns
returns c = let all = put_as _ (said_block c.args.said _ _ _ c.head.ensures) _ _ (c.put_parts.ensures.number, c.put_parts.ensures.block) in record { number = all.0; block = all.1 }
