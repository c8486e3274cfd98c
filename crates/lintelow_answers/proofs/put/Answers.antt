-- `lintelow_answers::put` meets its contract: the parts of the answer are put.
use Rattle.lintelow_answers.proofs.Laws.{answer_block, put_as}
use Rattle.lintelow_answers.proofs.put.Goals as goal

pub returns : goal.returns
returns c = let all = put_as _ (answer_block c.args.a _ c.refusal-r.ensures) _ _ (c.put_parts.ensures.number, c.put_parts.ensures.block) in record { number = all.0; block = all.1 }
