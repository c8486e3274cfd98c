-- `walk_judge::judge_record` meets its contract.
use mathlib.Core.Path.{◌∙◌}
use Rattle.walk_judge.proofs.judge_record.Goals as goal

pub returns : goal.returns
returns c = c.answer_of.ensures ∙ c.judge-said.ensures.answer
