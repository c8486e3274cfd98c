-- `writers_sets::judge_text` meets its contract: by the text.
use Rattle.writers_sets.proofs.Sets.{text_fine, text_bad}
use Rattle.writers_sets.proofs.judge_text.Goals as goal

pub returns-then-is_text : goal.returns-then-is_text
returns-then-is_text c = search text_fine

pub returns : goal.returns
returns c = text_bad c.args.i _ _ c.is_text.ensures c.if-is_text.false _ c.refuse.ensures
