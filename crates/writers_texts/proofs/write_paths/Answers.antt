-- `writers_texts::write_paths` meets its contract.
use Rattle.layouts.specs.Writers.{paths_text}
use Rattle.writers_texts.proofs.write_paths.Goals as goal

pub returns : goal.returns
unfolding paths_text
returns c = record { answer = c.write_decimal.ensures.answer; lent = c.write_decimal.ensures.lent }
