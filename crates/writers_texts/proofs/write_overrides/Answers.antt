-- `writers_texts::write_overrides` meets its contract.
use Rattle.layouts.specs.Writers.{overrides_text}
use Rattle.writers_texts.proofs.write_overrides.Goals as goal

pub returns : goal.returns
unfolding overrides_text
returns c = record { answer = c.write_decimal.ensures.answer; lent = c.write_decimal.ensures.lent }
