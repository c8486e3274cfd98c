-- `writers_calls::put_framed` meets its contract.
use mathlib.Core.Path.{◌∙◌}
use Rattle.writers_calls.proofs.Puts.{framed_put, framed_told}
use Rattle.writers_calls.proofs.put_framed.Goals as goal

pub returns : goal.returns
returns c = record {
  length = c.unwrap_or.ensures ∙ framed_told _ _ _ c.requires _ c.write_framed.ensures.answer;
  out = framed_put _ _ _ _ c.requires c.write_framed.ensures.lent;
}
