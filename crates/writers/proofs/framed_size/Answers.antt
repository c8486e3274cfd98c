-- `writers::framed_size` meets its contract.
use mathlib.Core.Path.{◌∙◌, sym}
use Rattle.writers.proofs.Framed.{length_framed}
use Rattle.writers.proofs.framed_size.Goals as goal

pub returns : goal.returns
returns c = c.framed_length.ensures ∙ sym (length_framed c.args.c.now)
