-- `writers_output::string_length` meets its contract.
use native.Mathlib.Omega.{arith}
use Rattle.writers_output.proofs.Laws.{length_string}
use Rattle.writers_output.proofs.string_length.Goals as goal

pub returns : goal.returns
returns c = omega (arith, length_string c.args.c.now)
