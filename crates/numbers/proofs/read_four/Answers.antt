-- `numbers::read_four` meets its contract.
use native.Mathlib.Omega.{arith}
use Rattle.numbers.proofs.Laws.{read_there, read_none}
use Rattle.numbers.proofs.read_four.Goals as goal

pub returns-then-s-lt4 : goal.returns-then-s-lt4
returns-then-s-lt4 c = read_none 4 c.args.s.now (omega arith)

pub returns : goal.returns
returns c = read_there 4 c.args.s.now _ (omega arith) c.four.ensures.0
