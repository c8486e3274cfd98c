-- `numbers::read` meets its contract.
use Rattle.layouts.specs.Primitive.{number_at}
use native.Mathlib.Omega.{arith}
use borrow.Author.Rules.{rules}
use Rattle.numbers.proofs.Laws.{read_there, read_none}
use Rattle.numbers.proofs.read.Goals as goal

pub returns-then-s-lt8 : goal.returns-then-s-lt8
unfolding number_at
returns-then-s-lt8 c = read_none 8 c.args.s.now (omega arith)

pub eight-requires : goal.eight-requires
unfolding number_at
eight-requires c = search rules

pub returns : goal.returns
unfolding number_at
returns c = read_there 8 c.args.s.now _ (omega arith) c.eight.ensures
