-- `pieces::padding` meets its contract.
use borrow.Author.Rules.{rules}
use Rattle.layouts.specs.Primitive.{pad_of}
use Rattle.pieces.proofs.padding.Goals as goal

pub returns : goal.returns
unfolding pad_of
returns c = search rules
