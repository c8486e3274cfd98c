-- `pieces::number_at` meets its contract: by what `numbers::read` answers of the part.
use native.Mathlib.Omega.{arith}
use mathlib.Core.Path.{sym, ◌∙◌, ap}
use Rattle.layouts.proofs.Views.{num_short}
use Rattle.pieces.specs.Pieces.{num_read}
use Rattle.pieces.proofs.Numbers.{number_part}
use Rattle.pieces.proofs.number_at.Goals as goal

pub returns-then-s-at : goal.returns-then-s-at
returns-then-s-at c = sym (num_short _ _ _ (omega arith))

pub returns : goal.returns
returns c = ap num_read c.read.ensures ∙ number_part c.args.s.now c.args.at c.if-s-at.false
