-- `pieces::four_at` meets its contract: by what `numbers::read_four` answers of the part.
use mathlib.Core.Path.{◌∙◌, ap}
use Rattle.pieces.specs.Pieces.{num_read}
use Rattle.pieces.proofs.Numbers.{four_part, four_past}
use Rattle.pieces.proofs.four_at.Goals as goal

pub returns-then-at-s : goal.returns-then-at-s
returns-then-at-s c = ap num_read c.read_four.ensures ∙ four_part c.args.s.now c.args.at c.if-at-s.true

pub returns : goal.returns
returns c = four_past c.args.s.now c.args.at c.if-at-s.false
