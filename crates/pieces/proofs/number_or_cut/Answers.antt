-- `pieces::number_or_cut` meets its contract: by what `number_at` answers.
use Rattle.pieces.proofs.Numbers.{whole_number, cut_number}
use Rattle.pieces.proofs.number_or_cut.Goals as goal

pub returns-clause-whole : goal.returns-clause-whole
returns-clause-whole c = rw c.ok_or.ensures.value (whole_number _ _ _ c.refuse.ensures _ c.number_at.ensures)

pub returns-clause-cut : goal.returns-clause-cut
returns-clause-cut c = rw c.ok_or.ensures.value (cut_number _ _ _ c.refuse.ensures _ c.number_at.ensures)
