-- `walk_judge::note` meets its contract: by the target.
use Rattle.walk_judge.proofs.Judging.{in_none, in_number, in_flag, in_count, in_presence}
use Rattle.walk_judge.proofs.note.Goals as goal

pub returns-then-target-eq0 : goal.returns-then-target-eq0
returns-then-target-eq0 c = in_none _ _ _ _ _ c.if-target-eq0.true

pub returns-then-target-lt13 : goal.returns-then-target-lt13
returns-then-target-lt13 c = in_number _ _ _ _ _ c.if-target-eq0.false c.if-target-lt13.true

pub returns-then-target-lt25 : goal.returns-then-target-lt25
returns-then-target-lt25 c = in_flag _ _ _ _ _ c.if-target-eq0.false _ c.flag.ensures c.if-target-lt13.false c.if-target-lt25.true

pub returns-then-target-lt28 : goal.returns-then-target-lt28
returns-then-target-lt28 c = in_count _ _ _ _ _ c.if-target-eq0.false c.if-target-lt25.false c.if-target-lt28.true

pub returns : goal.returns
returns c = in_presence _ _ _ _ _ c.if-target-eq0.false c.if-target-lt28.false
