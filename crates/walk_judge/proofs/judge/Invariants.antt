-- `walk_judge::judge` meets its contract: item by item, what is to come is judged and kept as the whole.
use Rattle.layouts.specs.Judge.{judge_of}
use Rattle.walk_items.specs.Items.{version_of, pieces_of, fuel_of}
use Rattle.walk_take.specs.Taking.{ahead}
use Rattle.walk_judge.specs.Judged.{gathered}
use Rattle.walk_judge.proofs.Judging.{to_come, Going}
use Rattle.walk_judge.proofs.judge.Given as goal

abbrev pub invariant-loop-f : goal.invariant-loop-f
invariant-loop-f l = Going l.s l.slots l.room (judge_of l.s l.slots l.room (gathered l.initial.numbers l.initial.counts l.there l.entries l.payload) (pieces_of l.layout l.s l.from)) (ahead l.initial.window l.entries (pieces_of l.layout l.s l.from))
    (gathered l.numbers l.counts l.present l.n l.p) l.window (to_come l.s (version_of l.layout) l.at l.pc l.reps l.body l.group)

abbrev pub decreases-loop-f : goal.decreases-loop-f
decreases-loop-f l = fuel_of l.s l.at l.pc l.reps l.group
