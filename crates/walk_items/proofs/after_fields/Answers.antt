-- `walk_items::after_fields` meets its contract: once more, or the next group.
use Rattle.walk_items.proofs.Trees.{group_again, none_again}
use Rattle.walk_items.proofs.after_fields.Goals as goal

pub returns-then-reps-gt0 : goal.returns-then-reps-gt0
returns-then-reps-gt0 c = let all = group_again _ _ _ c.if-reps-gt0.true in record { said = all.0; law = all.1.0; falls = all.1.1 }

pub returns : goal.returns
returns c = let all = none_again _ _ _ _ c.if-reps-gt0.false (c.next_group.ensures.said, (c.next_group.ensures.law, c.next_group.ensures.falls)) in record { said = all.0; law = all.1.0; falls = all.1.1 }
