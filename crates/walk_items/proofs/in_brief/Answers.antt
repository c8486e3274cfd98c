-- `walk_items::in_brief` meets its contract: by the place of the first group.
use Rattle.walk_items.proofs.Trees.{brief_nothing, brief_empty, brief_number, brief_text, brief_longer}
use Rattle.walk_items.proofs.in_brief.Goals as goal

pub returns-then-i : goal.returns-then-i
returns-then-i c = let all = brief_nothing _ _ c.first-i.ensures c.if-i.true in record { said = all.0; law = all.1 }

pub returns-then-i-2 : goal.returns-then-i-2
returns-then-i-2 c = let all = brief_empty _ _ c.first-i.ensures c.if-i.false c.if-i-2.true in record { said = all.0; law = all.1 }

pub returns-then-i-3 : goal.returns-then-i-3
returns-then-i-3 c = let all = brief_number _ _ c.first-i.ensures c.if-i.false c.if-i-2.false c.if-i-3.true in record { said = all.0; law = all.1 }

pub returns-then-i-4 : goal.returns-then-i-4
returns-then-i-4 c = let all = brief_text _ _ c.first-i.ensures c.if-i.false c.if-i-2.false c.if-i-3.false c.if-i-4.true in record { said = all.0; law = all.1 }

pub returns : goal.returns
returns c = let all = brief_longer _ _ c.first-i.ensures c.if-i.false c.if-i-2.false c.if-i-3.false c.if-i-4.false in record { said = all.0; law = all.1 }
