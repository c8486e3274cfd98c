-- `walk_items::next_group` meets its contract: by the kind of the next group.
use native.Mathlib.Omega.{arith}
use Rattle.table.specs.Table.{packed_group}
use Rattle.table.proofs.Tables.{packed_group_lem, group_in}
use Rattle.walk_items.proofs.Trees.{group_ends, group_flag, group_count, group_starts}
use Rattle.walk_items.proofs.next_group.Goals as goal

pub returns-then-kind-eq-END : goal.returns-then-kind-eq-END
returns-then-kind-eq-END c = let all = group_ends _ (packed_group c.at-x.result) (packed_group_lem _ _ c.at-x.ensures) c.if-kind-eq-END.true in record { said = all.0; law = all.1.0; falls = all.1.1 }

pub overflow_add-later : goal.overflow_add-later
overflow_add-later c = let h = group_in _ (packed_group c.at-x.result) (packed_group_lem _ _ c.at-x.ensures) c.if-kind-eq-END.false in omega arith

pub returns-then-kind-eq-OPT : goal.returns-then-kind-eq-OPT
returns-then-kind-eq-OPT c = let all = group_flag _ (packed_group c.at-x.result) (packed_group_lem _ _ c.at-x.ensures) c.if-kind-eq-OPT.true in record { said = all.0; law = all.1.0; falls = all.1.1 }

pub returns-then-kind-eq-MANY : goal.returns-then-kind-eq-MANY
returns-then-kind-eq-MANY c = let all = group_count _ (packed_group c.at-x.result) (packed_group_lem _ _ c.at-x.ensures) c.if-kind-eq-MANY.true in record { said = all.0; law = all.1.0; falls = all.1.1 }

pub returns : goal.returns
returns c = let all = group_starts _ (packed_group c.at-x.result) (packed_group_lem _ _ c.at-x.ensures) c.if-kind-eq-END.false c.if-kind-eq-OPT.false c.if-kind-eq-MANY.false in record { said = all.0; law = all.1.0; falls = all.1.1 }
