-- `walk_items::begin` meets its contract: by the kind of the first group.
use native.Mathlib.Omega.{arith}
use mathlib.Core.Path.{◌≡◌, sym, ◌∙◌}
use Prim.Native.Nat.{ℕ}
use Rattle.table.specs.Table.{packed_group}
use Rattle.table.proofs.Tables.{packed_group_lem, group_in}
use Rattle.walk_items.proofs.Trees.{begin_inside, begin_before}
use Rattle.walk_items.proofs.begin.Goals as goal

pub overflow_add-result : goal.overflow_add-result
overflow_add-result c = let h = group_in _ (packed_group c.at-x.result) (packed_group_lem _ _ c.at-x.ensures) (λ z. let w : ◌≡◌ {A = ℕ} 1 0 = sym c.if-x-eq-ONCE.true ∙ z in omega arith) in omega arith

pub returns-then-x-eq-ONCE : goal.returns-then-x-eq-ONCE
returns-then-x-eq-ONCE c = let all = begin_inside _ _ c.first-i.ensures (packed_group c.at-x.result) (packed_group_lem _ _ c.at-x.ensures) c.if-x-eq-ONCE.true in record { said = all.0; law = all.1 }

pub returns : goal.returns
returns c = let all = begin_before _ _ c.first-i.ensures (packed_group c.at-x.result) (packed_group_lem _ _ c.at-x.ensures) c.if-x-eq-ONCE.false in record { said = all.0; law = all.1 }
