-- `walk_items::next` meets its contract: by the next field and its gate.
use native.Mathlib.Omega.{arith}
use Rattle.table.specs.Table.{field_of}
use Rattle.table.proofs.Tables.{packed_field, field_in}
use Rattle.walk_items.proofs.Trees.{field_ends, field_absent, field_here}
use mathlib.Core.Path.{ap}
use mathlib.Core.Bool.{not}
use Rattle.walk_items.proofs.next.Goals as goal

pub returns-then-kind-eq-END : goal.returns-then-kind-eq-END
returns-then-kind-eq-END c = let all = field_ends _ _ _ _ _ (field_of c.at-x.result) (packed_field _ _ c.at-x.ensures) _ c.if-kind-eq-END.true (c.after_fields.ensures.said, (c.after_fields.ensures.law, c.after_fields.ensures.falls)) in record { said = all.0; law = all.1.0; falls = all.1.1 }

pub overflow_add-later : goal.overflow_add-later
overflow_add-later c = let h = field_in _ (field_of c.at-x.result) (packed_field _ _ c.at-x.ensures) c.if-kind-eq-END.false in omega arith

pub returns-then-not-here : goal.returns-then-not-here
returns-then-not-here c = let all = field_absent _ _ _ _ _ (field_of c.at-x.result) (packed_field _ _ c.at-x.ensures) c.if-kind-eq-END.false _ c.is_there-here.ensures (ap not c.if-not-here.true) in record { said = all.0; law = all.1.0; falls = all.1.1 }

pub returns : goal.returns
returns c = let all = field_here _ _ _ _ _ (field_of c.at-x.result) (packed_field _ _ c.at-x.ensures) c.if-kind-eq-END.false _ c.is_there-here.ensures (ap not c.if-not-here.false) in record { said = all.0; law = all.1.0; falls = all.1.1 }
