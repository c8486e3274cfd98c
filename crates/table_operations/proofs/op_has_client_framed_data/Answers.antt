-- `table_operations::op_has_client_framed_data` meets its contract, by what a row of the table and its absence say.
use Prim.Native.Nat.{ℕ}
use mathlib.Core.Path.{◌≡◌, sym, ◌∙◌, ap}
use mathlib.Core.Bool.{Bool}
use Rattle.layouts.specs.Primitive.{version, ok}
use Rattle.layouts.specs.declared.Mode.TheVariants.{Ported}
use Rattle.layouts.specs.declared.Refusal.{Refusal}
use Rattle.layouts.specs.Refusal.{plain, refused_by}
use Rattle.layouts.specs.Calls.{has_framed, op_has_client_framed_data}
use Rattle.table.specs.Table.{row_for}
use Rattle.table_operations.specs.Rows.{arguments_of}
use Rattle.table_operations.proofs.Shapes.{framed_said_lem, framed_refused}
use Rattle.table_operations.proofs.op_has_client_framed_data.Goals as goal
use Rattle.table_operations.specs.declared.Shape.{Shape}
use Rattle.std.specs.Prelude.{Option, Some, None}

not_known : (op n : ℕ) (x : Option Shape) → n ≡ 9 → x ≡ arguments_of (row_for Ported op) → x ≡ None → (r : Refusal) → r ≡ plain n 0 → refused_by r ≡ op_has_client_framed_data op
not_known op n x h e q r p = rw (p, h) (sym (framed_refused op (version 0 0) x e q))

known : (op : ℕ) (x : Option Shape) (k : Shape) (b : Bool) → x ≡ arguments_of (row_for Ported op) → x ≡ Some k → b ≡ has_framed op → ok b ≡ op_has_client_framed_data op
known op x k b e q f = ap ok f ∙ sym (framed_said_lem op (version 0 0) x e k.first k.kind q)

pub returns-in_default : goal.returns-in_default
returns-in_default c = search not_known

pub returns : goal.returns
returns c = known _ _ c.in-Some.field-0 _ c.arguments.ensures c.in-Some.is c.has_framed.ensures
