-- A row as a number, and its three shapes.
use Rattle.std.specs.Prelude.{ℕ, ◌/◌, ◌%◌, eqb}
use Rattle.layouts.specs.Primitive.{pick}
use Rattle.table.specs.declared.Row.{Row}
use Rattle.table_operations.specs.declared.Shape.{Shape}
use Rattle.std.specs.Prelude.{Option, Some, None}

abbrev pub unpacked : (op x : ℕ) → Row
unpacked op x =
    record {
      number = op;
      arguments = x % 256;
      skipped = x / 256 % 256;
      reply = x / 65536 % 256;
      arguments_kind = x / 16777216 % 256;
      skipped_kind = x / 4294967296 % 256;
      reply_kind = x / 1099511627776 % 256;
    }

unfoldable pub row_of : (op x : ℕ) → Option Row
row_of op x = pick (eqb x 0) None (Some (unpacked op x))

-- ---- one shape of a row: its first group, and the code of its kinds
abbrev pub shape_in : (x first kind : ℕ) → Option Shape
shape_in x first kind = pick (eqb x 0) None (Some (record { first = x / first % 256; kind = x / kind % 256 }))

abbrev pub shape_of : (first kind : Row → ℕ) → Option Row → Option Shape
shape_of first kind None = None
shape_of first kind (Some r) = Some (record { first = (first r); kind = (kind r) })

abbrev pub arguments_of : Option Row → Option Shape
arguments_of = shape_of (λ r. r.arguments) (λ r. r.arguments_kind)

abbrev pub skipped_of : Option Row → Option Shape
skipped_of = shape_of (λ r. r.skipped) (λ r. r.skipped_kind)

abbrev pub reply_of : Option Row → Option Shape
reply_of = shape_of (λ r. r.reply) (λ r. r.reply_kind)
