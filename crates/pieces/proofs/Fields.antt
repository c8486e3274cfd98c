-- The trees of one field.
use mathlib.Core.Path.{◌≡◌, refl}
use Rattle.layouts.specs.Shape.{Target, Role, num, str, set, framed, ask, say, frames, stop, units, gated, fields, group, groups, layout}
use Rattle.layouts.specs.Shape as shape
use Rattle.layouts.specs.Calls.{field}

pub field_number : (i : Target) → field (num i) ≡ ask i (λ n. stop)
unfolding layout groups group fields gated shape.field
field_number i = refl

pub field_string : (m : Role) → field (str m) ≡ say m (λ u. stop)
unfolding layout groups group fields gated shape.field
field_string m = refl

pub field_set : (m : Role) (i : Target) → field (set m i) ≡ ask i (λ n. units m 0 n (λ u. stop))
unfolding layout groups group fields gated shape.field
field_set m i = refl

pub field_framed : field framed ≡ frames (λ u. stop)
unfolding layout groups group fields gated shape.field
field_framed = refl
