-- A place of a list of rows, and one past its end.
use Prim.Native.Nat.{ℕ, zero, suc, ◌≤◌, ◌<◌}
use mathlib.Core.Path.{◌≡◌, refl, sym, ◌∙◌, ap}
use mathlib.Core.List.{List, [], ◌∷◌}
use native.Mathlib.Nat.{not-suc-le-zero, le_of_suc-le-suc}
use borrow.Author.Tests.{ltb-true, ltb-false}
use lib.ListN.{length, get_or}
use denote.Bor.{Bor}
use Rattle.std.specs.Prelude.{Option, Some, None}
use Rattle.std.specs.Option.{option_copied}
use Rattle.std.specs.Slice.{IsItemAt}
use Rattle.layouts.specs.declared.Mode.{Mode}
use Rattle.table.specs.declared.Row.{Row}
use Rattle.table.specs.Table.{row_in, own_rows, row_at}

row_past : (rs : List Row) (i : ℕ) → length rs ≤ i → None ≡ row_in rs i
unfolding row_in
row_past [] i h = refl
row_past (r ∷ rs) zero h = absurd (not-suc-le-zero h)
row_past (r ∷ rs) (suc i) h = row_past rs i (le_of_suc-le-suc h)

row_in_lem : (rs : List Row) (i : ℕ) (d : Row) → i < length rs → Some (get_or rs i d) ≡ row_in rs i
unfolding row_in
row_in_lem [] i d h = absurd (not-suc-le-zero h)
row_in_lem (r ∷ rs) zero d h = refl
row_in_lem (r ∷ rs) (suc i) d h = row_in_lem rs i d (le_of_suc-le-suc h)

by_item : (rs : List Row) (i : ℕ) (x : Option (Bor Row)) → IsItemAt rs i x → option_copied x ≡ row_in rs i
by_item rs i None g = row_past rs i (ltb-false i (length rs) (sym g.0))
by_item rs i (Some r) g = ap Some g.1 ∙ row_in_lem rs i r.now (ltb-true i (length rs) (sym g.0))

pub row_there : {m n : Mode} → m ≡ n → (i : ℕ) (x : Option (Bor Row)) → IsItemAt (own_rows n) i x → option_copied x ≡ row_at m i
unfolding row_at
row_there {m} {n} e i x g = rw e (by_item (own_rows n) i x g)
