-- An arm of the match, and its last.
use Prim.Native.Nat.{ℕ, ◌/◌, ◌%◌}
use native.Mathlib.Omega.{arith}
use mathlib.Core.Path.{◌≡◌, refl, sym, ◌∙◌, ap, subst}
use mathlib.Core.List.{List, [], ◌∷◌, ◌++◌}
use mathlib.Core.Bool.{Bool, true, false}
use Rattle.layouts.specs.declared.Mode.{Mode}
use Rattle.layouts.specs.declared.Mode.TheVariants.{Ported, Published}
use Rattle.layouts.specs.Primitive.{pick}
use borrow.Author.Tests.{ne_eqb}
use Rattle.table.specs.declared.Row.{Row}
use Rattle.table.specs.Packed.{rows, published_rows}
use Rattle.table.specs.Table.{find_in, row_for}
use Rattle.table_operations.specs.Rows.{shape_in, unpacked, row_of, shape_of}
use Rattle.std.specs.Prelude.{eqb, Some, None}

-- op is the number of no row, as the last arm of a match is told
abbrev pub Missed : List Row → ℕ → Type 0 → Type 0
Missed [] op T = T
Missed (r ∷ rs) op T = Missed rs op (T × (op ≡ r.number → ⊥))

missed : (rs ss : List Row) (op : ℕ) (T : Type 0) → Missed rs op T → (find_in ss op ≡ find_in (rs ++ ss) op) × T
unfolding find_in
missed [] ss op T m = (refl, m)
missed (r ∷ rs) ss op T m =
    let h = missed rs ss op (T × (op ≡ r.number → ⊥)) m in
    (rw (ne_eqb r.number op (λ e. h.1.1 (sym e))) h.0, h.1.0)

pub none : (op : ℕ) → Missed rows op (Unit {0}) → row_of op 0 ≡ row_for Ported op
unfolding row_for row_of find_in
none op m = (missed rows [] op (Unit {0}) m).0

-- the rows of published mode stand before the others
pub others : (op x : ℕ) → Missed published_rows op (Unit {0}) → row_of op x ≡ row_for Ported op → row_of op x ≡ row_for Published op
unfolding row_for
others op x m e = e ∙ (missed published_rows rows op (Unit {0}) m).0

pub arm : (m : Mode) {op k : ℕ} (x : ℕ) → op ≡ k → row_of k x ≡ row_for m k → row_of op x ≡ row_for m op
arm m x e h = subst (λ (i : ℕ). row_of i x ≡ row_for m i) (sym e) h

-- what is divided by 1
pub by_one : (x kind : ℕ) → shape_in x 1 kind ≡ pick (eqb x 0) None (Some (record { first = x % 256; kind = x / kind % 256 }))
by_one x kind = let last : x / 1 ≡ x = omega arith in rw last

-- one shape of a row that was found
pub shaped : (first kind : Row → ℕ) (m : Mode) (op x : ℕ) → row_of op x ≡ row_for m op
    → pick (eqb x 0) None (Some (record { first = first (unpacked op x); kind = kind (unpacked op x) })) ≡ shape_of first kind (row_for m op)
unfolding row_of
shaped first kind m op x e = by (eqb x 0) refl ∙ ap (shape_of first kind) e
  where
    by : (b : Bool) → eqb x 0 ≡ b → pick b None (Some (record { first = first (unpacked op x); kind = kind (unpacked op x) })) ≡ shape_of first kind (pick b None (Some (unpacked op x)))
    by true q = refl
    by false q = refl
