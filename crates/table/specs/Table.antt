-- What the packed numbers say, in the words of `layouts`. Past its end the table reads as 0.
use Rattle.std.specs.Prelude.{ℕ, zero, suc, ◌-◌, ◌/◌, ◌%◌, List, [], ◌∷◌, ◌++◌, Bool, true, false, get_or, drop, ltb, eqb}
use Rattle.layouts.specs.declared.Mode.{Mode}
use Rattle.layouts.specs.declared.Mode.TheVariants.{Ported, Published}
use Rattle.layouts.specs.Primitive.{pick, Version, version}
use Rattle.layouts.specs.Shape.{Target, dropped, as_number, as_flag, as_count, as_presence, Role, passed, checked, kept, What, num, str, set, pairs, framed, maybe, typed, position, Gated, always, from, below, Group, once, opt, many}
use Rattle.table.specs.declared.Field.{Field}
use Rattle.table.specs.declared.PackedGroup.{PackedGroup}
use Rattle.table.specs.declared.Row.{Row}
use Rattle.table.specs.Numbered.{Numbered, just, numbered_value}
use Rattle.table.specs.Packed.{packed_table, rows, published_rows, first_code, kind_list}
use Rattle.std.specs.Prelude.{Option, Some, None}

abbrev pub field_of : ℕ → Field
field_of x = record { kind = x % 16; role = x / 16 % 4; target = x / 64 % 64; gate = x / 4096 % 4; minor = x / 16384 % 256 }

abbrev pub packed_group : ℕ → PackedGroup
packed_group x = record { kind = x % 4; target = x / 4 % 64; start = x / 256 }

unfoldable pub field_at : ℕ → Field
field_at pc = field_of (get_or packed_table pc 0)

unfoldable pub group_at : ℕ → PackedGroup
group_at i = packed_group (get_or packed_table i 0)

-- ---- roles and slots by number
unfoldable pub role_of : ℕ → Role
role_of r = pick (eqb r 0) passed (pick (eqb r 1) checked kept)

unfoldable pub target_of : ℕ → Target
target_of i =
    pick (eqb i 0) dropped
    (pick (ltb i 13) (as_number (i - 1)) (pick (ltb i 25) (as_flag (i - 13)) (pick (ltb i 28) (as_count (i - 25)) as_presence)))

-- ---- a field, and the fields of a group up to its end
unfoldable pub what_of : (kind : ℕ) → Role → Target → What
what_of kind r i =
    pick (eqb kind 2) (str r)
    (pick (eqb kind 5) framed
    (pick (eqb kind 3) (set r i) (pick (eqb kind 4) (pairs r i) (pick (eqb kind 6) maybe (pick (eqb kind 7) typed (pick (eqb kind 8) position (num i)))))))

unfoldable pub item_of : (gate minor : ℕ) → What → Gated
item_of gate minor w = pick (eqb gate 0) (always w) (pick (eqb gate 1) (from minor w) (below minor w))

-- what follows an end is not computed
unfoldable pub unless_end : {A : Type 0} → (ends : Bool) → A → (Unit {0} → List A) → List A
unless_end true x rest = []
unless_end false x rest = x ∷ rest tt

unfoldable pub cons_gated : Field → (Unit {0} → List Gated) → List Gated
unfolding what_of item_of role_of target_of
cons_gated f rest = unless_end (eqb f.kind 0) (item_of f.gate f.minor (what_of f.kind (role_of f.role) (target_of f.target))) rest

unfoldable pub items : List ℕ → List Gated
items [] = []
items (x ∷ xs) = cons_gated (field_of x) (λ u. items xs)

unfoldable pub items_at : ℕ → List Gated
items_at pc = items (drop pc packed_table)

-- ---- a group, and the groups of a layout up to its end
unfoldable pub group_of : (kind : ℕ) → Target → List Gated → Group
group_of kind i is = pick (eqb kind 2) (opt i is) (pick (eqb kind 3) (many i is) (once is))

unfoldable pub cons_group : PackedGroup → (Unit {0} → List Group) → List Group
cons_group r rest = unless_end (eqb r.kind 0) (group_of r.kind (target_of r.target) (items_at r.start)) rest

unfoldable pub groups_in : List ℕ → List Group
groups_in [] = []
groups_in (x ∷ xs) = cons_group (packed_group x) (λ u. groups_in xs)

unfoldable pub groups_at : ℕ → List Group
groups_at i = groups_in (drop i packed_table)

-- ---- a version as one number: 256 times its major, and its minor
abbrev pub version_in : ℕ → Version
version_in n = version (n / 256) (n % 256)

-- ---- the row of an operation
unfoldable pub find_in : List Row → (op : ℕ) → Option Row
find_in [] op = None
find_in (r ∷ rs) op = pick (eqb r.number op) (Some r) (find_in rs op)

-- published mode has rows of its own before the others
abbrev pub rows_in : Mode → List Row
rows_in Ported = rows
rows_in Published = published_rows ++ rows

unfoldable pub row_for : Mode → (op : ℕ) → Option Row
row_for m op = find_in (rows_in m) op

-- the i-th row of a mode's own
abbrev pub own_rows : Mode → List Row
own_rows Ported = rows
own_rows Published = published_rows

unfoldable pub row_in : List Row → (i : ℕ) → Option Row
row_in [] i = None
row_in (r ∷ rs) zero = Some r
row_in (r ∷ rs) (suc i) = row_in rs i

unfoldable pub row_at : Mode → (i : ℕ) → Option Row
row_at m i = row_in (own_rows m) i

-- ---- kinds by code: those of the list from the first code on, and any other code is the kind's number
unfoldable pub numbered_in : List Numbered → (first code : ℕ) → Numbered
numbered_in [] n c = just c
numbered_in (k ∷ ks) n c = pick (eqb c n) k (numbered_in ks (suc n) c)

unfoldable pub numbered_of : (code : ℕ) → Numbered
unfolding numbered_in
numbered_of c = numbered_in kind_list first_code c

abbrev pub kind_numbered : Version → (present : Bool) → (code : ℕ) → ℕ
kind_numbered v b c = numbered_value v b (numbered_of c)
