-- What is still to come of a layout, from a state on: a tree. No stream is known here.
use Rattle.std.specs.Prelude.{ℕ, ◌+◌, ◌-◌, ◌*◌, ◌/◌, ◌%◌, ◌<◌, ◌≤◌, ◌≡◌, List, Bool, true, not, length, eqb, ltb}
use Rattle.layouts.specs.Primitive.{pick, Version, version, at_least}
use Rattle.layouts.specs.Shape.{as_number, kept, Tree, ask, say, stop, field, fields, repeated, groups, layout, truth, units, if_true, by_type, if_zero}
use Rattle.layouts.specs.Pieces.{Pieces, run}
use Rattle.table.specs.declared.Field.{Field}
use Rattle.table.specs.declared.PackedGroup.{PackedGroup}
use Rattle.table.specs.Packed.{size, nothing, empty_fields, one_number, one_string}
use Rattle.table.specs.Table.{field_at, group_at, role_of, target_of, what_of, items_at, groups_at, version_in}
use Rattle.walk_items.specs.declared.Item.{Item}
use Rattle.walk_items.specs.declared.Brief.{Brief}
use Rattle.walk_items.specs.declared.Brief.TheVariants as B

-- ---- a layout, as one number
abbrev pub spoken_of : (layout : ℕ) → ℕ
spoken_of l = l % 16777216

abbrev pub first_of : (layout : ℕ) → ℕ
first_of l = l / 16777216

abbrev pub version_of : (layout : ℕ) → Version
version_of l = version_in (spoken_of l)

abbrev pub layout_tree : (layout : ℕ) → Tree
layout_tree l = layout (version_of l) (groups_at (first_of l))

abbrev pub layout_pieces : Version → (first : ℕ) → List ℕ → (at : ℕ) → Pieces
layout_pieces v i s at = run (layout v (groups_at i)) s at

abbrev pub pieces_of : (layout : ℕ) → List ℕ → (at : ℕ) → Pieces
pieces_of l s at = layout_pieces (version_of l) (first_of l) s at

-- ---- no field at all, or a number or a string and no more
abbrev pub brief_of : (first : ℕ) → Brief
brief_of i = pick (eqb i nothing) B.Nothing (pick (eqb i empty_fields) B.Nothing (pick (eqb i one_number) B.Number (pick (eqb i one_string) B.Text B.Longer)))

abbrev pub Briefly : Tree → Brief → Type 0
Briefly t B.Nothing = t ≡ stop
Briefly t B.Number = t ≡ ask (as_number 0) (λ n. stop)
Briefly t B.Text = t ≡ say kept (λ u. stop)
Briefly t B.Longer = Unit {0}

-- ---- a state: the place of the next field, how often the body comes again, the place of the body, the next group
-- what follows the fields of a group
unfoldable pub group_tree : Version → (reps body run : ℕ) → Unit {0} → Tree
group_tree v reps body i u = repeated reps v (items_at body) (λ u. groups v (groups_at i) (λ u. stop))

unfoldable pub rest_tree : Version → (pc reps body run : ℕ) → Unit {0} → Tree
rest_tree v pc reps body i u = fields v (items_at pc) (group_tree v reps body i)

-- ---- an item and what follows it: the end; a field; nothing; a flag or a count, with the body as often as it says
abbrev pub times_of : (kind n : ℕ) → ℕ
times_of kind n = pick (eqb kind 17) (truth n) n

-- the body n times
abbrev pub onto : Version → Item → (n : ℕ) → Unit {0} → Tree
onto v r n = rest_tree v r.pc n r.body r.group

unfoldable pub item_tree : Version → Item → Tree
item_tree v r =
    pick (eqb r.kind 0) stop
    (pick (ltb r.kind 16) (field (what_of r.kind (role_of r.role) (target_of r.target)) (onto v r r.reps))
    (pick (eqb r.kind 16) (onto v r r.reps tt) (ask (target_of r.target) (λ n. onto v r (times_of r.kind n) tt))))

-- ---- the next item, as the table has it
abbrev pub item : (kind role target pc reps body run : ℕ) → Item
item kind role target pc reps body run = record { kind = kind; role = role; target = target; pc = pc; reps = reps; body = body; group = run }

-- is a field with this gate there?
abbrev pub is_there : Version → (gate minor : ℕ) → Bool
is_there v gate minor = pick (eqb gate 0) true (pick (eqb gate 1) (at_least v (version 1 minor)) (not (at_least v (version 1 minor))))

abbrev pub begin_item : (run : ℕ) → Item
begin_item i = pick (eqb (group_at i).kind 1) (item 16 0 0 (group_at i).start 0 (group_at i).start (i + 1)) (item 16 0 0 size 0 size i)

abbrev pub group_item : (run : ℕ) → PackedGroup → Item
group_item i x =
    pick (eqb x.kind 0) (item 0 0 0 size 0 size i)
    (pick (eqb x.kind 2) (item 17 0 x.target size 0 x.start (i + 1))
    (pick (eqb x.kind 3) (item 18 0 x.target size 0 x.start (i + 1)) (item 16 0 0 x.start 0 x.start (i + 1))))

abbrev pub after_fields : (reps body run : ℕ) → Item
after_fields reps body i = pick (ltb 0 reps) (item 16 0 0 body (reps - 1) body i) (group_item i (group_at i))

abbrev pub field_item : Version → (pc reps body run : ℕ) → Field → Item
field_item v pc reps body i f =
    pick (eqb f.kind 0) (after_fields reps body i)
    (pick (is_there v f.gate f.minor) (item f.kind f.role f.target (pc + 1) reps body i) (item 16 0 0 (pc + 1) reps body i))

unfoldable pub next_item : Version → (pc reps body run : ℕ) → Item
next_item v pc reps body i = field_item v pc reps body i (field_at pc)

-- ---- what follows the number of a field
abbrev pub target_for : (kind target : ℕ) → ℕ
target_for kind target = pick (eqb kind 6) 0 (pick (eqb kind 7) 0 (pick (eqb kind 8) 0 target))

unfoldable pub after_number : (kind role n : ℕ) → (Unit {0} → Tree) → Tree
after_number kind role n k =
    pick (eqb kind 3) (units (role_of role) 0 n k)
    (pick (eqb kind 4) (units (role_of role) 1 n k) (pick (eqb kind 6) (if_true n k) (pick (eqb kind 7) (by_type n k) (pick (eqb kind 8) (if_zero n k) (k tt)))))

-- ---- the measure: groups, then times, then fields. A u64 of times takes less than 2^75, and all of it less than 2^90
abbrev pub rank : (pc reps run : ℕ) → ℕ
rank pc reps i = (size - i) * 37778931862957161709568 + reps * 512 + (size - pc)

-- of a fold over a stream: bytes first, then the state
abbrev pub fuel_of : List ℕ → (at pc reps run : ℕ) → ℕ
fuel_of s at pc reps i = (length s - at) * 1237940039285380274899124224 + rank pc reps i

-- it falls with each field, and where nothing is read
abbrev pub Falls : (pc reps run : ℕ) → Item → Type 0
Falls pc reps i r = (r.kind ≡ 0 → ⊥) → r.kind ≤ 16 → rank r.pc r.reps r.group < rank pc reps i
