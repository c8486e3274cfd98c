-- The tree of a state is that of its next item: by the next field and its gate, by the next group.
use Prim.Native.Nat.{ℕ, zero, suc, ◌+◌, ◌-◌, ◌<◌, ◌≤◌}
use mathlib.Core.Path.{◌≡◌, refl, sym, ◌∙◌, ap, subst}
use mathlib.Core.List.{List, ◌∷◌}
use mathlib.Core.Bool.{Bool, true, false, not}
use lib.Dec.{eqb}
use native.Mathlib.Omega.{arith}
use borrow.Author.Tests.{eq-eqb, ne_eqb, lt-ltb, le-ltb}
use Rattle.layouts.specs.Primitive.{pick, Version, version, at_least}
use Rattle.layouts.specs.Shape.{What, Gated, always, from, below, Group, Tree, ask, stop, field, there, what, gated, fields, repeated, truth, group, groups, layout}
use Rattle.layouts.specs.Pieces.{run}
use Rattle.table.specs.declared.Field.{Field}
use Rattle.table.specs.declared.PackedGroup.{PackedGroup}
use Rattle.table.specs.Packed.{size, packed_table, nothing, empty_fields, one_number, one_string}
use Rattle.table.specs.Table.{field_at, group_at, role_of, target_of, what_of, item_of, unless_end, cons_gated, items, items_at, group_of, cons_group, groups_at}
use Rattle.table.specs.Claims.{others}
use Rattle.table.proofs.Tables.{items_step, groups_step, field_in, group_in}
use Rattle.walk_items.specs.declared.Item as I
use Rattle.walk_items.specs.declared.Brief.{Brief}
use Rattle.walk_items.specs.declared.Brief.TheVariants as B
use Rattle.walk_items.specs.Items.{first_of, version_of, layout_tree, layout_pieces, pieces_of, brief_of, Briefly, begin_item, group_tree, rest_tree, times_of, onto, item_tree, item, is_there, group_item, after_fields, field_item, next_item, Falls}

pub truth_some : (n : ℕ) → (n ≡ 0 → ⊥) → 1 ≡ truth n
truth_some zero h = absurd (h refl)
truth_some (suc n) h = refl

-- the state before the first item
pub layout_start : (l : ℕ) → rest_tree (version_of l) size 0 size (first_of l) tt ≡ layout_tree l
unfolding rest_tree group_tree fields repeated layout items_at items packed_table
layout_start l = refl

-- a layout that was made of a version and a place, as `walk_items::layout` makes it: its tree, and its pieces
pub tree_of : (l : ℕ) (v : Version) (i : ℕ) → (version_of l ≡ v) × (first_of l ≡ i) → layout_tree l ≡ layout v (groups_at i)
tree_of l v i e = ap (λ (w : Version). layout w (groups_at (first_of l))) e.0 ∙ ap (λ (j : ℕ). layout v (groups_at j)) e.1

pub pieces_of_lem : (l : ℕ) (v : Version) (i : ℕ) → (version_of l ≡ v) × (first_of l ≡ i) → (s : List ℕ) (at : ℕ) → pieces_of l s at ≡ layout_pieces v i s at
pieces_of_lem l v i e s at = ap (λ (t : Tree). run t s at) (tree_of l v i e)

-- ---- an item by its kind
module _ (v : Version) (r : I.Item) where
  pub end_item : r.kind ≡ 0 → item_tree v r ≡ stop
  unfolding item_tree
  end_item k = rw k

  pub quiet_item : r.kind ≡ 16 → item_tree v r ≡ onto v r r.reps tt
  unfolding item_tree
  quiet_item k = rw k

  pub times_item : 16 ≤ r.kind → (r.kind ≡ 16 → ⊥) → item_tree v r ≡ ask (target_of r.target) (λ n. onto v r (times_of r.kind n) tt)
  unfolding item_tree
  times_item a b = rw (ne_eqb r.kind 0 (λ k. omega arith), le-ltb r.kind 16 a, ne_eqb r.kind 16 b)

  pub field_item_lem : (r.kind ≡ 0 → ⊥) → r.kind < 16 → item_tree v r ≡ field (what_of r.kind (role_of r.role) (target_of r.target)) (onto v r r.reps)
  unfolding item_tree
  field_item_lem a b = rw (ne_eqb r.kind 0 a, lt-ltb r.kind 16 b)

-- ---- the next group
again_by : (n : ℕ) (v : Version) (is : List Gated) (k : Unit {0} → Tree) → 0 < n → repeated n v is k ≡ fields v is (λ u. repeated (n - 1) v is k)
unfolding repeated
again_by zero v is k h = absurd (omega arith)
again_by (suc n) v is k h =
    let e : suc n - 1 ≡ n = omega arith in
    ap (λ (j : ℕ). fields v is (λ u. repeated j v is k)) (sym e)

module _ (i : ℕ) (x : PackedGroup) (e : x ≡ group_at i) where
  module _ (v : Version) (body : ℕ) where
    group_cons : group_tree v 0 body i tt ≡ groups v (cons_group x (λ u. groups_at (i + 1))) (λ u. stop)
    unfolding group_tree repeated
    group_cons = rw e (ap (λ (gs : List Group). groups v gs (λ u. stop)) (groups_step i))

    group_is : (x.kind ≡ 0 → ⊥) → group_tree v 0 body i tt ≡ group v (group_of x.kind (target_of x.target) (items_at x.start)) (λ u. groups v (groups_at (i + 1)) (λ u. stop))
    unfolding groups cons_group unless_end
    group_is k = group_cons ∙ rw (ne_eqb x.kind 0 k)

  abbrev GroupMeets : I.Item → Type 0
  GroupMeets r = (r ≡ group_item i (group_at i)) × (((v : Version) (body : ℕ) → group_tree v 0 body i tt ≡ item_tree v r) × ((pc : ℕ) → Falls pc 0 i r))

  pub group_ends : x.kind ≡ 0 → GroupMeets (item 0 0 0 size 0 size i)
  unfolding item_tree groups cons_group unless_end
  group_ends k = (rw (← e, k), (λ v body. group_cons v body ∙ rw (eq-eqb x.kind 0 k), λ pc z l. absurd (z refl)))

  pub group_flag : x.kind ≡ 2 → GroupMeets (item 17 0 x.target size 0 x.start (i + 1))
  unfolding item_tree group group_of rest_tree group_tree fields items_at items packed_table
  group_flag k = (rw (← e, k), (λ v body. group_is v body (λ h. let y : ◌≡◌ {A = ℕ} 0 2 = sym h ∙ k in omega arith) ∙ rw k, λ pc z l. absurd (omega arith)))

  pub group_count : x.kind ≡ 3 → GroupMeets (item 18 0 x.target size 0 x.start (i + 1))
  unfolding item_tree group group_of rest_tree group_tree fields items_at items packed_table
  group_count k = (rw (← e, k), (λ v body. group_is v body (λ h. let y : ◌≡◌ {A = ℕ} 0 3 = sym h ∙ k in omega arith) ∙ rw k, λ pc z l. absurd (omega arith)))

  pub group_starts : (x.kind ≡ 0 → ⊥) → (x.kind ≡ 2 → ⊥) → (x.kind ≡ 3 → ⊥) → GroupMeets (item 16 0 0 x.start 0 x.start (i + 1))
  unfolding item_tree group group_of rest_tree group_tree repeated
  group_starts a b c = (
    rw (← e, ne_eqb x.kind 0 a, ne_eqb x.kind 2 b, ne_eqb x.kind 3 c),
    (λ v body. group_is v body a ∙ rw (ne_eqb x.kind 2 b, ne_eqb x.kind 3 c), λ pc z l. let h = group_in i x e a in omega arith),
  )

  pub once_starts : x.kind ≡ 1 → GroupMeets (item 16 0 0 x.start 0 x.start (i + 1))
  once_starts k =
      group_starts (λ u. let r : ◌≡◌ {A = ℕ} 1 0 = sym k ∙ u in omega arith) (λ u. let r : ◌≡◌ {A = ℕ} 1 2 = sym k ∙ u in omega arith)
      (λ u. let r : ◌≡◌ {A = ℕ} 1 3 = sym k ∙ u in omega arith)

module _ (reps body i : ℕ) where
  abbrev AfterMeets : I.Item → Type 0
  AfterMeets r = (r ≡ after_fields reps body i) × (((v : Version) → group_tree v reps body i tt ≡ item_tree v r) × ((pc : ℕ) → Falls pc reps i r))

  pub group_again : 0 < reps → AfterMeets (item 16 0 0 body (reps - 1) body i)
  unfolding item_tree group_tree rest_tree
  group_again h = (rw (lt-ltb 0 reps h), (λ v. again_by reps v (items_at body) (λ u. groups v (groups_at i) (λ u. stop)) h, λ pc z l. omega arith))

  pub none_again : (r : I.Item) → reps ≤ 0 → (r ≡ group_item i (group_at i)) × (((v : Version) (body : ℕ) → group_tree v 0 body i tt ≡ item_tree v r) × ((pc : ℕ) → Falls pc 0 i r)) → AfterMeets r
  none_again r h m =
      let z : reps ≡ 0 = omega arith in
      (rw (le-ltb 0 reps h) m.0, (λ v. ap (λ (n : ℕ). group_tree v n body i tt) z ∙ m.1.0 v body, λ pc. subst (λ (n : ℕ). Falls pc n i r) (sym z) (m.1.1 pc)))

-- ---- the next field
module _ (v : Version) (gate minor : ℕ) (w : What) where
  there_by : (a b : Bool) → there v (pick a (always w) (pick b (from minor w) (below minor w))) ≡ pick a true (pick b (at_least v (version 1 minor)) (not (at_least v (version 1 minor))))
  there_by true b = refl
  there_by false true = refl
  there_by false false = refl

  pub there_item : there v (item_of gate minor w) ≡ is_there v gate minor
  unfolding item_of
  there_item = there_by (eqb gate 0) (eqb gate 1)

  what_by : (a b : Bool) → what (pick a (always w) (pick b (from minor w) (below minor w))) ≡ w
  what_by true b = refl
  what_by false true = refl
  what_by false false = refl

  pub what_item : what (item_of gate minor w) ≡ w
  unfolding item_of
  what_item = what_by (eqb gate 0) (eqb gate 1)

not_true : (b : Bool) → not b ≡ true → b ≡ false
not_true true e = let z : ◌≡◌ {A = ℕ} 0 1 = cc in absurd (omega arith)
not_true false e = refl

not_false : (b : Bool) → not b ≡ false → b ≡ true
not_false true e = refl
not_false false e = let z : ◌≡◌ {A = ℕ} 0 1 = cc in absurd (omega arith)

not_so : false ≡ true → ⊥
not_so e = let z : ◌≡◌ {A = ℕ} 0 1 = cc in omega arith

small_kind : (pc : ℕ) (f : Field) → f ≡ field_at pc → f.kind < 16
unfolding field_at
small_kind pc f e = rw e (omega arith)

module _ (v : Version) (pc reps body i : ℕ) (f : Field) (e : f ≡ field_at pc) where
  abbrev what_is : What
  what_is = what_of f.kind (role_of f.role) (target_of f.target)

  abbrev later : Unit {0} → Tree
  later = rest_tree v (pc + 1) reps body i

  rest_cons : rest_tree v pc reps body i tt ≡ fields v (cons_gated f (λ u. items_at (pc + 1))) (group_tree v reps body i)
  unfolding rest_tree
  rest_cons = rw e (ap (λ (is : List Gated). fields v is (group_tree v reps body i)) (items_step pc))

  abbrev Meets : I.Item → Type 0
  Meets r = (r ≡ next_item v pc reps body i) × ((rest_tree v pc reps body i tt ≡ item_tree v r) × Falls pc reps i r)

  said : (r : I.Item) → r ≡ field_item v pc reps body i f → r ≡ next_item v pc reps body i
  unfolding next_item
  said r h = h ∙ ap (field_item v pc reps body i) e

  pub field_none : f.kind ≡ 0 → rest_tree v pc reps body i tt ≡ group_tree v reps body i tt
  unfolding fields cons_gated unless_end
  field_none k = rest_cons ∙ rw (eq-eqb f.kind 0 k)

  pub field_ends : (r : I.Item) → f.kind ≡ 0 → (r ≡ after_fields reps body i) × (((v : Version) → group_tree v reps body i tt ≡ item_tree v r) × ((pc : ℕ) → Falls pc reps i r)) → Meets r
  unfolding fields cons_gated unless_end
  field_ends r k m = (said r (rw (eq-eqb f.kind 0 k) m.0), (rest_cons ∙ rw (eq-eqb f.kind 0 k) (m.1.0 v), m.1.1 pc))

  module _ (a : f.kind ≡ 0 → ⊥) (b : Bool) (q : b ≡ is_there v f.gate f.minor) where
    abbrev one : Gated
    one = item_of f.gate f.minor what_is

    rest_item : rest_tree v pc reps body i tt ≡ fields v (one ∷ items_at (pc + 1)) (group_tree v reps body i)
    unfolding cons_gated unless_end
    rest_item = rest_cons ∙ rw (ne_eqb f.kind 0 a)

    item_gated : (y : Gated) → fields v (y ∷ items_at (pc + 1)) (group_tree v reps body i) ≡ gated (there v y) (what y) later
    unfolding fields rest_tree group_tree
    item_gated y = refl

    rest_gated : rest_tree v pc reps body i tt ≡ gated b what_is later
    rest_gated =
        rest_item ∙ item_gated one
        ∙ ap (λ (y : Bool). gated y (what one) later) (there_item v f.gate f.minor what_is ∙ sym q)
        ∙ ap (λ (w : What). gated b w later) (what_item v f.gate f.minor what_is)

    pub field_absent : not b ≡ true → Meets (item 16 0 0 (pc + 1) reps body i)
    unfolding item_tree gated
    field_absent h = (
      said _ (rw (ne_eqb f.kind 0 a, ← q, not_true b h)),
      (rest_gated ∙ ap (λ (y : Bool). gated y what_is later) (not_true b h), λ y k. let z = field_in pc f e a in omega arith),
    )

    pub field_here : not b ≡ false → Meets (item f.kind f.role f.target (pc + 1) reps body i)
    unfolding gated
    field_here h =
        let z = small_kind pc f e in (
          said _ (rw (ne_eqb f.kind 0 a, ← q, not_false b h)),
          (
            rest_gated ∙ ap (λ (y : Bool). gated y what_is later) (not_false b h) ∙ sym (field_item_lem v (item f.kind f.role f.target (pc + 1) reps body i) a z),
            λ y k. let g = field_in pc f e a in omega arith,
          ),
        )

-- ---- a layout that needs no fold
module _ (l i : ℕ) (q : i ≡ first_of l) where
  abbrev InBrief : Brief → Type 0
  InBrief b = (b ≡ brief_of (first_of l)) × Briefly (layout_tree l) b

  pub brief_nothing : i ≡ nothing → InBrief B.Nothing
  unfolding layout groups
  brief_nothing e = (rw (← q, eq-eqb i nothing e), rw (← q, e, ← others.none))

  module _ (a : i ≡ nothing → ⊥) where
    pub brief_empty : i ≡ empty_fields → InBrief B.Nothing
    unfolding layout groups group fields
    brief_empty e = (rw (← q, ne_eqb i nothing a, eq-eqb i empty_fields e), rw (← q, e, ← others.empty))

    module _ (b : i ≡ empty_fields → ⊥) where
      pub brief_number : i ≡ one_number → InBrief B.Number
      unfolding layout groups group fields gated field
      brief_number e = (rw (← q, ne_eqb i nothing a, ne_eqb i empty_fields b, eq-eqb i one_number e), rw (← q, e, ← others.number))

      module _ (c : i ≡ one_number → ⊥) where
        pub brief_text : i ≡ one_string → InBrief B.Text
        unfolding layout groups group fields gated field
        brief_text e = (rw (← q, ne_eqb i nothing a, ne_eqb i empty_fields b, ne_eqb i one_number c, eq-eqb i one_string e), rw (← q, e, ← others.string))

        pub brief_longer : (i ≡ one_string → ⊥) → InBrief B.Longer
        brief_longer d = (rw (← q, ne_eqb i nothing a, ne_eqb i empty_fields b, ne_eqb i one_number c, ne_eqb i one_string d), tt)

-- ---- where a layout begins
first_group : (l : ℕ) → layout_tree l ≡ group_tree (version_of l) 0 size (first_of l) tt
unfolding rest_tree fields items_at items packed_table
first_group l = sym (layout_start l)

module _ (l i : ℕ) (q : i ≡ first_of l) (x : PackedGroup) (e : x ≡ group_at i) where
  abbrev Begins : I.Item → Type 0
  Begins r = (r ≡ begin_item (first_of l)) × (rest_tree (version_of l) r.pc r.reps r.body r.group tt ≡ layout_tree l)

  pub begin_inside : x.kind ≡ 1 → Begins (item 16 0 0 x.start 0 x.start (i + 1))
  begin_inside k = (
    rw (← q, ← e, eq-eqb x.kind 1 k),
    sym
        (first_group l
        ∙ ap (λ (j : ℕ). group_tree (version_of l) 0 size j tt) (sym q)
        ∙ (once_starts i x e k).1.0 (version_of l) size
        ∙ quiet_item (version_of l) (item 16 0 0 x.start 0 x.start (i + 1)) refl),
  )

  pub begin_before : (x.kind ≡ 1 → ⊥) → Begins (item 16 0 0 size 0 size i)
  begin_before h = (rw (← q, ← e, ne_eqb x.kind 1 h), ap (λ (j : ℕ). rest_tree (version_of l) size 0 size j tt) q ∙ layout_start l)
