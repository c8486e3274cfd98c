-- The tables are read by place: an entry past the end of a table is 0, and the fields of a group, the groups of a layout, follow one another.
use Prim.Native.Nat.{ℕ, zero, suc, ◌+◌, ◌%◌, ◌≤◌, ◌<◌}
use mathlib.Core.Path.{◌≡◌, refl, sym, ◌∙◌, ap}
use mathlib.Core.List.{List, [], ◌∷◌}
use lib.ListN.{length, get_or, drop}
use native.Mathlib.Omega.{arith}
use native.Mathlib.Nat.{not-suc-le-zero, le_of_suc-le-suc}
use native.Mathlib.Numerals.{add-one}
use native.Mathlib.Decide.{dec_lt}
use Rattle.table.specs.declared.Field.{Field}
use Rattle.table.specs.declared.PackedGroup.{PackedGroup}
use Rattle.table.specs.Packed.{size, packed_table}
use Rattle.table.specs.Table.{field_of, packed_group, field_at, group_at, unless_end, cons_gated, items, items_at, cons_group, groups_in, groups_at}

-- i is none of the first n numbers, as the last arm of a match is told
abbrev pub Misses : ℕ → ℕ → Type 0
Misses zero i = Unit {0}
Misses (suc n) i = Misses n i × (i ≡ n → ⊥)

pub missed : (n i : ℕ) → Misses n i → n ≤ i
missed zero i m = omega arith
missed (suc n) i m = let h = missed n i m.0 in let g : (i ≡ n → ⊥) = m.1 in omega arith

pub get_d_past {ℓ} : {A : Type ℓ} (l : List A) (i : ℕ) (d : A) → length l ≤ i → d ≡ get_or l i d
get_d_past [] i d h = refl
get_d_past (x ∷ l) zero d h = absurd (not-suc-le-zero h)
get_d_past (x ∷ l) (suc i) d h = get_d_past l i d (le_of_suc-le-suc h)

-- ---- one field, one group at a time
items_at_lem : (l : List ℕ) (i : ℕ) → items (drop i l) ≡ cons_gated (field_of (get_or l i 0)) (λ u. items (drop (suc i) l))
unfolding items cons_gated unless_end
items_at_lem [] zero = refl
items_at_lem [] (suc i) = refl
items_at_lem (f ∷ l) zero = refl
items_at_lem (f ∷ l) (suc i) = items_at_lem l i

pub items_step : (pc : ℕ) → items_at pc ≡ cons_gated (field_at pc) (λ u. items_at (pc + 1))
unfolding items_at field_at
items_step pc = items_at_lem packed_table pc ∙ ap (λ (i : ℕ). cons_gated (field_at pc) (λ u. items (drop i packed_table))) (sym (add-one pc))

groups_at_lem : (l : List ℕ) (i : ℕ) → groups_in (drop i l) ≡ cons_group (packed_group (get_or l i 0)) (λ u. groups_in (drop (suc i) l))
unfolding groups_in cons_group unless_end
groups_at_lem [] zero = refl
groups_at_lem [] (suc i) = refl
groups_at_lem (f ∷ l) zero = refl
groups_at_lem (f ∷ l) (suc i) = groups_at_lem l i

pub groups_step : (i : ℕ) → groups_at i ≡ cons_group (group_at i) (λ u. groups_at (i + 1))
unfolding groups_at group_at
groups_step i = groups_at_lem packed_table i ∙ ap (λ (j : ℕ). cons_group (group_at i) (λ u. groups_in (drop j packed_table))) (sym (add-one i))

-- ---- an entry that ends nothing is in the table
past_0 : (i : ℕ) → size ≤ i → get_or packed_table i 0 ≡ 0
unfolding packed_table
past_0 i h = sym (get_d_past packed_table i 0 h)

in_by : (i : ℕ) → (get_or packed_table i 0 ≡ 0 → ⊥) → Dec (i < size) → i < size
in_by i k (yes h) = h
in_by i k (no h) = absurd (k (past_0 i (omega arith)))

pub field_in : (pc : ℕ) (f : Field) → f ≡ field_at pc → (f.kind ≡ 0 → ⊥) → pc < size
unfolding field_at
field_in pc f e k = in_by pc (λ z. k (rw e (ap (λ (x : ℕ). x % 16) z))) (dec_lt pc size)

pub group_in : (i : ℕ) (r : PackedGroup) → r ≡ group_at i → (r.kind ≡ 0 → ⊥) → i < size
unfolding group_at
group_in i r e k = in_by i (λ z. k (rw e (ap (λ (x : ℕ). x % 4) z))) (dec_lt i size)

-- ---- what is packed at a place is a field, and a group
pub packed_field : (pc x : ℕ) → x ≡ get_or packed_table pc 0 → field_of x ≡ field_at pc
unfolding field_at
packed_field pc x e = ap field_of e

pub packed_group_lem : (i x : ℕ) → x ≡ get_or packed_table i 0 → packed_group x ≡ group_at i
unfolding group_at
packed_group_lem i x e = ap packed_group e

-- an arm of the match
pub entry : (l : List ℕ) {i k : ℕ} → i ≡ k → get_or l k 0 ≡ get_or l i 0
entry l e = ap (λ (j : ℕ). get_or l j 0) (sym e)
