-- A call by the row of its operation: 9, 13, or its fields.
use Prim.Native.Nat.{ℕ, zero, suc, ◌+◌, ◌<◌}
use mathlib.Core.Path.{◌≡◌, refl, sym, ◌∙◌, ap}
use mathlib.Core.List.{List, [], ◌∷◌, ◌++◌}
use mathlib.Core.Bool.{Bool, true, false}
use lib.ListN.{length, get_or, drop, drop_of_length-le}
use lib.Dec.{eqb}
use native.Mathlib.Omega.{arith}
use native.Mathlib.Decide.{ℕ_discrete}
use borrow.Author.Tests.{eq-eqb, ne_eqb}
use Rattle.layouts.specs.declared.Refusal.{Refusal}
use Rattle.layouts.specs.Primitive.{pick, Version, little_at, number_at, unknown_operation, no_arguments, Result, ok, refused, onward}
use Rattle.layouts.specs.Refusal.{plain, refused_by}
use Rattle.layouts.specs.Shape.{What}
use Rattle.layouts.specs.Calls.{Context}
use Rattle.layouts.specs.Judge.{lent_after}
use Rattle.layouts.specs.CallWriter.{fields_there, call_fields, shape_bytes, call_bytes, write_bytes, write_op_args}
use Rattle.table.specs.declared.PackedGroup.{PackedGroup}
use Rattle.table.specs.Packed.{size, packed_table}
use Rattle.table.specs.Table.{group_at, items_at, items, unless_end, group_of, cons_group, groups_at, row_for, kind_numbered, version_in}
use Rattle.table.proofs.Rows.{first_fields}
use Rattle.table.proofs.Tables.{groups_step}
use Rattle.table_operations.specs.Rows.{arguments_of}
use Rattle.table_operations.proofs.Shapes.{shape_refuses, call_says}
use Rattle.walk_items.specs.declared.Item as I
use Rattle.walk_items.specs.Items.{spoken_of, first_of, version_of, begin_item}
use Rattle.writers_fields.specs.Fields.{fields_at}
use Rattle.writers_calls.specs.Calls.{bytes_or, after_bytes, call_written}
use Rattle.table_operations.specs.declared.Shape.{Shape}
use Rattle.std.specs.Prelude.{Option, Some, None}

pub number_low : (s : List ℕ) (at x : ℕ) → x ≡ little_at 8 s at → x ≡ number_at s at
unfolding number_at
number_low s at x e = e

-- ---- the first field of a layout
no_items : (v : Version) → fields_there v (items_at size) ≡ []
unfolding items_at items packed_table fields_there
no_items v = refl

small_kind : (i : ℕ) (g : PackedGroup) → g ≡ group_at i → g.kind < 4
unfolding group_at
small_kind i g e = rw e (omega arith)

begins_by : (v : Version) (i : ℕ) (g : PackedGroup) → g ≡ group_at i
    → first_fields v (cons_group g (λ u. groups_at (i + 1))) ≡ fields_there v (items_at (pick (eqb g.kind 1) g.start size))
unfolding cons_group unless_end group_of
begins_by v i g e = go (ℕ_discrete g.kind 1) (ℕ_discrete g.kind 0) (ℕ_discrete g.kind 2) (ℕ_discrete g.kind 3)
  where
    go : Dec (g.kind ≡ 1) → Dec (g.kind ≡ 0) → Dec (g.kind ≡ 2) → Dec (g.kind ≡ 3)
        → first_fields v (cons_group g (λ u. groups_at (i + 1))) ≡ fields_there v (items_at (pick (eqb g.kind 1) g.start size))
    go (yes a) b c d = rw a
    go (no a) (yes b) c d = rw b (sym (no_items v))
    go (no a) (no b) (yes c) d = rw c (sym (no_items v))
    go (no a) (no b) (no c) (yes d) = rw d (sym (no_items v))
    go (no a) (no b) (no c) (no d) = let h = small_kind i g e in absurd (omega arith)

pc_by : (c : Bool) (a b : I.Item) → (pick c a b).pc ≡ pick c a.pc b.pc
pc_by true a b = refl
pc_by false a b = refl

begins : (v : Version) (i : ℕ) (x : I.Item) → x ≡ begin_item i → first_fields v (groups_at i) ≡ fields_there v (items_at x.pc)
begins v i x e =
    ap (first_fields v) (groups_step i) ∙ begins_by v i (group_at i) refl
    ∙ ap (λ (j : ℕ). fields_there v (items_at j)) (sym (ap (λ (y : I.Item). y.pc) e ∙ pc_by (eqb (group_at i).kind 1) _ _))

-- ---- by the row
module _ (c : Context) (ns b es p lent : List ℕ) (y : Option Shape) (e : y ≡ arguments_of (row_for c.mode c.op)) where
  abbrev v : Version
  v = c.spoken

  abbrev Answer : Result ℕ → List ℕ → Type 0
  Answer o lent' = (o ≡ write_bytes (call_bytes c ns b es p) lent) × (lent' ≡ after_bytes (call_bytes c ns b es p) lent)

  by_fields : (r : Result (List What)) → call_fields c ≡ r → call_bytes c ns b es p ≡ onward r (λ ws. shape_bytes ns b es p ws)
  unfolding call_bytes
  by_fields r q = ap (λ (x : Result (List What)). onward x (λ ws. shape_bytes ns b es p ws)) q

  stays : (n : ℕ) → call_bytes c ns b es p ≡ refused n 0 0 → (r : Refusal) → r ≡ plain n 0 → Answer (refused_by r) lent
  stays n q r f = rw (q, f) (refl, refl)

  pub call_unknown : y ≡ None → (r : Refusal) → r ≡ plain unknown_operation 0 → Answer (refused_by r) lent
  call_unknown q r f = stays unknown_operation (by_fields _ (shape_refuses c y _ _ e q).call) r f

  module _ (i k : ℕ) (q : y ≡ Some (record { first = i; kind = k })) (l : ℕ) (w : (version_of l ≡ v) × (first_of l ≡ i)) (s : ℕ) (es# : s ≡ spoken_of l) (n : ℕ) (en : n ≡ kind_numbered (version_in s) false k) where
    kind_is : n ≡ kind_numbered v false k
    kind_is = en ∙ ap (λ (z : ℕ). kind_numbered (version_in z) false k) es# ∙ ap (λ (z : Version). kind_numbered z false k) w.0

    pub call_none : n ≡ 0 → (r : Refusal) → r ≡ plain no_arguments 0 → Answer (refused_by r) lent
    call_none z r f =
        let h : kind_numbered v false k ≡ 0 = sym kind_is ∙ z in
        stays no_arguments (by_fields (refused no_arguments 0 0) (call_says c y i k e q ∙ rw (eq-eqb (kind_numbered v false k) 0 h))) r f

    pub call_fields_lem : (n ≡ 0 → ⊥) → (x : I.Item) → x ≡ begin_item (first_of l) → (o : Result ℕ) (lent' : List ℕ)
        → (o ≡ write_bytes (shape_bytes ns b es p (fields_at l x.pc)) lent) × (lent' ≡ after_bytes (shape_bytes ns b es p (fields_at l x.pc)) lent) → Answer o lent'
    call_fields_lem z x f o lent' a =
        let h : kind_numbered v false k ≡ 0 → ⊥ = λ g. z (kind_is ∙ g) in
        let g : first_fields v (groups_at i) ≡ fields_at l x.pc =
        begins v i x (f ∙ ap begin_item w.1) ∙ ap (λ (u : Version). fields_there u (items_at x.pc)) (sym w.0) in
        let d : call_fields c ≡ ok (fields_at l x.pc) =
        call_says c y i k e q ∙ ap (λ (t : Bool). pick t (refused no_arguments 0 0) (ok (first_fields v (groups_at i)))) (ne_eqb (kind_numbered v false k) 0 h) ∙ ap ok g in
        rw (by_fields (ok (fields_at l x.pc)) d) a

-- ---- with the numbers from where they stand
module _ (c : Context) (ns ns' b es p lent lent' : List ℕ) (o : Result ℕ) where
  pub by_numbers : (o ≡ write_bytes (call_bytes c ns b es p) lent) × (lent' ≡ after_bytes (call_bytes c ns b es p) lent) → ns ≡ ns'
      → (o ≡ (call_written c ns' b es p lent).answer) × (lent' ≡ (call_written c ns' b es p lent).lent)
  unfolding call_written write_op_args
  by_numbers a e = rw (← e) a

-- n elements from number k on
abbrev reads : (n k : ℕ) → List ℕ → List ℕ
reads zero k l = []
reads (suc n) k l = get_or l k 0 ∷ reads n (k + 1) l

drop_one : (k : ℕ) (l : List ℕ) → k < length l → drop k l ≡ get_or l k 0 ∷ drop (k + 1) l
drop_one k [] h = absurd (omega arith)
drop_one zero (a ∷ l) h = refl
drop_one (suc k) (a ∷ l) h = let e : suc k + 1 ≡ suc (k + 1) = omega arith in rw e (drop_one k l (omega arith))

reads_rest : (n k : ℕ) (l : List ℕ) → k + n ≡ length l → reads n k l ≡ drop k l
reads_rest zero k l h = sym (drop_of_length-le l {i = k} (omega arith))
reads_rest (suc n) k l h = ap (λ (r : List ℕ). get_or l k 0 ∷ r) (reads_rest n (k + 1) l (omega arith)) ∙ sym (drop_one k l (omega arith))

pub record_numbers : (ns cs : List ℕ) → length ns ≡ 12 → length cs ≡ 3 → reads 12 0 ns ++ reads 3 0 cs ≡ ns ++ cs
record_numbers ns cs h g = ap (λ (l : List ℕ). l ++ reads 3 0 cs) (reads_rest 12 0 ns (omega arith)) ∙ ap (λ (l : List ℕ). ns ++ l) (reads_rest 3 0 cs (omega arith))

-- what is answered, by the definition
pub call_answers : (c : Context) (ns b es p lent lent' : List ℕ) (o : Result ℕ)
    → (o ≡ (call_written c ns b es p lent).answer) × (lent' ≡ (call_written c ns b es p lent).lent)
    → (o ≡ write_op_args c ns b es p lent) × (lent' ≡ lent_after (write_op_args c ns b es p lent) (bytes_or (call_bytes c ns b es p)) lent)
unfolding call_written write_op_args
call_answers c ns b es p lent lent' o a = a
