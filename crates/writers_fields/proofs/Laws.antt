-- The fields of a call, item by item: what each item leaves of the numbers, and what it needs.
use Prim.Native.Nat.{ℕ, ◌+◌, ◌-◌, ◌≤◌, ◌<◌}
use mathlib.Core.Path.{◌≡◌, refl, sym, ◌∙◌, ap, subst}
use mathlib.Core.List.{List, [], ◌∷◌, ◌++◌}
use mathlib.Core.Bool.{Bool, true, false, ◌||◌}
use lib.Dec.{ltb, leb, eqb}
use native.Mathlib.Omega.{arith}
use native.Mathlib.Decide.{ℕ_discrete, dec_le}
use borrow.Author.Tests.{eq-eqb, ne_eqb, le-leb, lt-leb, le-ltb}
use Rattle.layouts.specs.Primitive.{pick, Version, ok, refused, onward, no_such_entry}
use Rattle.layouts.specs.Shape.{What, Gated, what}
use Rattle.layouts.specs.CallWriter.{fields_there, value_for, leave, left_by, has_frames, strings_in, entries_for}
use Rattle.table.specs.declared.Field.{Field}
use Rattle.table.specs.Packed.{size, packed_table}
use Rattle.table.specs.Table.{field_at, group_at, role_of, target_of, what_of, item_of, unless_end, cons_gated, items_at}
use Rattle.table.proofs.Tables.{items_step, field_in}
use Rattle.walk_items.specs.declared.Item as I
use Rattle.walk_items.specs.Items.{is_there, after_fields, field_item, next_item}
use Rattle.walk_items.proofs.Trees.{there_item, what_item}
use Rattle.writers_sets.specs.Sets.{grown}
use Rattle.writers_fields.specs.Fields.{what_in, target_by, strings_after, bytes_by, bytes_of, bytes_after}

-- ---- the next item of a group of fields
-- its kind is 0 at the end; else it is a field or nothing, and its place is in the table
pub record Next (v : Version) (pc : ℕ) (x : I.Item) : Type 0 where
  pub ends : x.kind ≡ 0 → fields_there v (items_at pc) ≡ []
  pub goes : (x.kind ≡ 0 → ⊥) → fields_there v (items_at pc) ≡ what_in x.kind x.role x.target ++ fields_there v (items_at x.pc)
  pub falls : (x.kind ≡ 0 → ⊥) → size - x.pc < size - pc

no_group : after_fields 0 size size ≡ record { kind = 0; role = 0; target = 0; pc = size; reps = 0; body = size; group = size }
unfolding group_at packed_table
no_group = refl

module _ (v : Version) (pc : ℕ) where
  abbrev field_what : Field → What
  field_what f = what_of f.kind (role_of f.role) (target_of f.target)

  cons_some : (f : Field) (rest : Unit {0} → List Gated) → (f.kind ≡ 0 → ⊥) → cons_gated f rest ≡ item_of f.gate f.minor (field_what f) ∷ rest tt
  unfolding cons_gated unless_end
  cons_some f rest k = rw (ne_eqb f.kind 0 k)

  cons_none : (f : Field) (rest : Unit {0} → List Gated) → f.kind ≡ 0 → cons_gated f rest ≡ []
  unfolding cons_gated unless_end
  cons_none f rest k = rw (eq-eqb f.kind 0 k)

  module _ (f : Field) (e : f ≡ field_at pc) where
    items_cons : items_at pc ≡ cons_gated f (λ u. items_at (pc + 1))
    items_cons = items_step pc ∙ ap (λ (g : Field). cons_gated g (λ u. items_at (pc + 1))) (sym e)

    there_some : (f.kind ≡ 0 → ⊥)
        → fields_there v (items_at pc) ≡ pick (is_there v f.gate f.minor) (field_what f ∷ fields_there v (items_at (pc + 1))) (fields_there v (items_at (pc + 1)))
    unfolding fields_there
    there_some k =
        ap (fields_there v) (items_cons ∙ cons_some f (λ u. items_at (pc + 1)) k)
        ∙ ap (λ (b : Bool). pick b (what (item_of f.gate f.minor (field_what f)) ∷ fields_there v (items_at (pc + 1))) (fields_there v (items_at (pc + 1)))) (there_item v f.gate f.minor (field_what f))
        ∙ ap (λ (w : What). pick (is_there v f.gate f.minor) (w ∷ fields_there v (items_at (pc + 1))) (fields_there v (items_at (pc + 1)))) (what_item v f.gate f.minor (field_what f))

    there_none : f.kind ≡ 0 → fields_there v (items_at pc) ≡ []
    unfolding fields_there
    there_none k = ap (fields_there v) (items_cons ∙ cons_none f (λ u. items_at (pc + 1)) k)

    small : f.kind < 16
    unfolding field_at
    small = rw e (omega arith)

    next_by : (b : Bool) → is_there v f.gate f.minor ≡ b → (f.kind ≡ 0 → ⊥) → Next v pc (field_item v pc 0 size size f)
    unfolding what_in
    next_by true q k = rw (ne_eqb f.kind 0 k, q) record {
      ends = λ z. absurd (k z);
      goes = λ z. there_some k ∙ rw (q, ne_eqb f.kind 16 (λ y. let h = small in omega arith));
      falls = λ z. let h = field_in pc f e k in omega arith;
    }
    next_by false q k = rw (ne_eqb f.kind 0 k, q) record {
      ends = λ z. let y : ◌≡◌ {A = ℕ} 16 0 = z in absurd (omega arith);
      goes = λ z. there_some k ∙ rw q;
      falls = λ z. let h = field_in pc f e k in omega arith;
    }

    next_of : Dec (f.kind ≡ 0) → Next v pc (field_item v pc 0 size size f)
    next_of (yes k) = rw (eq-eqb f.kind 0 k, no_group) record { ends = λ z. there_none k; goes = λ z. absurd (z refl); falls = λ z. absurd (z refl) }
    next_of (no k) = next_by (is_there v f.gate f.minor) refl k

  pub next : (x : I.Item) → x ≡ next_item v pc 0 size size → Next v pc x
  unfolding next_item
  next x e = subst (Next v pc) (sym e) (next_of (field_at pc) refl (ℕ_discrete (field_at pc).kind 0))

-- ---- an item by its kind
pub record Plain (k : ℕ) : Type 0 where
  pub no_text : eqb k 2 ≡ false
  pub no_set : eqb k 3 ≡ false
  pub no_pairs : eqb k 4 ≡ false
  pub no_frames : eqb k 5 ≡ false
  pub no_maybe : eqb k 6 ≡ false
  pub no_typed : eqb k 7 ≡ false
  pub no_position : eqb k 8 ≡ false
  pub no_absent : eqb k 16 ≡ false

-- a string, a set, pairs, framed data, a flag with a number, a type with what follows, a position, an absent field; any other is a number
pub data Kinded : ℕ → Type 0 where
  text : Kinded 2
  set : Kinded 3
  pairs : Kinded 4
  frames : Kinded 5
  maybe : Kinded 6
  typed : Kinded 7
  position : Kinded 8
  absent : Kinded 16
  number : (k : ℕ) → Plain k → Kinded k

pub kinded : (k : ℕ) → Kinded k
kinded k =
    or 2 text (λ a. or 3 set (λ b. or 4 pairs (λ c. or 5 frames (λ d. or 6 maybe (λ e. or 7 typed (λ f. or 8 position (λ h. or 16 absent (λ g.
    number k record {
      no_text = ne_eqb k 2 a;
      no_set = ne_eqb k 3 b;
      no_pairs = ne_eqb k 4 c;
      no_frames = ne_eqb k 5 d;
      no_maybe = ne_eqb k 6 e;
      no_typed = ne_eqb k 7 f;
      no_position = ne_eqb k 8 h;
      no_absent = ne_eqb k 16 g;
    }))))))))
  where
    by : (j : ℕ) → Kinded j → ((k ≡ j → ⊥) → Kinded k) → Dec (k ≡ j) → Kinded k
    by j y n (yes e) = subst Kinded (sym e) y
    by j y n (no h) = n h

    or : (j : ℕ) → Kinded j → ((k ≡ j → ⊥) → Kinded k) → Kinded k
    or j y n = by j y n (ℕ_discrete k j)

module _ (ns : List ℕ) (role target : ℕ) (ws : List What) where
  pub left_by_lem : {k : ℕ} → Kinded k → (l : List ℕ) → left_by ns l (what_in k role target ++ ws) ≡ left_by ns (leave ns l (target_of (target_by k target))) ws
  unfolding left_by what_in what_of target_of leave
  left_by_lem text l = refl
  left_by_lem set l = refl
  left_by_lem pairs l = refl
  left_by_lem frames l = refl
  left_by_lem maybe l = refl
  left_by_lem typed l = refl
  left_by_lem position l = refl
  left_by_lem absent l = refl
  left_by_lem (number k o) l = rw (o.no_text, o.no_set, o.no_pairs, o.no_frames, o.no_maybe, o.no_typed, o.no_position, o.no_absent)

  pub frames_by_lem : {k : ℕ} → Kinded k → has_frames (what_in k role target ++ ws) ≡ (eqb k 5 || has_frames ws)
  unfolding has_frames what_in what_of
  frames_by_lem text = refl
  frames_by_lem set = refl
  frames_by_lem pairs = refl
  frames_by_lem frames = refl
  frames_by_lem maybe = refl
  frames_by_lem typed = refl
  frames_by_lem position = refl
  frames_by_lem absent = refl
  frames_by_lem (number k o) = rw (o.no_text, o.no_set, o.no_pairs, o.no_frames, o.no_maybe, o.no_typed, o.no_position, o.no_absent)

  grown_none : (room t : ℕ) → grown room t 0 ≡ t
  grown_none room t = go (ltb room t)
    where
      go : (b : Bool) → pick b t (pick (ltb (room - t) 0) 18446744073709551615 (t + 0)) ≡ t
      go true = refl
      go false = rw (le-ltb (room - t) 0 (omega arith)) (omega arith)

  pub bytes_by_lem : {k : ℕ} → Kinded k → (room f t : ℕ) → bytes_after room f t (what_in k role target ++ ws) ≡ bytes_after room f (grown room t (bytes_by f k)) ws
  unfolding bytes_after bytes_of what_in what_of
  bytes_by_lem text room f t = refl
  bytes_by_lem set room f t = refl
  bytes_by_lem pairs room f t = refl
  bytes_by_lem frames room f t = refl
  bytes_by_lem maybe room f t = refl
  bytes_by_lem typed room f t = refl
  bytes_by_lem position room f t = refl
  bytes_by_lem absent room f t = ap (λ (n : ℕ). bytes_after room f n ws) (sym (grown_none room t))
  bytes_by_lem (number k o) room f t = rw (o.no_text, o.no_set, o.no_pairs, o.no_frames, o.no_maybe, o.no_typed, o.no_position, o.no_absent)

  module _ (slots n : ℕ) (h : n ≤ slots) where
    fit_same : (m : ℕ) → leb (n + m) slots ≡ leb m (slots - n)
    fit_same m = go (dec_le (n + m) slots)
      where
        go : Dec (n + m ≤ slots) → leb (n + m) slots ≡ leb m (slots - n)
        go (yes p) = le-leb (n + m) slots p ∙ sym (le-leb m (slots - n) (omega arith))
        go (no p) = lt-leb (n + m) slots (omega arith) ∙ sym (lt-leb m (slots - n) (omega arith))

    used : (m place : ℕ) → pick (leb (n + m) slots) (entries_for ns slots (n + m) ws) (refused no_such_entry place 0)
        ≡ onward (pick (leb m (slots - n)) (ok (n + m)) (refused no_such_entry place 0)) (λ j. entries_for ns slots j ws)
    used m place = rw (fit_same m) (go (leb m (slots - n)))
      where
        go : (b : Bool) → pick b (entries_for ns slots (n + m) ws) (refused no_such_entry place 0)
            ≡ onward (pick b (ok (n + m)) (refused no_such_entry place 0)) (λ j. entries_for ns slots j ws)
        go true = refl
        go false = refl

    unused : (place : ℕ) → entries_for ns slots n ws ≡ onward (pick (leb 0 (slots - n)) (ok (n + 0)) (refused no_such_entry place 0)) (λ j. entries_for ns slots j ws)
    unused place = let e : n + 0 ≡ n = omega arith in rw (le-leb 0 (slots - n) (omega arith), e)

    pub entries_by : {k : ℕ} → Kinded k
        → entries_for ns slots n (what_in k role target ++ ws) ≡ onward (strings_after k (value_for ns (target_of (target_by k target))) slots n) (λ j. entries_for ns slots j ws)
    unfolding entries_for strings_in what_in what_of target_of value_for
    entries_by text = used 1 0
    entries_by set = used (value_for ns (target_of target)) (value_for ns (target_of target))
    entries_by pairs = used (value_for ns (target_of target) + value_for ns (target_of target)) (value_for ns (target_of target))
    entries_by frames = used 0 0
    entries_by maybe = used 0 0
    entries_by typed = used 0 0
    entries_by position = used 0 0
    entries_by absent = unused 0
    entries_by (number k o) =
        rw (o.no_text, o.no_set, o.no_pairs, o.no_frames, o.no_maybe, o.no_typed, o.no_position, o.no_absent) (used 0 (value_for ns (target_of target)))
