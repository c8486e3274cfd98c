-- An item passed: nothing, a field, or a flag or count.
use Prim.Native.Nat.{ℕ, ◌+◌, ◌≤◌, ◌<◌}
use mathlib.Core.Path.{◌≡◌, sym, ◌∙◌, ap, subst}
use mathlib.Core.List.{List}
use lib.ListN.{length}
use native.Mathlib.Omega.{arith}
use Rattle.layouts.specs.Primitive.{Version, number_at}
use Rattle.layouts.specs.declared.Refusal.{Refusal}
use Rattle.layouts.specs.Refusal.{plain}
use Rattle.layouts.specs.Shape.{Tree, stop, field}
use Rattle.layouts.specs.Pieces.{run, skip_of}
use Rattle.layouts.proofs.Steps.{ask_value}
use Rattle.table.specs.Table.{role_of, target_of, what_of}
use Rattle.walk_strings.specs.Strings.{passed_to, Passes}
use Rattle.walk_items.specs.declared.Item.{Item}
use Rattle.walk_items.specs.Items.{times_of, onto, item_tree}
use Rattle.walk_items.proofs.Trees.{quiet_item, times_item, field_item_lem}
use Rattle.walk_items.proofs.Measure.{quiet_less, read_less}
use Rattle.walk_pass.specs.Passing.{Took, moved_to, MovedOn}
use Rattle.walk_pass.proofs.Passing.{cut_passes}
use Rattle.walk_pass.specs.declared.Moved.{Moved}
use Rattle.std.specs.Prelude.{Ok, Err, Result}

module _ (s : List ℕ) (at : ℕ) (f : Item) where
  abbrev Meets : Result Moved Refusal → Type 0
  Meets r = ((v : Version) → (f.kind ≡ 0 → ⊥) → skip_of (run (item_tree v f) s at) ≡ moved_to s v f r) × MovedOn s at f r

  by_item : (v : Version) (t : Tree) → item_tree v f ≡ t → skip_of (run (item_tree v f) s at) ≡ skip_of (run t s at)
  by_item v t e = ap (λ (x : Tree). skip_of (run x s at)) e

  pub quiet_moves : f.kind ≡ 16 → Meets (Ok (record { at = at; reps = f.reps }))
  quiet_moves k = (λ v z. by_item v _ (quiet_item v f k), λ pc reps i g b. quiet_less s at pc reps i f g k)

  module _ (k : f.kind < 16) (r : Result ℕ Refusal) (h : (role i : ℕ) → Passes s at (field (what_of f.kind (role_of role) (target_of i))) r) where
    field_as : (y : Result ℕ Refusal) → r ≡ y → (v : Version) → (f.kind ≡ 0 → ⊥) → skip_of (run (item_tree v f) s at) ≡ passed_to y (λ a. skip_of (run (onto v f f.reps tt) s a))
    field_as y q v z =
        by_item v _ (field_item_lem v f z k) ∙ h f.role f.target (onto v f f.reps) ∙ ap (λ (u : Result ℕ Refusal). passed_to u (λ a. skip_of (run (onto v f f.reps tt) s a))) q

    pub field_refused : (x : Refusal) → r ≡ Err x → Meets (Err x)
    field_refused x q = (field_as (Err x) q, tt)

    pub field_moves : (next : ℕ) → r ≡ Ok next → Took s at r → Meets (Ok (record { at = next; reps = f.reps }))
    field_moves next q o = (field_as (Ok next) q, λ pc reps i g b. read_less s at pc reps i next f.reps f.pc f.group (subst (Took s at) q o) b)

  module _ (k : 16 ≤ f.kind) (j : f.kind ≡ 16 → ⊥) where
    pub times_cut : (x : Refusal) → (length s < at + 8) × (x ≡ plain 1 at) → Meets (Err x)
    times_cut x known = (λ v z. by_item v _ (times_item v f k j) ∙ cut_passes s at x known (target_of f.target) (λ t n. onto v f (times_of f.kind n) tt) (λ u. stop), tt)

    pub times_moves : (n : ℕ) → (at + 8 ≤ length s) × (n ≡ number_at s at) → (t : ℕ) → t ≡ times_of f.kind n → Meets (Ok (record { at = (at + 8); reps = t }))
    unfolding skip_of
    times_moves n known t g = (
      λ v z.
          by_item v _ (times_item v f k j)
          ∙ ap skip_of (ask_value s at n known.1 (target_of f.target) (λ n. onto v f (times_of f.kind n) tt) known.0)
          ∙ ap (λ (x : ℕ). skip_of (run (onto v f x tt) s (at + 8))) (sym g),
      λ pc reps i y b. read_less s at pc reps i (at + 8) t f.pc f.group (omega arith, known.0) b,
    )
