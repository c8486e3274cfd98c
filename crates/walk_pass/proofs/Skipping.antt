-- Item by item: what remains is skipped as the whole.
use Prim.Native.Nat.{ℕ}
use mathlib.Core.Path.{◌≡◌, refl, sym, ◌∙◌, ap}
use mathlib.Core.List.{List}
use Rattle.layouts.specs.Primitive.{Version, Result, ok}
use Rattle.layouts.specs.Shape.{Tree}
use Rattle.layouts.specs.Pieces.{run, skip_of}
use Rattle.walk_items.specs.declared.Item.{Item}
use Rattle.walk_items.specs.Items.{rest_tree, item_tree}
use Rattle.walk_items.proofs.Trees.{end_item}
use Rattle.walk_pass.specs.Passing.{moved_to}
use Rattle.walk_pass.specs.declared.Moved.{Moved}
use Rattle.std.specs.Prelude as Std
use Rattle.layouts.specs.declared.Refusal.{Refusal}

module _ (s : List ℕ) (v : Version) (at pc reps body i : ℕ) (whole : Result ℕ) (g : skip_of (run (rest_tree v pc reps body i tt) s at) ≡ whole)
    (f : Item) (law : rest_tree v pc reps body i tt ≡ item_tree v f) where
  by_item : (t : Tree) → item_tree v f ≡ t → skip_of (run t s at) ≡ whole
  by_item t e = ap (λ (x : Tree). skip_of (run x s at)) (sym (law ∙ e)) ∙ g

  pub skip_end : f.kind ≡ 0 → ok at ≡ whole
  unfolding run skip_of
  skip_end k = by_item _ (end_item v f k)

  pub skip_moved : (f.kind ≡ 0 → ⊥) → (r : Std.Result Moved Refusal) → ((w : Version) → (f.kind ≡ 0 → ⊥) → skip_of (run (item_tree w f) s at) ≡ moved_to s w f r) → (q : Std.Result Moved Refusal) → r ≡ q → moved_to s v f q ≡ whole
  skip_moved z r h q e = ap (moved_to s v f) (sym e) ∙ sym (h v z) ∙ by_item (item_tree v f) refl
