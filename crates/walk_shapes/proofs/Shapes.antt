-- A shape y, answered as x, that was matched on: what is read by its layout is what is read by the shape.
use Prim.Native.Nat.{ℕ}
use mathlib.Core.Path.{◌≡◌, refl, sym, ◌∙◌, ap, subst}
use mathlib.Core.List.{List}
use lib.ListN.{length}
use Rattle.layouts.specs.declared.Refusal.{Refusal}
use Rattle.layouts.specs.Primitive.{Version, Result, ok, refused}
use Rattle.layouts.specs.Refusal.{plain, refused_by}
use Rattle.layouts.specs.Pieces.{Pieces}
use Rattle.layouts.specs.Record.{blank}
use Rattle.layouts.specs.Judge.{Ended, judge_of, entries_of, payload_of}
use Rattle.walk_items.specs.Items.{version_of, first_of, layout_pieces, pieces_of}
use Rattle.walk_items.proofs.Trees.{pieces_of_lem}
use Rattle.walk_judge.specs.declared.Answer.{Answer}
use Rattle.walk_judge.specs.Judged.{answer_as}
use Rattle.walk_rooms.specs.Rooms.{filled_after}
use Rattle.walk_read.specs.Reading.{read_by, answered_as}
use Rattle.walk_shapes.specs.Shapes.{shape_pieces, shape_read}
use Rattle.table_operations.specs.declared.Shape.{Shape}
use Rattle.std.specs.Prelude.{Option, Some, None}

-- the answer, and the two rooms afterwards
abbrev pub ShapeRead : {E : Type 0} → (laid : List ℕ → List E) → (slots : ℕ) → Version → Option Shape → List ℕ → (lent : List E) → (payload : List ℕ) → Answer → (out : List E) → (ps : List ℕ) → Type 0
ShapeRead laid slots v x s lent payload a out ps =
    (a ≡ answer_as (shape_read v x s slots (length payload)))
    × ((out ≡ filled_after (shape_read v x s slots (length payload)) (laid (entries_of (shape_pieces v x s))) lent)
    × (ps ≡ filled_after (shape_read v x s slots (length payload)) (payload_of s (shape_pieces v x s)) payload))

module _ {E : Type 0} (laid : List ℕ → List E) (slots : ℕ) (v : Version) (y : Option Shape) (s : List ℕ) (lent : List E) (payload : List ℕ) (a : Answer) (x : Option Shape) (e : x ≡ y) where
  pub unknown_read : x ≡ None → (r : Refusal) → r ≡ plain 9 0 → a ≡ answer_as (refused_by r) → ShapeRead laid slots v y s lent payload a lent payload
  unknown_read q r p h =
      subst (λ (z : Option Shape). ShapeRead laid slots v z s lent payload a lent payload) (sym q ∙ e) (h ∙ ap (λ (z : Refusal). answer_as (refused_by z)) p, (refl, refl))

  module _ (i c : ℕ) (q : x ≡ Some (record { first = i; kind = c })) (l : ℕ) (w : (version_of l ≡ v) × (first_of l ≡ i)) where
    read_is : answered_as (version_of l) c (read_by l s slots (length payload)) ≡ shape_read v (Some (record { first = i; kind = c })) s slots (length payload)
    read_is =
        ap (λ (y : Version). answered_as y c (read_by l s slots (length payload))) w.0
        ∙ ap (λ (p : Pieces). answered_as v c (judge_of s slots (length payload) blank p)) (pieces_of_lem l v i w s 0)

    answered_lent : {B : Type 0} (y : Version) (o : Result Ended) (new lent : List B) → filled_after o new lent ≡ filled_after (answered_as y c o) new lent
    answered_lent y (ok e) new lent = refl
    answered_lent y (refused which place stream) new lent = refl

    lent_is : {B : Type 0} (f : Pieces → List B) (lent out : List B) → out ≡ filled_after (read_by l s slots (length payload)) (f (pieces_of l s 0)) lent
        → out ≡ filled_after (shape_read v (Some (record { first = i; kind = c })) s slots (length payload)) (f (shape_pieces v (Some (record { first = i; kind = c })) s)) lent
    lent_is f lent out h =
        h ∙ ap (λ (p : Pieces). filled_after (judge_of s slots (length payload) blank p) (f p) lent) (pieces_of_lem l v i w s 0)
        ∙ answered_lent v (judge_of s slots (length payload) blank (layout_pieces v i s 0)) (f (layout_pieces v i s 0)) lent

    pub layout_read : (out : List E) (ps : List ℕ)
        → (a ≡ answer_as (answered_as (version_of l) c (read_by l s slots (length payload))))
        × ((out ≡ filled_after (read_by l s slots (length payload)) (laid (entries_of (pieces_of l s 0))) lent)
        × (ps ≡ filled_after (read_by l s slots (length payload)) (payload_of s (pieces_of l s 0)) payload))
        → ShapeRead laid slots v y s lent payload a out ps
    layout_read out ps h =
        subst (λ (z : Option Shape). ShapeRead laid slots v z s lent payload a out ps) (sym q ∙ e)
        (h.0 ∙ ap answer_as read_is, (lent_is (λ p. laid (entries_of p)) lent out h.1.0, lent_is (payload_of s) payload ps h.1.1))
