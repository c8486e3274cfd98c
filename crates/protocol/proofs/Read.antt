-- What is read by the shape of an operation is what `layouts` says, and what is judged fine fits.
use Prim.Native.Nat.{ℕ, ◌*◌, ◌≤◌}
use mathlib.Core.Path.{◌≡◌, refl, sym, ◌∙◌, ap}
use mathlib.Core.List.{List}
use mathlib.Core.Bool.{Bool}
use native.Mathlib.Omega.{arith}
use lib.ListN.{length}
use Rattle.layouts.specs.declared.Mode.TheVariants.{Ported}
use Rattle.layouts.specs.Primitive.{Version, Result, ok}
use Rattle.layouts.specs.Shape.{Tree, fail, layout}
use Rattle.layouts.specs.Pieces.{Pieces, run}
use Rattle.layouts.specs.Record.{blank}
use Rattle.layouts.specs.Judge.{judge_of, entries_of, payload_of, lent_after}
use Rattle.layouts.specs.Operations.{Kinds, kind_of}
use Rattle.layouts.specs.Calls.{Context, Answer, arguments_tree, reply_tree, arguments_kinds, reply_kinds, read_of, read_op_args, read_daemon_result}
use Rattle.layouts.proofs.Judge.{judge_read, entries_length, payload_length}
use Rattle.layouts.proofs.Placed.{run_placed}
use Rattle.layouts.proofs.Calls.{answer_of_lem}
use Rattle.table.specs.Table.{groups_at, kind_numbered, row_for}
use Rattle.table_operations.specs.Rows.{arguments_of, reply_of}
use Rattle.table_operations.proofs.Shapes.{arguments_say, shape_refuses, reply_says, reply_refuses}
use Rattle.writers_output.specs.Numbers.{bytes_of}
use Rattle.walk_judge.specs.declared.Answer as C
use Rattle.walk_judge.specs.Judged.{answer_as}
use Rattle.walk_rooms.specs.Rooms.{filled_after}
use Rattle.layouts.specs.Writers.{slots_of}
use Rattle.entries.specs.Entries.{slots_in}
use Rattle.writers_output.proofs.Numbers.{bytes_length}
use Rattle.walk_rooms.proofs.Laws.{fitting}
use Rattle.walk_read.proofs.Filled.{answered_by}
use Rattle.walk_shapes.specs.Shapes.{shape_pieces, shape_read}
use Rattle.walk_shapes.proofs.Shapes.{ShapeRead}
use Rattle.table_operations.specs.declared.Shape.{Shape}
use Rattle.std.specs.Prelude.{Option, Some, None}

module _ (v : Version) (k : Kinds) (s : List ℕ) (t : Tree) (x : Option Shape) (known : (i c : ℕ) → x ≡ Some (record { first = i; kind = c }) → (t ≡ layout v (groups_at i)) × ((b : Bool) → kind_of v b k ≡ kind_numbered v b c))
    (unknown : x ≡ None → t ≡ fail 9 0) where
  pieces_by : (y : Option Shape) → x ≡ y → shape_pieces v y s ≡ run t s 0
  unfolding run
  pieces_by None q = ap (λ (t : Tree). run t s 0) (sym (unknown q))
  pieces_by (Some k) q = ap (λ (t : Tree). run t s 0) (sym (known k.first k.kind q).0)

  read_by : (slots room : ℕ) (y : Option Shape) → x ≡ y → shape_read v y s slots room ≡ read_of v k slots room s t
  unfolding run judge_of
  read_by slots room None q = ap (read_of v k slots room s) (sym (unknown q))
  read_by slots room (Some x) q =
      let h = known x.first x.kind q in
      answered_by v k x.kind h.1 (judge_of s slots room blank (run (layout v (groups_at x.first)) s 0)) ∙ ap (read_of v k slots room s) (sym h.0)

  module _ (slots room : ℕ) (y : Answer) (e : read_of v k slots room s t ≡ ok y) where
    fits : (length (entries_of (run t s 0)) ≤ 2 * slots) × (length (payload_of s (run t s 0)) ≤ room)
    fits =
        let z = answer_of_lem v k (judge_of s slots room blank (run t s 0)) y e in
        let f = (judge_read s slots room blank (run t s 0) z.0 z.1).fits (omega arith) (omega arith) in
        let n = entries_length (run t s 0) in
        let m = payload_length s (run_placed t s 0 (omega arith)) in
        (omega (arith, f), omega (arith, f))

  module _ (laid : List ℕ → List ℕ) (slots : ℕ) (lent payload : List ℕ) (holds : (es : List ℕ) → length es ≤ 2 * slots → length (laid es) ≤ length lent)
      (a : C.Answer) (out ps : List ℕ) (h : ShapeRead laid slots v x s lent payload a out ps) where
    abbrev o : Result Answer
    o = read_of v k slots (length payload) s t

    lent_as : (f : Pieces → List ℕ) (lent out : List ℕ) → out ≡ filled_after (shape_read v x s slots (length payload)) (f (shape_pieces v x s)) lent → out ≡ filled_after o (f (run t s 0)) lent
    lent_as f lent out p =
        p ∙ ap (λ (r : Result Answer). filled_after r (f (shape_pieces v x s)) lent) (read_by slots (length payload) x refl)
        ∙ ap (λ (q : Pieces). filled_after o (f q) lent) (pieces_by x refl)

    pub in_room : (a ≡ answer_as o) × ((out ≡ lent_after o (laid (entries_of (run t s 0))) lent) × (ps ≡ lent_after o (payload_of s (run t s 0)) payload))
    in_room = (
      h.0 ∙ ap answer_as (read_by slots (length payload) x refl),
      (
        lent_as (λ p. laid (entries_of p)) lent out h.1.0 ∙ fitting o (laid (entries_of (run t s 0))) lent (λ y q. holds _ (fits slots (length payload) y q).0),
        lent_as (payload_of s) payload ps h.1.1 ∙ fitting o (payload_of s (run t s 0)) payload (λ y q. (fits slots (length payload) y q).1),
      ),
    )

-- ---- a room of either form holds what fits into its slots
pub words_hold : (lent es : List ℕ) → length es ≤ 2 * slots_of lent → length es ≤ length lent
words_hold lent es h = omega arith

pub bytes_hold : (lent es : List ℕ) → length es ≤ 2 * slots_in lent → length (bytes_of es) ≤ length lent
bytes_hold lent es h = omega (arith, bytes_length es)

-- ---- of arguments and of replies
module _ (laid : List ℕ → List ℕ) (slots : ℕ) (lent payload : List ℕ) (holds : (es : List ℕ) → length es ≤ 2 * slots → length (laid es) ≤ length lent) (s : List ℕ) (a : C.Answer) (out ps : List ℕ) where
  module _ (x : Context) where
    abbrev shape : Option Shape
    shape = arguments_of (row_for x.mode x.op)

    arguments_known : (i c : ℕ) → shape ≡ Some (record { first = i; kind = c }) → (arguments_tree x ≡ layout x.spoken (groups_at i)) × ((b : Bool) → kind_of x.spoken b (arguments_kinds x) ≡ kind_numbered x.spoken b c)
    arguments_known i c q = let y = arguments_say x shape i c refl q in (y.tree, y.kind)

    arguments_unknown : shape ≡ None → arguments_tree x ≡ fail 9 0
    arguments_unknown q = (shape_refuses x shape _ _ refl q).arguments

    pub arguments_read_lem : ShapeRead laid slots x.spoken shape s lent payload a out ps → (a ≡ answer_as (read_op_args x s slots (length payload)))
        × ((out ≡ lent_after (read_op_args x s slots (length payload)) (laid (entries_of (run (arguments_tree x) s 0))) lent)
        × (ps ≡ lent_after (read_op_args x s slots (length payload)) (payload_of s (run (arguments_tree x) s 0)) payload))
    unfolding read_op_args
    arguments_read_lem h = in_room x.spoken (arguments_kinds x) s (arguments_tree x) _ arguments_known arguments_unknown laid slots lent payload holds a out ps h

  module _ (op : ℕ) (v : Version) where
    reply_known : (i c : ℕ) → reply_of (row_for Ported op) ≡ Some (record { first = i; kind = c }) → (reply_tree op v ≡ layout v (groups_at i)) × ((b : Bool) → kind_of v b (reply_kinds op) ≡ kind_numbered v b c)
    reply_known i c q = let y = reply_says op v (reply_of (row_for Ported op)) i c refl q in (y.tree, y.kind)

    reply_unknown : reply_of (row_for Ported op) ≡ None → reply_tree op v ≡ fail 9 0
    reply_unknown q = reply_refuses op v (reply_of (row_for Ported op)) refl q

    pub reply_read_lem : ShapeRead laid slots v (reply_of (row_for Ported op)) s lent payload a out ps → (a ≡ answer_as (read_daemon_result op v s slots (length payload)))
        × ((out ≡ lent_after (read_daemon_result op v s slots (length payload)) (laid (entries_of (run (reply_tree op v) s 0))) lent)
        × (ps ≡ lent_after (read_daemon_result op v s slots (length payload)) (payload_of s (run (reply_tree op v) s 0)) payload))
    unfolding read_daemon_result
    reply_read_lem h = in_room v (reply_kinds op) s (reply_tree op v) _ reply_known reply_unknown laid slots lent payload holds a out ps h
