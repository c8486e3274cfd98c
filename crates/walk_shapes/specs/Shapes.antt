-- A shape of an operation, read from the start of a stream.
use Rattle.std.specs.Prelude.{ℕ, ◌<◌, ◌≡◌, List, [], length}
use Rattle.layouts.specs.declared.Mode.TheVariants.{Ported}
use Rattle.layouts.specs.Primitive.{Version, Result, ok, refused}
use Rattle.layouts.specs.Refusal.{refused_by}
use Rattle.layouts.specs.Shape.{kept, say, stop}
use Rattle.layouts.specs.Pieces.{Pieces, fault, run}
use Rattle.layouts.specs.Record.{blank, with_entries}
use Rattle.layouts.specs.Judge.{Ended, judge_of, entries_of, payload_of}
use Rattle.layouts.specs.Calls.{Context, Answer}
use Rattle.walk_items.specs.Items.{version_of, layout_tree, layout_pieces, pieces_of}
use Rattle.table.specs.Packed.{first_code}
use Rattle.table.specs.Table.{row_for}
use Rattle.walk_judge.specs.declared.Answer as C
use Rattle.walk_judge.specs.Judged.{answer_of, answer_as}
use Rattle.walk_rooms.specs.Rooms.{RoomFilled, room_filled}
use Rattle.walk_read.specs.Reading.{read_by, answered_as}
use Rattle.table_operations.specs.Rows.{arguments_of, reply_of}
use Rattle.walk_shapes.specs.declared.InBrief.{InBrief}
use Rattle.walk_shapes.specs.declared.InBrief.TheVariants as I
use Rattle.table_operations.specs.declared.Shape.{Shape}
use Rattle.std.specs.Prelude as Std
use Rattle.layouts.specs.declared.Refusal.{Refusal}
use Rattle.std.specs.Prelude.{Option, Some, None, Ok, Err}

abbrev pub shape_pieces : Version → Option Shape → List ℕ → Pieces
shape_pieces v None s = fault 9 0
shape_pieces v (Some k) s = layout_pieces v k.first s 0

abbrev pub shape_read : Version → Option Shape → List ℕ → (slots room : ℕ) → Result Answer
shape_read v None s slots room = refused 9 0 0
shape_read v (Some k) s slots room = answered_as v k.kind (judge_of s slots room blank (layout_pieces v k.first s 0))

-- the answer, and the rooms afterwards, of which that for entries has so many slots
abbrev pub shape_filled : {E : Type 0} → (laid : List ℕ → List E) → (slots : ℕ) → Version → Option Shape → (s : List ℕ) → (lent : List E) → (payload : List ℕ) → RoomFilled C.Answer E
shape_filled laid slots v x s lent payload =
    room_filled answer_as (shape_read v x s slots (length payload)) (laid (entries_of (shape_pieces v x s))) (payload_of s (shape_pieces v x s)) lent payload

abbrev pub arguments_filled : {E : Type 0} → (laid : List ℕ → List E) → (slots : ℕ) → Context → (s : List ℕ) → (lent : List E) → (payload : List ℕ) → RoomFilled C.Answer E
arguments_filled laid slots c s lent payload = shape_filled laid slots c.spoken (arguments_of (row_for c.mode c.op)) s lent payload

abbrev pub reply_filled : {E : Type 0} → (laid : List ℕ → List E) → (slots op : ℕ) → Version → (s : List ℕ) → (lent : List E) → (payload : List ℕ) → RoomFilled C.Answer E
reply_filled laid slots op v s lent payload = shape_filled laid slots v (reply_of (row_for Ported op)) s lent payload

-- ---- a layout of one string, which is kept
abbrev pub text_pieces : List ℕ → Pieces
text_pieces s = run (say kept (λ u. stop)) s 0

abbrev pub text_read : List ℕ → (slots room : ℕ) → Result Ended
text_read s slots room = judge_of s slots room blank (text_pieces s)

abbrev pub text_told : Std.Result ℕ Refusal → Result Ended
text_told (Ok e) = ok (record { found = with_entries blank 1; ends = e })
text_told (Err r) = refused_by r

-- ---- what is said without a fold is what a read says, whatever the room, and nothing is filled in
abbrev pub ReadInBrief : (layout code : ℕ) → List ℕ → (numbers counts : List ℕ) → InBrief → Type 0
ReadInBrief l c s ns cs (I.Said a) =
    ((slots room : ℕ) → answer_of a ns cs ≡ answer_as (answered_as (version_of l) c (read_by l s slots room))) × ((entries_of (pieces_of l s 0) ≡ []) × (payload_of s (pieces_of l s 0) ≡ []))
ReadInBrief l c s ns cs I.Text = (layout_tree l ≡ say kept (λ u. stop)) × (c < first_code)
ReadInBrief l c s ns cs I.Longer = Unit {0}
