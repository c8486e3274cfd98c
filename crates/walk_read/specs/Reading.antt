-- A layout as `layouts` reads it from the start of a stream, as the code answers it.
use Rattle.std.specs.Prelude.{ℕ, ◌*◌, ◌≤◌, ◌≡◌, List, [], length, take}
use Rattle.layouts.specs.Primitive.{Version, Result, ok, onward}
use Rattle.layouts.specs.Record.{blank}
use Rattle.layouts.specs.Judge.{Ended, judge_of, entries_of, payload_of}
use Rattle.layouts.specs.Calls.{Answer}
use Rattle.table.specs.Table.{kind_numbered}
use Rattle.walk_items.specs.Items.{version_of, pieces_of}
use Rattle.walk_judge.specs.declared.Answer as C
use Rattle.walk_judge.specs.Judged.{answer_as}
use Rattle.walk_rooms.specs.Rooms.{RoomFilled, room_filled}
use Rattle.walk_fill.specs.There.{pieces_there}

abbrev pub read_by : (layout : ℕ) → List ℕ → (slots room : ℕ) → Result Ended
read_by l s slots room = judge_of s slots room blank (pieces_of l s 0)

-- an answer, with the kind by its code in the table
abbrev pub answered_as : Version → (code : ℕ) → Result Ended → Result Answer
answered_as v c o = onward o (λ e. ok (record { kind = kind_numbered v e.found.present c; ends = e.ends; ends2 = 0; found = e.found }))

-- the answer, and the rooms afterwards, of which that for entries has so many slots
abbrev pub layout_filled : {E : Type 0} → (laid : List ℕ → List E) → (slots layout code : ℕ) → (s : List ℕ) → (lent : List E) → (payload : List ℕ) → RoomFilled C.Answer E
layout_filled laid slots l c s lent payload =
    room_filled (λ o. answer_as (answered_as (version_of l) c o)) (read_by l s slots (length payload))
    (laid (entries_of (pieces_of l s 0))) (payload_of s (pieces_of l s 0)) lent payload

-- what was judged: the window of 16 numbers has the entries, if they are 8 at most; where no payload is reported, none is there; and all pieces are
pub record Planned (window : List ℕ) (entries total : ℕ) (s : List ℕ) (layout : ℕ) : Type 0 where
  pub wide : length window ≡ 16
  pub kept : entries ≤ 8 → take (2 * entries) window ≡ entries_of (pieces_of layout s 0)
  pub chunks : total ≡ 0 → payload_of s (pieces_of layout s 0) ≡ []
  pub there : pieces_there layout s 0 ≡ pieces_of layout s 0
