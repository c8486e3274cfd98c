-- The four calls over the table, and the readers of one field.
use Rattle.std.specs.Prelude.{ℕ, ◌+◌, List, [], ◌∷◌, Bool, ◌||◌, length, leb, eqb}
use Rattle.layouts.specs.declared.Mode.{Mode}
use Rattle.layouts.specs.declared.Mode.TheVariants.{Ported}
use Rattle.layouts.specs.declared.Record.{Record}
use Rattle.layouts.specs.Primitive.{pick, little_at, number_at, Version, version, cut_short, unknown_operation, Result, ok, refused, onward}
use Rattle.layouts.specs.Shape.{as_number, as_count, passed, kept, What, num, str, set, framed, always, once, Tree, fail, layout}
use Rattle.layouts.specs.Pieces.{Pieces, Num, num_of, run, skip_of, total_of}
use Rattle.layouts.specs.Record.{blank, with_number}
use Rattle.layouts.specs.Judge.{Ended, judge_of, entries_of, payload_of, lent_after}
use Rattle.layouts.specs.Operations.{arguments_number, reply_number, skipped_number, Kinds, none, by_number, kind_of, skipped_kind, Operation, Row, row, unknown, find}

-- a layout by operation; 9 before any byte
abbrev pub by_row : Row → (Operation → Tree) → Tree
by_row (row o) k = k o
by_row unknown k = fail unknown_operation 0

-- what chooses the layout of arguments
pub record Context : Type 0 where
  pub mode : Mode
  pub op : ℕ
  pub spoken : Version

abbrev pub context : Mode → (op major minor : ℕ) → Context
context m op a b = record { mode = m; op = op; spoken = version a b }

abbrev pub chosen : Context → Row
chosen c = find c.mode c.op

unfoldable pub arguments_tree : Context → Tree
arguments_tree c = by_row (chosen c) (λ o. layout c.spoken (once o.arguments ∷ []))

unfoldable pub skipped_tree : Context → Tree
skipped_tree c = by_row (chosen c) (λ o. layout c.spoken (once o.skips ∷ []))

-- a reply is the same in both modes
unfoldable pub reply_tree : (op : ℕ) → Version → Tree
reply_tree op v = by_row (find Ported op) (λ o. layout v o.reply)

abbrev pub kind_by : Row → (Operation → Kinds) → Kinds
kind_by (row o) k = k o
kind_by unknown k = none

abbrev pub arguments_kinds : Context → Kinds
arguments_kinds c = kind_by (chosen c) (λ o. by_number arguments_number o.arguments_kind)

abbrev pub skipped_kinds : Context → Kinds
skipped_kinds c = kind_by (chosen c) (λ o. by_number skipped_number (skipped_kind o.skip))

abbrev pub reply_kinds : (op : ℕ) → Kinds
reply_kinds op = kind_by (find Ported op) (λ o. by_number reply_number o.reply_kind)

-- ---- answers: kind, end (a handshake has two), numbers and counts
pub record Answer : Type 0 where
  pub kind : ℕ
  pub ends : ℕ
  pub ends2 : ℕ
  pub found : Record

abbrev pub answered : Version → Kinds → Result Ended → Result Answer
answered v k o = onward o (λ e. ok (record { kind = kind_of v e.found.present k; ends = e.ends; ends2 = 0; found = e.found }))

abbrev pub read_of : Version → Kinds → (slots room : ℕ) → List ℕ → Tree → Result Answer
read_of v k slots room s t = answered v k (judge_of s slots room blank (run t s 0))

unfoldable pub read_op_args : Context → List ℕ → (slots room : ℕ) → Result Answer
read_op_args c s slots room = read_of c.spoken (arguments_kinds c) slots room s (arguments_tree c)

unfoldable pub read_daemon_result : (op : ℕ) → Version → List ℕ → (slots room : ℕ) → Result Answer
read_daemon_result op v s slots room = read_of v (reply_kinds op) slots room s (reply_tree op v)

unfoldable pub skip_daemon_result : (op : ℕ) → Version → List ℕ → Result ℕ
skip_daemon_result op v s = skip_of (run (reply_tree op v) s 0)

-- one string is kept, and stands in the answer itself
unfoldable pub skip_op_args : Context → List ℕ → Result Answer
skip_op_args c s = read_of c.spoken (skipped_kinds c) 1 0 s (skipped_tree c)

-- lent memory after a read of these pieces
abbrev pub entries_after : Result Answer → Pieces → (lent : List ℕ) → List ℕ
entries_after o p lent = lent_after o (entries_of p) lent

abbrev pub payload_after : Result Answer → List ℕ → Pieces → (lent : List ℕ) → List ℕ
payload_after o s p lent = lent_after o (payload_of s p) lent

-- ---- the readers of one field, from a place on
abbrev pub field : What → Tree
field w = layout (version 0 0) (once (always w ∷ []) ∷ [])

abbrev pub read_field : What → List ℕ → (at slots room : ℕ) → Result Ended
read_field w s at slots room = judge_of s slots room blank (run (field w) s at)

abbrev pub read_number : List ℕ → (at : ℕ) → Result Ended
read_number s at = read_field (num (as_number 0)) s at 0 0

-- nothing is consumed
abbrev pub peek_number : List ℕ → (at : ℕ) → Num
peek_number s at = num_of (length s) (number_at s at) at

-- a u32 is no field of a layout
abbrev pub read_u32 : List ℕ → (at : ℕ) → Result Ended
read_u32 s at = pick (leb (at + 4) (length s)) (ok (record { found = with_number blank 0 (little_at 4 s at); ends = at + 4 })) (refused cut_short at 0)

-- read_bytes and skip_string look at no text, read_string does
abbrev pub skip_string : List ℕ → (at : ℕ) → Result ℕ
skip_string s at = skip_of (run (field (str passed)) s at)

abbrev pub read_string : List ℕ → (at : ℕ) → Result Ended
read_string s at = read_field (str kept) s at 1 0

-- the count is count 0, and of a skipped set number 0
abbrev pub read_string_set : List ℕ → (at slots : ℕ) → Result Ended
read_string_set s at slots = read_field (set kept (as_count 0)) s at slots 0

abbrev pub skip_string_set : List ℕ → (at : ℕ) → Result Ended
skip_string_set s at = read_field (set passed (as_number 0)) s at 0 0

abbrev pub read_framed : List ℕ → (at room : ℕ) → Result Ended
read_framed s at room = read_field framed s at 0 room

-- the payload's total is number 0
abbrev pub skip_framed : List ℕ → (at : ℕ) → Result Ended
skip_framed s at = onward (skip_of (run (field framed) s at)) (λ e. ok (record { found = with_number blank 0 (total_of (run (field framed) s at)); ends = e }))

-- ---- op_has_client_framed_data
abbrev pub has_framed : ℕ → Bool
has_framed op = eqb op 7 || eqb op 39 || eqb op 44 || eqb op 45

abbrev pub if_known : {A : Type 0} → Row → A → Result A
if_known (row o) a = ok a
if_known unknown a = refused unknown_operation 0 0

unfoldable pub op_has_client_framed_data : ℕ → Result Bool
op_has_client_framed_data op = if_known (find Ported op) (has_framed op)
