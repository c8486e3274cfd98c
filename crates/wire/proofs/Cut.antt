-- W-212, of what the readers and skippers of one field return: a stream is passed to an end, and the same call is made on another one. On a shorter beginning of the bytes
-- up to the end it refuses by 1, and lent memory stays. Where only what stands behind the end is other, it answers the same and leaves the same in the room. Each
-- theorem is about `Post`, the contract as Rattle reads it off the source. There is none of `peek_u64`, which passes nothing.
use Prim.Native.Nat.{ℕ, ◌+◌, ◌/◌}
use mathlib.Core.Path.{◌≡◌, refl, sym, ◌∙◌, ap}
use mathlib.Core.List.{List, []}
use lib.ListN.{length}
use contract.Lifetimes.{Lfts}
use borrow.Fn.Kinds.{Dens, ended_of}
use denote.Triple.Clauses.{AtExit}
use Rattle.layouts.specs.Primitive.{number_at, Result, ok, onward}
use Rattle.layouts.specs.Judge.{Ended, entries_of}
use Rattle.layouts.specs.Calls.{read_number, read_u32, skip_string, read_string, skip_string_set, read_framed, skip_framed}
use Rattle.layouts.specs.Cut.{CutOrLonger, RefusedAsCut, WholeOnly}
use Rattle.layouts.proofs.Cut as L
use Rattle.pieces.specs.Pieces.{Span, span}
use Rattle.walk_rooms.specs.Rooms.{LentRead, lent_read}
use Rattle.wire.specs.Answers.{number_read, count_read, total_read, skipped_to, spanned, read_bytes, read_text, framed_payload, set_read}
use Rattle.wire.specs.declared.Cursor.{Cursor}
use Rattle.wire.proofs.Unique.{number_told, count_told_lem, total_told, spanned_told, skipped_told}
use Rattle.wire.proofs.Cursor.read_u64.Reads as read_u64
use Rattle.wire.proofs.Cursor.read_u64.Kinds as read-u64-kinds
use Rattle.wire.proofs.Cursor.read_u32.Reads as read_u32
use Rattle.wire.proofs.Cursor.skip_string_set.Reads as skip-string-set
use Rattle.wire.proofs.Cursor.skip_framed.Reads as skip-framed
use Rattle.wire.proofs.Cursor.read_bytes.Reads as read-bytes
use Rattle.wire.proofs.Cursor.read_bytes.Kinds as read-bytes-kinds
use Rattle.wire.proofs.Cursor.read_string.Reads as read-string
use Rattle.wire.proofs.Cursor.skip_string.Reads as skip-string
use Rattle.wire.proofs.Cursor.skip_string.Kinds as skip-string-kinds
use Rattle.wire.proofs.Cursor.read_string_set.Reads as read-string-set
use Rattle.wire.proofs.Cursor.read_string_set.Kinds as read-string-set-kinds
use Rattle.wire.proofs.Cursor.read_framed.Reads as read-framed
use Rattle.wire.specs.declared.Read.{Read}
use Rattle.wire.specs.declared.Spanned.{Spanned}
use Rattle.std.specs.Prelude as Std
use Rattle.layouts.specs.declared.Refusal.{Refusal}
use Rattle.std.specs.Prelude.{Ok, Err}

-- ---- numbers; sets and framed data that are skipped
module _ (κs : Lfts 1) (a : Dens κs read-u64-kinds.ps) (r : Std.Result Read Refusal) (x : AtExit (ended_of 1 read-u64-kinds.ps read-u64-kinds.r) κs)
    (κs' : Lfts 1) (a' : Dens κs' read-u64-kinds.ps) (r' : Std.Result Read Refusal) (x' : AtExit (ended_of 1 read-u64-kinds.ps read-u64-kinds.r) κs')
    (place : a'.0 ≡ a.0) (value : ℕ) (next : Cursor) (passed : r ≡ Ok (record { value = value; next = next })) where
  abbrev NumberWhole : Type 0
  NumberWhole = CutOrLonger next.at a.1.0.now a'.1.0.now (RefusedAsCut Err 0 r') (r' ≡ r)

  number_whole : {K : Type 0} {keeps : List ℕ → K} (said : List ℕ → ℕ → Result Ended) → WholeOnly (λ s. said s a.0.at) (λ y. y.ends) 0 keeps
      → number_read r ≡ said a.1.0.now a.0.at → number_read r' ≡ said a'.1.0.now a'.0.at → NumberWhole
  number_whole said w p q =
      L.told_whole w a.1.0.now a'.1.0.now _ (sym p ∙ ap number_read passed) (λ y z e. number_told y z e refl) Err (λ y. refl) r r' p
      (q ∙ ap (λ (c : Cursor). said a'.1.0.now c.at) place)

  pub read_u64_whole : read_u64.Post κs a r x → read_u64.Post κs' a' r' x' → NumberWhole
  read_u64_whole p q = number_whole read_number (L.read_number_whole a.0.at) p q

  pub read_u32_whole : read_u32.Post κs a r x → read_u32.Post κs' a' r' x' → NumberWhole
  read_u32_whole p q = number_whole read_u32 (L.read_u32_whole a.0.at) p q

  pub skip_string_set_whole : skip-string-set.Post κs a r x → skip-string-set.Post κs' a' r' x' → NumberWhole
  skip_string_set_whole p q = number_whole skip_string_set (L.skip_set_whole a.0.at) p q

  pub skip_framed_whole : skip-framed.Post κs a r x → skip-framed.Post κs' a' r' x' → NumberWhole
  skip_framed_whole p q = number_whole skip_framed (L.skip_framed_whole a.0.at) p q

-- ---- a string
abbrev pub end_of : Span → ℕ
end_of y = y.ends

-- its length stands before it
span_whole : {A : Type 0} (at : ℕ) (said : List ℕ → Result A) (ends : A → ℕ) → WholeOnly said ends 0 (λ s. number_at s at)
    → WholeOnly (λ s. onward (said s) (λ e. ok (span (at + 8) (number_at s at) (ends e)))) end_of 0 (λ s. number_at s at)
span_whole at said ends w = L.answer_whole w (λ n e. ok (span (at + 8) n (ends e))) end_of (λ n e y q. sym (ap end_of (L.same_ok q)))

pub bytes_whole : (at : ℕ) → WholeOnly (λ s. read_bytes s at) end_of 0 (λ s. number_at s at)
bytes_whole at = span_whole at (λ s. skip_string s at) (λ e. e) (L.skip_string_whole at)

pub text_whole : (at : ℕ) → WholeOnly (λ s. read_text s at) end_of 0 (λ s. number_at s at)
text_whole at = span_whole at (λ s. read_string s at) (λ e. e.ends) (L.read_string_whole at)

module _ (κs : Lfts 1) (a : Dens κs read-bytes-kinds.ps) (r : Std.Result Spanned Refusal) (x : AtExit (ended_of 1 read-bytes-kinds.ps read-bytes-kinds.r) κs)
    (κs' : Lfts 1) (a' : Dens κs' read-bytes-kinds.ps) (r' : Std.Result Spanned Refusal) (x' : AtExit (ended_of 1 read-bytes-kinds.ps read-bytes-kinds.r) κs')
    (place : a'.0 ≡ a.0) (start len : ℕ) (next : Cursor) (passed : r ≡ Ok (record { start = start; len = len; next = next })) where
  abbrev SpanWhole : Type 0
  SpanWhole = CutOrLonger next.at a.1.0.now a'.1.0.now (RefusedAsCut Err 0 r') (r' ≡ r)

  spanned_whole : {K : Type 0} {keeps : List ℕ → K} (said : List ℕ → ℕ → Result Span) → WholeOnly (λ s. said s a.0.at) end_of 0 keeps
      → spanned r ≡ said a.1.0.now a.0.at → spanned r' ≡ said a'.1.0.now a'.0.at → SpanWhole
  spanned_whole said w p q =
      L.told_whole w a.1.0.now a'.1.0.now _ (sym p ∙ ap spanned passed) (λ y z e. spanned_told y z e refl) Err (λ y. refl) r r' p
      (q ∙ ap (λ (c : Cursor). said a'.1.0.now c.at) place)

  pub read_bytes_whole : read-bytes.Post κs a r x → read-bytes.Post κs' a' r' x' → SpanWhole
  read_bytes_whole p q = spanned_whole read_bytes (bytes_whole a.0.at) p.0 q.0

  pub read_string_whole : read-string.Post κs a r x → read-string.Post κs' a' r' x' → SpanWhole
  read_string_whole p q = spanned_whole read_text (text_whole a.0.at) p.0 q.0

pub skip_string_whole : (κs : Lfts 1) (a : Dens κs skip-string-kinds.ps) (r : Std.Result Cursor Refusal) (x : AtExit (ended_of 1 skip-string-kinds.ps skip-string-kinds.r) κs) → skip-string.Post κs a r x
    → (κs' : Lfts 1) (a' : Dens κs' skip-string-kinds.ps) (r' : Std.Result Cursor Refusal) (x' : AtExit (ended_of 1 skip-string-kinds.ps skip-string-kinds.r) κs') → skip-string.Post κs' a' r' x'
    → a'.0 ≡ a.0 → (next : Cursor) → r ≡ Ok next → CutOrLonger next.at a.1.0.now a'.1.0.now (RefusedAsCut Err 0 r') (r' ≡ r)
skip_string_whole κs a r x p κs' a' r' x' q place next passed =
    L.told_whole (L.skip_string_whole a.0.at) a.1.0.now a'.1.0.now _ (sym p ∙ ap skipped_to passed) (λ y z e. skipped_told y z e refl) Err (λ y. refl) r r' p
    (q ∙ ap (λ (c : Cursor). skip_string a'.1.0.now c.at) place)

-- ---- sets and framed data that are read into a room. The same room is lent
module _ (κs : Lfts 2) (a : Dens κs read-string-set-kinds.ps) (r : Std.Result Read Refusal) (x : AtExit (ended_of 2 read-string-set-kinds.ps read-string-set-kinds.r) κs)
    (κs' : Lfts 2) (a' : Dens κs' read-string-set-kinds.ps) (r' : Std.Result Read Refusal) (x' : AtExit (ended_of 2 read-string-set-kinds.ps read-string-set-kinds.r) κs')
    (place : a'.0 ≡ a.0) (room : a'.1.1.0.now ≡ a.1.1.0.now) (value : ℕ) (next : Cursor) (passed : r ≡ Ok (record { value = value; next = next })) where
  abbrev RoomWhole : Type 0
  RoomWhole =
      CutOrLonger next.at a.1.0.now a'.1.0.now (RefusedAsCut Err 0 r' × (x'.1.1.0.now ≡ a'.1.1.0.now)) ((r' ≡ r) × (x'.1.1.0.now ≡ x.1.1.0.now))

  pub read_string_set_whole : read-string-set.Post κs a r x → read-string-set.Post κs' a' r' x' → RoomWhole
  read_string_set_whole p q =
      let s' = a'.1.0.now in
      let at = a.0.at in
      let lent = a.1.1.0.now in
      let same : set_read s' a'.0.at a'.1.1.0.now ≡ set_read s' at lent =
      ap (λ (c : Cursor). set_read s' c.at a'.1.1.0.now) place ∙ ap (set_read s' at) room in
      L.told_room (L.read_set_whole at (length lent / 2)) a.1.0.now s' _ (sym p.0 ∙ ap count_read passed) (λ y z e. count_told_lem y z e refl) Err (λ y. refl) r r' p.0
      (q.0 ∙ ap (λ (y : LentRead (Result Ended)). y.answer) same) (λ k. entries_of k.0) lent _ _ _ room p.1.0
      (q.1.0 ∙ ap (λ (y : LentRead (Result Ended)). y.entries) same)

  pub read_framed_whole : read-framed.Post κs a r x → read-framed.Post κs' a' r' x' → RoomWhole
  read_framed_whole p q =
      let s' = a'.1.0.now in
      let at = a.0.at in
      let lent = a.1.1.0.now in
      let framedRead : ℕ → List ℕ → LentRead (Result Ended) = λ n l. lent_read (λ o. o) (read_framed s' n (length l)) [] (framed_payload s' n) [] l in
      let same : framedRead a'.0.at a'.1.1.0.now ≡ framedRead at lent =
      ap (λ (c : Cursor). framedRead c.at a'.1.1.0.now) place ∙ ap (framedRead at) room in
      L.told_room (L.read_framed_whole at (length lent)) a.1.0.now s' _ (sym p.0 ∙ ap total_read passed) (λ y z e. total_told y z e refl) Err (λ y. refl) r r' p.0
      (q.0 ∙ ap (λ (y : LentRead (Result Ended)). y.answer) same) (λ k. k.1) lent _ _ _ room p.1
      (q.1 ∙ ap (λ (y : LentRead (Result Ended)). y.payload) same)
