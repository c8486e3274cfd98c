-- Demand 2, of the exported calls, as `RoundTrips` has it of Rattle's: a call that returns 0 has succeeded, and its block tells where. Each theorem is about `Post`.
use Prim.Native.Nat.{ℕ, ◌+◌, ◌-◌, ◌/◌, ◌≤◌}
use mathlib.Core.Path.{◌≡◌, sym, ◌∙◌, ap, subst}
use mathlib.Core.List.{List}
use lib.ListN.{length, take, drop}
use native.Mathlib.Omega.{arith}
use contract.Lifetimes.{Lfts}
use borrow.Fn.Kinds.{Dens, ended_of}
use denote.Triple.Clauses.{AtExit}
use Rattle.layouts.specs.Primitive.{number_at, limit, Result}
use Rattle.layouts.specs.Shape.{as_count, passed, kept, str, set}
use Rattle.layouts.specs.Judge.{Ended, lent_after}
use Rattle.layouts.specs.Calls.{skip_string, read_string}
use Rattle.layouts.specs.Writers.{string_bytes, writing, write_string, texts_of, write_string_set, output_of}
use Rattle.layouts.specs.Demands.{Zeros, ZeroPadded, set_pieces}
use Rattle.layouts.proofs.Little.{number_small}
use Rattle.layouts.proofs.Success.{onward_numbered, writing_numbered, string_numbered, set_numbered, skip_field_numbered, read_field_numbered}
use Rattle.layouts.proofs.Writers.{writing_told, string_told}
use Rattle.writers_output.specs.Numbers.{bytes_of}
use Rattle.entries.specs.Entries.{entries_in}
use Rattle.wire.specs.Answers.{read_bytes, read_text, set_entries}
use Rattle.lintelow.proofs.writes.lintelow_write_string.Reads as write-string
use Rattle.lintelow.proofs.writes.lintelow_write_string.Kinds as write-string-kinds
use Rattle.lintelow.proofs.writes.lintelow_write_bytes.Reads as write_bytes
use Rattle.lintelow.proofs.writes.lintelow_write_string_set.Reads as write-string-set
use Rattle.lintelow.proofs.writes.lintelow_write_string_set.Kinds as write-string-set-kinds
use Rattle.lintelow.proofs.reads.lintelow_read_string.Reads as read-string
use Rattle.lintelow.proofs.reads.lintelow_read_string.Kinds as read-string-kinds
use Rattle.lintelow.proofs.reads.lintelow_read_bytes.Reads as read-bytes
use Rattle.lintelow.proofs.reads.lintelow_read_string_set.Reads as read-string-set
use Rattle.lintelow.proofs.reads.lintelow_read_string_set.Kinds as read-string-set-kinds
use Rattle.lintelow.specs.Demands.{end_told, start_told, length_told, count_told}
use Rattle.lintelow.specs.RoundTrips.{Has, Limited, SameStrings, StringReported, OutputReported}
use Rattle.lintelow.proofs.TripLaws.{bytes_trip, text_trip, set_trip, set_room, bytes_again, text_again, set_again, bytes_within, text_within}
use Rattle.lintelow.proofs.BlockLaws.{guarded_long, entries_in_lem, WrittenBy, write_out, write_done, write_told, set_done, read_set_told, exported_there, exported_back}

-- ---- strings: a call of `lintelow_write_string` or `lintelow_write_bytes`, and one of `lintelow_read_string` or `lintelow_read_bytes`
module _ (κs : Lfts 3) (a : Dens κs write-string-kinds.ps) (w : ℕ) (x : AtExit (ended_of 3 write-string-kinds.ps write-string-kinds.r) κs)
    (κs' : Lfts 2) (a' : Dens κs' read-string-kinds.ps) (r : ℕ) (x' : AtExit (ended_of 2 read-string-kinds.ps read-string-kinds.r) κs') where
  abbrev contents : List ℕ
  contents = a.1.0.now

  abbrev lent : List ℕ
  lent = a.0.now

  -- the writer's block, lent and afterwards
  abbrev report : List ℕ
  report = a.1.1.0.now

  abbrev reported : List ℕ
  reported = x.1.1.0.now

  abbrev output : List ℕ
  output = x.0.now

  abbrev stream : List ℕ
  stream = a'.0.now

  abbrev place : ℕ
  place = a'.1.0

  -- the reader's block, lent and afterwards
  abbrev block : List ℕ
  block = a'.1.1.0.now

  abbrev answer : List ℕ
  answer = x'.1.1.0.now

  -- a string was written, and the stream has it at the place: with a block, the contents are answered, and the end behind them
  module _ (wrote : w ≡ 0) (small : length contents ≤ limit) (has : Has stream place (end_told reported) output) (long : 200 ≤ length block) where
    -- a string written by us reads back the same
    pub string_read_back : write-string.Post κs a w x → read-string.Post κs' a' r x' → StringReported r answer stream contents (place + end_told reported)
    string_read_back p q =
        exported_there contents lent output report reported stream block answer place w r (write_string contents lent) (read_text stream place) p q (string_numbered contents lent)
        (λ n e. (string_told contents lent n e).1) (λ n e f h. text_trip contents stream place n small lent output h e f) wrote small has long

    -- and so do any bytes
    pub bytes_read_back : write_bytes.Post κs a w x → read-bytes.Post κs' a' r x' → StringReported r answer stream contents (place + end_told reported)
    bytes_read_back p q =
        exported_there contents lent output report reported stream block answer place w r (writing (string_bytes contents) lent) (read_bytes stream place) p q
        (writing_numbered (string_bytes contents) lent) (λ n e. writing_told (string_bytes contents) lent n e) (λ n e f h. bytes_trip contents stream place n small lent output h e f)
        wrote small has long

  -- a string was read, and its padding is zero: its contents are written again with room and a block, and the output begins with the string's own bytes
  module _ (read : r ≡ 0) (zeroed : Zeros stream (start_told answer + length_told answer) (end_told answer)) (same : contents ≡ take (length_told answer) (drop (start_told answer) stream))
      (room : end_told answer - place ≤ length lent) (long : 200 ≤ length report) where
    -- a string that reads, written again, gives the same bytes
    pub string_written_again : read-string.Post κs' a' r x' → write-string.Post κs a w x → OutputReported w reported output stream place (end_told answer - place)
    string_written_again p q =
        exported_back contents lent output report reported stream block answer place w r (write_string contents lent) (read_text stream place) q p
        (onward_numbered (read_string stream place) _ (read_field_numbered stream place (str kept) 1 0) (λ e. tt)) (text_within stream place)
        (λ y e z f g h. text_again stream place p.1.1 y z contents lent output f g e h) read zeroed same room long

    -- and so do any bytes
    pub bytes_written_again : read-bytes.Post κs' a' r x' → write_bytes.Post κs a w x → OutputReported w reported output stream place (end_told answer - place)
    bytes_written_again p q =
        exported_back contents lent output report reported stream block answer place w r (writing (string_bytes contents) lent) (read_bytes stream place) q p
        (onward_numbered (skip_string stream place) _ (skip_field_numbered stream place (str passed)) (λ e. tt)) (bytes_within stream place)
        (λ y e z f g h. bytes_again stream place p.1.1 y z contents lent output f g e h) read zeroed same room long

-- ---- sets: a call of `lintelow_write_string_set`, and one of `lintelow_read_string_set`. Sixteen bytes make a slot
module _ (κs : Lfts 4) (a : Dens κs write-string-set-kinds.ps) (w : ℕ) (x : AtExit (ended_of 4 write-string-set-kinds.ps write-string-set-kinds.r) κs) (p : write-string-set.Post κs a w x)
    (κs' : Lfts 3) (a' : Dens κs' read-string-set-kinds.ps) (r : ℕ) (x' : AtExit (ended_of 3 read-string-set-kinds.ps read-string-set-kinds.r) κs')
    (q : read-string-set.Post κs' a' r x') where
  abbrev bytes_given : List ℕ
  bytes_given = a.1.0.now

  abbrev entries_given : List ℕ
  entries_given = a.1.1.0.now

  abbrev count : ℕ
  count = a.1.1.1.0

  abbrev set_report : List ℕ
  set_report = a.1.1.1.1.0.now

  abbrev set_reported : List ℕ
  set_reported = x.1.1.1.1.0.now

  abbrev set_lent : List ℕ
  set_lent = a.0.now

  abbrev set_output : List ℕ
  set_output = x.0.now

  abbrev set_stream : List ℕ
  set_stream = a'.0.now

  abbrev set_place : ℕ
  set_place = a'.1.0

  abbrev slots : List ℕ
  slots = a'.1.1.0.now

  abbrev entries_read : List ℕ
  entries_read = x'.1.1.0.now

  abbrev set_block : List ℕ
  set_block = a'.1.1.1.0.now

  abbrev set_answer : List ℕ
  set_answer = x'.1.1.1.0.now

  -- a set written by us reads back the same:
  -- it was written, and the stream has it at the place; with a slot for each string and a block, so many strings are answered and the end behind them, and
  -- each is the one that was written
  pub set_read_back : w ≡ 0 → Limited bytes_given (entries_in entries_given) count → Has set_stream set_place (end_told set_reported) set_output → count ≤ length slots / 16 → 200 ≤ length set_block
      → (r ≡ 0) × (count_told set_answer ≡ count) × (end_told set_answer ≡ set_place + end_told set_reported)
      × SameStrings count set_stream (entries_in entries_read) bytes_given (entries_in entries_given)
  set_read_back wrote small has room long =
      let es = entries_in entries_given in
      let o = write_string_set bytes_given es count set_lent in
      let b = output_of (texts_of bytes_given es count) in
      let p' : WrittenBy set_report set_reported set_lent set_output b w o = (p.0, (p.1.0, p.1.1.0)) in
      let t = write_told set_report set_reported set_lent set_output b w o p' (set_numbered bytes_given es count set_lent) wrote in
      let n = t.1 in
      let d = write_done set_report set_reported set_lent set_output b w o p' n t.2 t.0 (omega (arith, p.1.1.1, set_room bytes_given es set_lent count n t.2)) in
      let f = write_out set_report set_reported set_lent set_output b w o p' t.0 in
      let y = set_trip bytes_given es set_lent set_output set_stream count set_place n (rw d.1 at has) small t.2 f q.1.1.1.1 in
      let e = y.reads (length slots / 16) room in
      let h = q.1.1.1.1 in
      let k = y.within in
      let m = y.few in
      let z = set_done set_block set_answer r _ q.0 q.1.0 count (set_place + n) e long (omega arith) (omega arith) in
      let g = q.1.1.0 ∙ ap (λ (o : Result Ended). lent_after o (bytes_of (set_entries set_stream set_place)) slots) (guarded_long set_block _ long ∙ e) in
      let v = entries_in_lem (set_entries set_stream set_place) _ count y.twice (λ i. omega (arith, y.low i, h)) in (
        z.0,
        z.1,
        z.2 ∙ ap (λ (i : ℕ). set_place + i) (sym d.1),
        subst (λ (l : List ℕ). SameStrings count set_stream l bytes_given es) (sym (ap entries_in g ∙ v.1)) (y.strings v.0),
      )

  -- a set that reads, written again, gives the same bytes:
  -- it was read, and its padding is zero; its own strings, by its entries at exit, are written again with room and a block, and the output begins with the
  -- set's own bytes
  pub set_written_again : r ≡ 0 → ZeroPadded set_stream (set_pieces set_stream set_place) → bytes_given ≡ set_stream → entries_given ≡ entries_read → count ≡ count_told set_answer
      → end_told set_answer - set_place ≤ length set_lent → 200 ≤ length set_report
      → OutputReported w set_reported set_output set_stream set_place (end_told set_answer - set_place)
  set_written_again read zeroed bytes entries many room long =
      let es = entries_in entries_given in
      let o = write_string_set bytes_given es count set_lent in
      let b = output_of (texts_of bytes_given es count) in
      let p' : WrittenBy set_report set_reported set_lent set_output b w o = (p.0, (p.1.0, p.1.1.0)) in
      let t = read_set_told set_block set_answer r _ q.0 q.1.0 (read_field_numbered set_stream set_place (set kept (as_count 0)) (length slots / 16) 0) read in
      let y = set_again set_stream set_place (length slots / 16) t.1 q.1.1.1 t.2 zeroed in
      let h = q.1.1.1.1 in
      let k = y.within in
      let m = number_small set_stream set_place q.1.1.1.0 in
      let z = set_done set_block set_answer r _ q.0 q.1.0 (number_at set_stream set_place) t.1.ends y.reads t.0 m (omega arith) in
      let g = entries ∙ q.1.1.0 ∙ ap (λ (o : Result Ended). lent_after o (bytes_of (set_entries set_stream set_place)) slots) (guarded_long set_block _ t.0 ∙ y.reads) in
      let v = entries_in_lem (set_entries set_stream set_place) _ (number_at set_stream set_place) y.twice (λ i. omega (arith, y.low i, h)) in
      let f = write_out set_report set_reported set_lent set_output b w o p' long in
      let u = y.writes bytes_given es set_lent set_output count v.0 bytes (ap entries_in g ∙ v.1) (many ∙ z.1) (rw z.2 at room) f in
      let d = write_done set_report set_reported set_lent set_output b w o p' _ u.0 long (omega arith) in
      (d.0, d.1 ∙ ap (λ (i : ℕ). i - set_place) (sym z.2), rw z.2 u.1)
