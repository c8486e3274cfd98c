-- Demand 2, of Rattle's calls: what a writer wrote reads back the same, and what reads is written again as it was. Each theorem is about `Post`, the contract as
-- Rattle reads it off the source.
use Prim.Native.Nat.{ℕ, ◌+◌, ◌-◌, ◌/◌, ◌≤◌}
use mathlib.Core.Path.{◌≡◌, refl, sym, ◌∙◌, ap}
use mathlib.Core.List.{List, []}
use lib.ListN.{length, take, drop}
use contract.Lifetimes.{Lfts}
use borrow.Fn.Kinds.{Dens, ended_of}
use denote.Triple.Clauses.{AtExit}
use Rattle.layouts.specs.Primitive.{number_at, limit, Result, ok}
use Rattle.layouts.specs.Judge.{Ended, lent_after}
use Rattle.layouts.specs.Demands.{Zeros, ZeroPadded, set_pieces}
use Rattle.pieces.specs.Pieces.{span}
use Rattle.writers_output.specs.Answer.{meaning}
use Rattle.writers_output.proofs.Unique.{once}
use Rattle.wire.specs.declared.Cursor.{Cursor}
use Rattle.wire.specs.Answers.{spanned, count_read, set_entries}
use Rattle.wire.proofs.Unique.{spanned_told, count_told_lem}
use Rattle.writers.proofs.write_string.Reads as write-string
use Rattle.writers.proofs.write_string.Kinds as write-string-kinds
use Rattle.writers.proofs.write_bytes.Reads as write_bytes
use Rattle.writers_sets.proofs.write_string_set.Reads as write-string-set
use Rattle.writers_sets.proofs.write_string_set.Kinds as write-string-set-kinds
use Rattle.wire.proofs.Cursor.read_string.Reads as read-string
use Rattle.wire.proofs.Cursor.read_string.Kinds as read-string-kinds
use Rattle.wire.proofs.Cursor.read_bytes.Reads as read-bytes
use Rattle.wire.proofs.Cursor.read_string_set.Reads as read-string-set
use Rattle.wire.proofs.Cursor.read_string_set.Kinds as read-string-set-kinds
use Rattle.lintelow.specs.RoundTrips.{Has, Limited, SameStrings, StringAnswered, OutputAnswered}
use Rattle.lintelow.proofs.TripLaws.{bytes_trip, text_trip, set_trip, bytes_again, text_again, set_again}
use Rattle.wire.specs.declared.Read.{Read}
use Rattle.wire.specs.declared.Spanned.{Spanned}
use Rattle.std.specs.Prelude as Std
use Rattle.layouts.specs.declared.Refusal.{Refusal}
use Rattle.std.specs.Prelude.{Ok, Err}

pub length_is : (w : Std.Result ℕ Refusal) (n : ℕ) → meaning w ≡ ok n → w ≡ Ok n
length_is w n e = (once w (Ok n) (ok n) [] [] [] (e, refl) (refl, refl)).0

-- ---- strings: a call of `write_string` or `write_bytes`, and one of `read_string` or `read_bytes`
module _ (κs : Lfts 2) (a : Dens κs write-string-kinds.ps) (w : Std.Result ℕ Refusal) (x : AtExit (ended_of 2 write-string-kinds.ps write-string-kinds.r) κs)
    (κs' : Lfts 1) (a' : Dens κs' read-string-kinds.ps) (r : Std.Result Spanned Refusal) (x' : AtExit (ended_of 1 read-string-kinds.ps read-string-kinds.r) κs') where
  abbrev contents : List ℕ
  contents = a.1.0.now

  abbrev lent : List ℕ
  lent = a.0.now

  abbrev output : List ℕ
  output = x.0.now

  abbrev stream : List ℕ
  stream = a'.1.0.now

  abbrev place : ℕ
  place = a'.0.at

  -- n bytes were written, and the stream has them at the place: the contents are answered, and the end behind them
  module _ (n : ℕ) (wrote : w ≡ Ok n) (small : length contents ≤ limit) (has : Has stream place n output) where
    -- a string written by us reads back the same
    pub string_read_back : write-string.Post κs a w x → read-string.Post κs' a' r x' → StringAnswered r stream contents (place + n)
    string_read_back p q =
        let y = text_trip contents stream place n small lent output has (sym p.0 ∙ ap meaning wrote) p.1 in
        (place + 8, length contents, spanned_told r _ (q.0 ∙ y.reads) refl, y.these)

    -- and so do any bytes
    pub bytes_read_back : write_bytes.Post κs a w x → read-bytes.Post κs' a' r x' → StringAnswered r stream contents (place + n)
    bytes_read_back p q =
        let y = bytes_trip contents stream place n small lent output has (sym p.0 ∙ ap meaning wrote) p.1 in
        (place + 8, length contents, spanned_told r _ (q.0 ∙ y.reads) refl, y.these)

  -- a string was read, and its padding is zero: its contents are written again with room, and the output begins with the string's own bytes
  module _ (start len : ℕ) (next : Cursor) (read : r ≡ Ok (record { start = start; len = len; next = next })) (zeroed : Zeros stream (start + len) next.at)
      (same : contents ≡ take len (drop start stream)) (room : next.at - place ≤ length lent) where
    -- a string that reads, written again, gives the same bytes
    pub string_written_again : read-string.Post κs' a' r x' → write-string.Post κs a w x → OutputAnswered w output stream place (next.at - place)
    string_written_again p q =
        let y = text_again stream place p.1 (span start len next.at) zeroed contents lent output same room (sym p.0 ∙ ap spanned read) q.1 in
        (length_is w _ (q.0 ∙ y.0), y.1)

    -- and so do any bytes
    pub bytes_written_again : read-bytes.Post κs' a' r x' → write_bytes.Post κs a w x → OutputAnswered w output stream place (next.at - place)
    bytes_written_again p q =
        let y = bytes_again stream place p.1 (span start len next.at) zeroed contents lent output same room (sym p.0 ∙ ap spanned read) q.1 in
        (length_is w _ (q.0 ∙ y.0), y.1)

-- ---- sets: a call of `write_string_set`, and one of `read_string_set`
abbrev value_in : Std.Result Read Refusal → ℕ
value_in (Ok k) = k.value
value_in (Err y) = 0

module _ (κs : Lfts 3) (a : Dens κs write-string-set-kinds.ps) (w : Std.Result ℕ Refusal) (x : AtExit (ended_of 3 write-string-set-kinds.ps write-string-set-kinds.r) κs) (p : write-string-set.Post κs a w x)
    (κs' : Lfts 2) (a' : Dens κs' read-string-set-kinds.ps) (r : Std.Result Read Refusal) (x' : AtExit (ended_of 2 read-string-set-kinds.ps read-string-set-kinds.r) κs')
    (q : read-string-set.Post κs' a' r x') where
  abbrev bytes_given : List ℕ
  bytes_given = a.1.0.now

  abbrev entries_given : List ℕ
  entries_given = a.1.1.0.now

  abbrev count : ℕ
  count = a.1.1.1.0

  abbrev set_lent : List ℕ
  set_lent = a.0.now

  abbrev set_output : List ℕ
  set_output = x.0.now

  abbrev set_stream : List ℕ
  set_stream = a'.1.0.now

  abbrev set_place : ℕ
  set_place = a'.0.at

  abbrev slots : List ℕ
  slots = a'.1.1.0.now

  abbrev entries_read : List ℕ
  entries_read = x'.1.1.0.now

  -- a set written by us reads back the same:
  -- n bytes were written, and the stream has them at the place; with a slot for each string, so many strings are answered and the end behind them, and
  -- each is the one that was written
  pub set_read_back : (n : ℕ) → w ≡ Ok n → Limited bytes_given entries_given count → Has set_stream set_place n set_output → count ≤ length slots / 2
      → (r ≡ Ok (record { value = count; next = (record { at = set_place + n }) })) × SameStrings count set_stream entries_read bytes_given entries_given
  set_read_back n wrote small has room =
      let y = set_trip bytes_given entries_given set_lent set_output set_stream count set_place n has small (sym p.0 ∙ ap meaning wrote) p.1 q.1.1.1 in
      let e = y.reads (length slots / 2) room in
      (count_told_lem r _ (q.0 ∙ e) refl, rw (q.1.0 ∙ ap (λ (o : Result Ended). lent_after o (set_entries set_stream set_place) slots) e) (y.strings _))

  -- a set that reads, written again, gives the same bytes:
  -- it was read, and its padding is zero; its own strings, by its entries at exit, are written again with room, and the output begins with the set's own
  -- bytes
  pub set_written_again : (v : ℕ) (next : Cursor) → r ≡ Ok (record { value = v; next = next }) → ZeroPadded set_stream (set_pieces set_stream set_place)
      → bytes_given ≡ set_stream → entries_given ≡ entries_read → count ≡ v → next.at - set_place ≤ length set_lent
      → OutputAnswered w set_output set_stream set_place (next.at - set_place)
  set_written_again v next read zeroed bytes entries many room =
      let e = sym q.0 ∙ ap count_read read in
      let y = set_again set_stream set_place (length slots / 2) _ q.1.1 e zeroed in
      let f : v ≡ number_at set_stream set_place = ap value_in (sym read ∙ count_told_lem r (Ok (record { value = (number_at set_stream set_place); next = next })) (q.0 ∙ y.reads) refl) in
      let g = entries ∙ q.1.0 ∙ ap (λ (o : Result Ended). lent_after o (set_entries set_stream set_place) slots) e in
      let z = y.writes bytes_given entries_given set_lent set_output count _ bytes g (many ∙ f) room p.1 in
      (length_is w _ (p.0 ∙ z.0), z.1)
