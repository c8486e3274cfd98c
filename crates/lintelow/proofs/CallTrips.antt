-- W-201, of Rattle's calls: a call that was written reads back the same, and one that reads is written again as it was. Each theorem is about `Post`, the
-- contract as Rattle reads it off the source. The laws over plain lists serve the exported calls as well.
use Prim.Native.Nat.{ℕ, ◌+◌, ◌/◌, ◌≤◌, ◌<◌}
use mathlib.Core.Path.{◌≡◌, refl, sym, ◌∙◌, ap, subst}
use mathlib.Core.List.{List, [], ◌++◌}
use lib.ListN.{length, get_or, take, drop, take-append-drop}
use lib.Seq.{take_at, length-take-le}
use contract.Lifetimes.{Lfts}
use borrow.Fn.Kinds.{Dens, ended_of}
use denote.Triple.Clauses.{AtExit}
use native.Mathlib.Nat.{zero-add}
use Rattle.layouts.specs.declared.Record.{Record}
use Rattle.layouts.specs.Primitive.{Result, ok}
use Rattle.layouts.specs.Judge.{entries_of, payload_of, lent_after}
use Rattle.layouts.specs.Calls as L
use Rattle.layouts.specs.Calls.{Context, context, arguments_kinds, arguments_tree, read_op_args}
use Rattle.layouts.specs.Writers.{view_of}
use Rattle.layouts.specs.Demands.{Bytes}
use Rattle.layouts.specs.CallWriter.{call_bytes, write_op_args}
use Rattle.layouts.proofs.Writers.{stands, begins}
use Rattle.layouts_calls.specs.CallTrips.{Fifteen, call_strings, call_pieces, ReadBack}
use Rattle.layouts_calls.specs.CallOurs.{Ours}
use Rattle.layouts_calls.proofs.CallTrips.{call_told, written_strings, strings_are, written_read}
use Rattle.layouts_calls.proofs.CallOurs.{read_written, read_within, read_written_fits}
use Rattle.walk_judge.specs.declared.Answer as C
use Rattle.walk_judge.specs.Judged.{answer_as}
use Rattle.walk_judge.proofs.Answers.{answer_fine}
use Rattle.protocol.proofs.Demands.{totalled}
use Rattle.writers_output.specs.Answer.{meaning}
use Rattle.writers_calls.specs.Calls.{bytes_or, fifteen, call_written}
use Rattle.writers_calls.proofs.write_op_args.Reads as write-op-args
use Rattle.writers_calls.proofs.write_op_args.Kinds as write-op-args-kinds
use Rattle.protocol.proofs.read_op_args.Reads as read-op-args
use Rattle.protocol.proofs.read_op_args.Kinds as read-op-args-kinds
use Rattle.lintelow.specs.RoundTrips.{Has, OutputAnswered}
use Rattle.lintelow.specs.CallTrips.{FewAndShort, SameCall}
use Rattle.lintelow.proofs.RoundTrips.{length_is}
use Rattle.std.specs.Prelude as Std
use Rattle.layouts.specs.declared.Refusal.{Refusal}
use Rattle.std.specs.Prelude.{Ok}

-- ---- there: the strings that a call was written with, and how a stream that begins with it reads
pub record CallTrip (call : Context) (ns bytes es p s : List ℕ) (slots room n : ℕ) : Type 0 where
  pub strings : List (List ℕ)
  pub used : call_strings call ns bytes es ≡ ok strings
  pub back : ReadBack call ns p strings s slots room n

module _ (call : Context) (ns bytes es p lent out s : List ℕ) where
  pub call_trip : (slots room n : ℕ) → write_op_args call ns bytes es p lent ≡ ok n
      → out ≡ lent_after (write_op_args call ns bytes es p lent) (bytes_or (call_bytes call ns bytes es p)) lent → Has s 0 n out → Fifteen ns
      → FewAndShort call ns bytes es slots → length p ≤ room → CallTrip call ns bytes es p s slots room n
  call_trip slots room n q e has small few fits =
      let o = write_op_args call ns bytes es p lent in
      let t = call_told call ns bytes es p lent n q in
      let e' = e ∙ ap (λ (x : Result (List ℕ)). lent_after o (bytes_or x) lent) t.1 in
      let d = stands o n t.0 lent out s 0 q t.2 e' has in
      let c = written_strings call ns bytes es p t.0 t.1 in
      let f = few c.0 c.1 in
      let y = written_read call ns bytes es c.0 c.1 p t.0 (drop (0 + n) s) slots room small t.1 f.0 f.1 fits in
      record {
        strings = c.0;
        used = c.1;
        back = subst (λ (l : List ℕ). ReadBack call ns p c.0 l slots room n) (sym d) (subst (λ (m : ℕ). ReadBack call ns p c.0 (t.0 ++ drop (0 + n) s) slots room m) t.2 y);
      }

module _ (call : Context) (ns bytes es p s : List ℕ) (slots room n : ℕ) (t : CallTrip call ns bytes es p s slots room n) where
  -- what is read, by entries and payload that begin with those of the stream, is what was written
  pub same_call : (es' ps' spare : List ℕ) → es' ≡ entries_of (call_pieces call s) ++ spare → ps' ≡ payload_of s (call_pieces call s)
      → SameCall call ns bytes es p (fifteen t.back.answer.found) s es' t.back.answer.found.entries ps'
  same_call es' ps' spare e f =
      let y = t.back in
      record {
        same = y.same;
        used = (t.strings, t.used, y.entries);
        strings =
            λ i h.
            let k : i < length t.strings = rw y.entries at h in (
              get_or t.strings i [],
              ap (λ (l : List ℕ). view_of s l i) e ∙ y.views spare i k,
              rw zero-add at ((strings_are call ns bytes es t.strings t.used).views i k),
            );
        carries = f ∙ y.holds;
      }

-- ---- back: a call that reads, written again from its own numbers, entries, stream and payload
module _ (call : Context) (s : List ℕ) (slots room : ℕ) (a : L.Answer) (held : Bytes s) (q : read_op_args call s slots room ≡ ok a)
    (kind : 0 < a.kind) (ours : Ours s (call_pieces call s)) where
  pub call_again : (ns bytes es p lent out spare : List ℕ) → ns ≡ fifteen a.found → bytes ≡ s → es ≡ entries_of (call_pieces call s) ++ spare → p ≡ payload_of s (call_pieces call s)
      → a.ends ≤ length lent → out ≡ lent_after (write_op_args call ns bytes es p lent) (bytes_or (call_bytes call ns bytes es p)) lent
      → (write_op_args call ns bytes es p lent ≡ ok a.ends) × Has s 0 a.ends out
  call_again ns bytes es p lent out spare same these entries payload fits e =
      let b = take a.ends s in
      let o = write_op_args call ns bytes es p lent in
      let w : o ≡ ok a.ends = rw (same, these, entries, payload) (read_written_fits call s slots room a spare held q kind ours lent fits) in
      let c : call_bytes call ns bytes es p ≡ ok b = rw (same, these, entries, payload) (read_written call s slots room a spare held q kind ours) in
      let l : length b ≡ a.ends = length-take-le a.ends s (read_within call s slots room a spare q) in
      let e' = e ∙ ap (λ (x : Result (List ℕ)). lent_after o (bytes_or x) lent) c in
      let h = begins o b lent out s (drop a.ends s) 0 (w ∙ ap ok (sym l)) e' (sym (take-append-drop a.ends s)) in
      (w, sym (subst (λ (n : ℕ). take n out ≡ take n s) l h))

-- what was reported stands before the rest of the room
pub reported_is : (n : ℕ) (new rest room : List ℕ) → room ≡ new ++ rest → length new ≡ n → take n room ≡ new
reported_is n new rest room e l = ap (take n) e ∙ take_at new rest n l

-- ---- a call of `write_op_args`, and one of `read_op_args`, of the same operation at the same version in the same mode
module _ (κs : Lfts 4) (a : Dens κs write-op-args-kinds.ps) (w : Std.Result ℕ Refusal) (x : AtExit (ended_of 4 write-op-args-kinds.ps write-op-args-kinds.r) κs) (p : write-op-args.Post κs a w x)
    (κs' : Lfts 3) (a' : Dens κs' read-op-args-kinds.ps) (r : C.Answer) (x' : AtExit (ended_of 3 read-op-args-kinds.ps read-op-args-kinds.r) κs')
    (q : read-op-args.Post κs' a' r x') where
  abbrev asked : Context
  asked = context a.0 a.1.0 a.1.1.0 a.1.1.1.0

  abbrev given : Record
  given = a.1.1.1.1.0

  abbrev bytes_given : List ℕ
  bytes_given = a.1.1.1.1.1.0.now

  abbrev entries_given : List ℕ
  entries_given = a.1.1.1.1.1.1.0.now

  abbrev payload_given : List ℕ
  payload_given = a.1.1.1.1.1.1.1.0.now

  abbrev lent : List ℕ
  lent = a.1.1.1.1.1.1.1.1.0.now

  abbrev output : List ℕ
  output = x.1.1.1.1.1.1.1.1.0.now

  -- the reader's
  abbrev asked_read : Context
  asked_read = context a'.0 a'.1.0 a'.1.1.0 a'.1.1.1.0

  abbrev stream : List ℕ
  stream = a'.1.1.1.1.0.now

  -- the rooms that are lent for entries and payload, and what they hold afterwards
  abbrev slots : List ℕ
  slots = a'.1.1.1.1.1.0.now

  abbrev room : List ℕ
  room = a'.1.1.1.1.1.1.0.now

  abbrev entries_read : List ℕ
  entries_read = x'.1.1.1.1.1.0.now

  abbrev payload_read : List ℕ
  payload_read = x'.1.1.1.1.1.1.0.now

  module _ (agree : asked_read ≡ asked) where
    -- a call written by us reads back the same:
    -- n bytes were written, and the stream begins with them; with a slot for each string and room for the payload, it reads as a call with a kind, to its end,
    -- and has the numbers, the strings and the payload that were written. Any record has fifteen numbers of eight bytes
    pub call_read_back : (n : ℕ) → w ≡ Ok n → Fifteen (fifteen given) → FewAndShort asked (fifteen given) bytes_given entries_given (length slots / 2)
        → length payload_given ≤ length room → Has stream 0 n output
        → (r.outcome ≡ Ok tt) × (0 < r.kind) × (r.ends ≡ n)
        × SameCall asked (fifteen given) bytes_given entries_given payload_given (fifteen r.found) stream entries_read r.found.entries (take r.found.payload payload_read)
    unfolding call_written write_op_args
    call_read_back n wrote small few fits has =
        let ns = fifteen given in
        let t = call_trip asked ns bytes_given entries_given payload_given lent output stream (length slots / 2) (length room) n (sym p.0 ∙ ap meaning wrote) p.1 has small few fits in
        let y = t.back in
        let o = read_op_args asked_read stream (length slots / 2) (length room) in
        let e : o ≡ ok y.answer = rw agree y.reads in
        let f : r ≡ answer_as (ok y.answer) = q.0 ∙ ap answer_as e in
        let g = q.1.0 ∙ ap (λ (z : Result L.Answer). lent_after z (entries_of (call_pieces asked_read stream)) slots) e in
        let h = q.1.1 ∙ ap (λ (z : Result L.Answer). lent_after z (payload_of stream (call_pieces asked_read stream)) room) e in
        let z = reported_is y.answer.found.payload (payload_of stream (call_pieces asked stream)) _ payload_read (rw agree at h) (ap length y.holds ∙ sym y.size) in
        rw f (
          refl,
          y.kind,
          y.stops,
          same_call asked ns bytes_given entries_given payload_given stream (length slots / 2) (length room) n t entries_read _ _ (rw agree at g) z,
        )

    -- a call that reads, written again, gives the same bytes:
    -- it was read as a call with a kind, and is as we write calls; its own record, stream, entries and payload are written with room, and the output begins
    -- with the call's own bytes
    pub call_written_again : r.outcome ≡ (Ok tt) → 0 < r.kind → Bytes stream → Ours stream (call_pieces asked stream)
        → given ≡ r.found → bytes_given ≡ stream → entries_given ≡ entries_read → payload_given ≡ take r.found.payload payload_read → r.ends ≤ length lent
        → OutputAnswered w output stream 0 r.ends
    unfolding call_written write_op_args read_op_args
    call_written_again read kind held ours same bytes entries payload fits =
        let o = read_op_args asked_read stream (length slots / 2) (length room) in
        let e = answer_fine r o q.0 read in
        let g = q.1.0 ∙ ap (λ (z : Result L.Answer). lent_after z (entries_of (call_pieces asked_read stream)) slots) e in
        let h = q.1.1 ∙ ap (λ (z : Result L.Answer). lent_after z (payload_of stream (call_pieces asked_read stream)) room) e in
        let m = totalled asked_read.spoken (arguments_kinds asked_read) (length slots / 2) (length room) stream (arguments_tree asked_read) _ e in
        let z = reported_is r.found.payload (payload_of stream (call_pieces asked_read stream)) _ payload_read h m in
        let y = call_again asked stream (length slots / 2) (length room) _ held (sym (ap (λ (k : Context). read_op_args k stream (length slots / 2) (length room)) agree) ∙ e) kind ours (fifteen given) bytes_given entries_given payload_given lent output _
        (ap fifteen same) bytes (rw agree at (entries ∙ g)) (rw agree at (payload ∙ z)) fits p.1 in
        (length_is w _ (p.0 ∙ y.0), y.1)
