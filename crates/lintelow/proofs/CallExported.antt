-- W-201, of the exported calls, as `CallTrips` has it of Rattle's: a call that returns 0 has succeeded, and its block tells the rest. Each theorem is about `Post`.
use Prim.Native.Nat.{ℕ, zero, suc, ◌+◌, ◌*◌, ◌/◌, ◌≤◌, ◌<◌}
use mathlib.Core.Path.{◌≡◌, refl, sym, ◌∙◌, ap, subst}
use mathlib.Core.List.{List, [], ◌∷◌, ◌++◌, append_assoc, append-nil}
use mathlib.Core.Bool.{Bool, true, false}
use lib.ListN.{length, get_or, take, drop}
use lib.Seq.{get_or-take, drop_at}
use lib.Dec.{leb}
use borrow.Author.Tests.{le-leb, leb-true}
use native.Mathlib.Omega.{arith}
use contract.Lifetimes.{Lfts}
use borrow.Fn.Kinds.{Dens, ended_of}
use denote.Triple.Clauses.{AtExit}
use Rattle.layouts.specs.Primitive.{pick, number_at, Version, version, at_least, output_full, Result, ok, refused}
use Rattle.layouts.specs.Pieces.{run}
use Rattle.layouts.specs.Record.{blank}
use Rattle.layouts.specs.Judge.{judge_of, entries_of, payload_of, lent_after}
use Rattle.layouts.specs.Operations as O
use Rattle.layouts.specs.Operations.{ArgumentsKind, arguments_number, Choice, none, only, by_version, by_flag, by_number, kind_of, Row, row, unknown}
use Rattle.layouts.specs.Calls as L
use Rattle.layouts.specs.Calls.{Context, context, chosen, kind_by, arguments_kinds, arguments_tree, read_op_args}
use Rattle.layouts.specs.Writers.{writing}
use Rattle.layouts.specs.Demands.{Bytes, Held}
use Rattle.layouts.specs.CallWriter.{call_bytes, write_op_args}
use Rattle.layouts.proofs.Little.{number_same, little_drop, number_small}
use Rattle.layouts.proofs.Success.{call_numbered}
use Rattle.layouts.proofs.Calls.{answer_of_lem}
use Rattle.layouts.proofs.Writers.{onward_ok, pick_ok}
use Rattle.layouts_calls.specs.CallTrips.{Fifteen, call_pieces}
use Rattle.layouts_calls.specs.CallOurs.{Ours}
use Rattle.layouts_calls.proofs.CallOurs.{read_within, read_fifteen, read_entries}
use Rattle.entries.specs.Entries.{numbers_from, entries_in}
use Rattle.writers_output.specs.Numbers.{bytes_of}
use Rattle.writers_output.proofs.Numbers.{bytes_length, bytes_join}
use Rattle.walk_judge.specs.Judged.{answer_as}
use Rattle.writers_calls.specs.Calls.{bytes_or, fifteen}
use Rattle.protocol.proofs.Demands.{counted, totalled, roomy}
use Rattle.lintelow_answers.specs.Answers.{mode_of}
use Rattle.lintelow_answers.specs.Block.{numbers_of, guarded, number_of, block_after, number_put, block_put}
use Rattle.lintelow.proofs.writes.lintelow_write_op_args.Reads as write-op-args
use Rattle.lintelow.proofs.writes.lintelow_write_op_args.Kinds as write-op-args-kinds
use Rattle.lintelow.proofs.lintelow_read_op_args.Reads as read-op-args
use Rattle.lintelow.proofs.lintelow_read_op_args.Kinds as read-op-args-kinds
use Rattle.lintelow.specs.Demands.{end_told, entries_told, payload_told, Lendable}
use Rattle.lintelow.specs.RoundTrips.{Has, OutputReported}
use Rattle.lintelow.specs.CallTrips.{FewAndShort, SameCall, kind_told, fifteen_told}
use Rattle.lintelow.proofs.Told.{from_length}
use Rattle.lintelow.proofs.BlockLaws.{guarded_long, entries_in_lem, number_in, numbers_from_lem, called_zero, called_at, WrittenBy, write_out, write_done, write_told}
use Rattle.lintelow.proofs.CallTrips.{call_trip, same_call, call_again, reported_is}

-- ---- the numbers of a record in lent bytes
from_small : (n at : ℕ) (b : List ℕ) → Bytes b → (j : ℕ) → get_or (numbers_from n at b) j 0 < 18446744073709551616
unfolding numbers_from
from_small zero at b h j = omega arith
from_small (suc n) at b h zero = number_small b at h
from_small (suc n) at b h (suc j) = from_small n (at + 8) b h j

-- a part of other bytes
from_part : (n at k m : ℕ) (b : List ℕ) → at + 8 * n ≤ m → numbers_from n at (take m (drop k b)) ≡ numbers_from n (k + at) b
unfolding numbers_from number_at
from_part zero at k m b h = refl
from_part (suc n) at k m b h =
    let l = drop k b in
    let e = number_same l (take m l) at (λ x f g. get_or-take m l x 0 (omega arith)) ∙ little_drop 8 b k at in
    let z : k + (at + 8) ≡ k + at + 8 = omega arith in
    ap (λ (i : ℕ). i ∷ numbers_from n (at + 8) (take m l)) e
    ∙ ap (λ (i : List ℕ). number_at b (k + at) ∷ i) (from_part n (at + 8) k m b (omega arith) ∙ ap (λ (i : ℕ). numbers_from n i b) z)

-- ---- the number of a kind of arguments is below 256
kind_number : (k : ArgumentsKind) → arguments_number k < 256
kind_number O.SinglePath = omega arith
kind_number O.SingleString = omega arith
kind_number O.PathSet = omega arith
kind_number O.PathSetFlag = omega arith
kind_number O.PathSetMode = omega arith
kind_number O.NoArgs = omega arith
kind_number O.SetOptions = omega arith
kind_number O.CollectGarbage = omega arith
kind_number O.VerifyStore = omega arith
kind_number O.AddPermRoot = omega arith
kind_number O.AddSignatures = omega arith
kind_number O.AddTextToStore = omega arith
kind_number O.AddToStore = omega arith
kind_number O.AddMultipleToStore = omega arith
kind_number O.AddBuildLog = omega arith
kind_number O.RegisterDrvOutput = omega arith
kind_number O.QueryRealisation = omega arith
kind_number O.QuerySubstitutablePathInfo = omega arith
kind_number O.QuerySubstitutablePathInfos = omega arith
kind_number O.QuerySubstitutablePairs = omega arith
kind_number O.RegisterDrvOutputOld = omega arith

pick_low : (b : Bool) (m n : ℕ) → m < 256 → n < 256 → pick b m n < 256
pick_low true m n h g = h
pick_low false m n h g = g

kind_low : (v : Version) (b : Bool) (k : Choice ArgumentsKind) → kind_of v b (by_number arguments_number k) < 256
unfolding kind_of
kind_low v b none = omega arith
kind_low v b (only k) = kind_number k
kind_low v b (by_version x k l) = pick_low (at_least v (version 1 x)) _ _ (kind_low v b k) (kind_low v b l)
kind_low v b (by_flag k l) = pick_low b _ _ (kind_low v b k) (kind_low v b l)

kind_by_lem : (v : Version) (b : Bool) (f : Row) → kind_of v b (kind_by f (λ o. by_number arguments_number o.arguments_kind)) < 256
unfolding kind_of
kind_by_lem v b (row o) = kind_low v b o.arguments_kind
kind_by_lem v b unknown = omega arith

read_kind_low : (call : Context) (s : List ℕ) (slots room : ℕ) (y : L.Answer) → read_op_args call s slots room ≡ ok y → y.kind < 256
unfolding read_op_args
read_kind_low call s slots room y e =
    let x = answer_of_lem call.spoken (arguments_kinds call) (judge_of s slots room blank (run (arguments_tree call) s 0)) y e in
    let k : kind_of call.spoken x.0.found.present (arguments_kinds call) ≡ y.kind = let z = x.2 in cc in
    let h = kind_by_lem call.spoken x.0.found.present (chosen call) in
    rw k at h

-- ---- what is written fits
call_room : (call : Context) (ns bytes es p lent : List ℕ) (n : ℕ) → write_op_args call ns bytes es p lent ≡ ok n → n ≤ length lent
unfolding write_op_args writing
call_room call ns bytes es p lent n q =
    let a = onward_ok (call_bytes call ns bytes es p) (λ out. writing out lent) n q in
    let b = pick_ok (leb (length a.0) (length lent)) output_full 0 (ok (length a.0)) n a.2 in
    let z : length a.0 ≡ n = let y = b.1 in cc in
    omega (arith, leb-true (length a.0) (length lent) b.0)

-- ---- what a read that succeeded tells in its block, and leaves in its rooms
record ReadTells (call : Context) (s : List ℕ) (y : L.Answer) (r : ℕ) (after es' ps' : List ℕ) : Type 0 where
  zero : r ≡ 0
  kind : kind_told after ≡ y.kind
  ends : end_told after ≡ y.ends
  entries : entries_told after ≡ y.found.entries
  numbers : fifteen_told after ≡ fifteen y.found
  spare : List ℕ
  views : entries_in es' ≡ entries_of (call_pieces call s) ++ spare
  payload : take (payload_told after) ps' ≡ payload_of s (call_pieces call s)

module _ (block after : List ℕ) (r : ℕ) (o : Result L.Answer) (p : r ≡ number_of block (answer_as o)) (p' : after ≡ block_after block (answer_as o)) where
  -- 0 is returned: the block was long enough
  block_long : r ≡ 0 → 200 ≤ length block
  unfolding number_put
  block_long z = by (leb 200 (length block)) refl (sym p ∙ z)
    where
      by : (b : Bool) → leb 200 (length block) ≡ b → pick b (get_or (numbers_of (answer_as o)) 0 0) output_full ≡ 0 → 200 ≤ length block
      by true f q = leb-true 200 (length block) f
      by false f q = absurd (omega arith)

  -- a refusal tells no kind
  kind_read : 200 ≤ length block → 0 < kind_told after → (y : L.Answer) × (o ≡ ok y)
  unfolding block_put
  kind_read long k = by o p'
    where
      by : (o' : Result L.Answer) → after ≡ block_after block (answer_as o') → (y : L.Answer) × (o' ≡ ok y)
      by (ok y) e = (y, refl)
      by (refused which place stream) e =
          let ns = numbers_of (answer_as (refused which place stream)) in
          let f : after ≡ bytes_of ns ++ drop 200 block = e ∙ rw (le-leb 200 (length block) long) refl in
          let z : kind_told after ≡ 0 = rw f (number_in ns (drop 200 block) 3 (omega arith) (omega arith)) in
          absurd (omega arith)

  -- the fifteen numbers of a success
  fifteen_read : (y : L.Answer) → o ≡ ok y → 200 ≤ length block → Fifteen (fifteen y.found) → fifteen_told after ≡ fifteen y.found
  unfolding block_put numbers_from
  fifteen_read y e long small =
      let ns = fifteen y.found in
      let head : List ℕ = 0 ∷ 0 ∷ 0 ∷ y.kind ∷ y.ends ∷ y.ends2 ∷ y.found.entries ∷ y.found.payload ∷ [] in
      let last : List ℕ = 0 ∷ 0 ∷ [] in
      let all : numbers_of (answer_as (ok y)) ≡ head ++ (ns ++ last) = ap (λ (l : List ℕ). head ++ l) (sym (append_assoc y.found.numbers y.found.counts last)) in
      let b : after ≡ bytes_of head ++ (bytes_of ns ++ (bytes_of last ++ drop 200 block)) =
      p' ∙ rw (
        e,
        le-leb 200 (length block) long,
        all,
        bytes_join head (ns ++ last),
        bytes_join ns last,
        append_assoc (bytes_of head) (bytes_of ns ++ bytes_of last) (drop 200 block),
        append_assoc (bytes_of ns) (bytes_of last) (drop 200 block),
      ) refl in
      let d : drop 64 after ≡ bytes_of ns ++ (bytes_of last ++ drop 200 block) = ap (drop 64) b ∙ drop_at (bytes_of head) _ 64 (bytes_length head) in
      let f = numbers_from_lem ns 0 64 after (bytes_of last ++ drop 200 block) d small.1 in
      let l : length ns + 0 ≡ 15 = let z = small.0 in omega arith in
      sym (ap (λ (n : ℕ). numbers_from n 64 after) l) ∙ f ∙ append-nil ns

module _ (call : Context) (s es ps block after es' ps' : List ℕ) (r : ℕ) where
  abbrev judged : Result L.Answer
  judged = read_op_args call s (length es / 16) (length ps)

  read_tells : (p : r ≡ number_of block (answer_as judged)) (p' : after ≡ block_after block (answer_as judged))
      → es' ≡ lent_after (guarded block judged) (bytes_of (entries_of (call_pieces call s))) es → ps' ≡ lent_after (guarded block judged) (payload_of s (call_pieces call s)) ps
      → (y : L.Answer) → judged ≡ ok y → 200 ≤ length block → Fifteen (fifteen y.found) → Lendable s → Lendable es → Lendable ps
      → ReadTells call s y r after es' ps'
  unfolding read_op_args
  read_tells p p' q q' y e long small hs he hp =
      let t = arguments_tree call in
      let k = arguments_kinds call in
      let c = counted call.spoken k (length es / 16) (length ps) s t y e in
      let m = totalled call.spoken k (length es / 16) (length ps) s t y e in
      let f = roomy call.spoken k (length es / 16) (length ps) s t y e in
      let w = read_within call s (length es / 16) (length ps) y [] e in
      let i = read_kind_low call s (length es / 16) (length ps) y e in
      let g = q ∙ ap (λ (o : Result L.Answer). lent_after o (bytes_of (entries_of (call_pieces call s))) es) (guarded_long block judged long ∙ e) in
      let h = q' ∙ ap (λ (o : Result L.Answer). lent_after o (payload_of s (call_pieces call s)) ps) (guarded_long block judged long ∙ e) in
      let x = entries_in_lem (entries_of (call_pieces call s)) (drop (length (bytes_of (entries_of (call_pieces call s)))) es) y.found.entries c
      (λ j. omega (arith, read_entries call s (length es / 16) (length ps) y [] j)) in
      let n = called_at block after r judged p p' y e long 7 (omega arith) (omega arith) in
      record {
        zero = called_zero block after r judged p p' y e long;
        kind = called_at block after r judged p p' y e long 3 (omega arith) (omega arith);
        ends = called_at block after r judged p p' y e long 4 (omega arith) (omega arith);
        entries = called_at block after r judged p p' y e long 6 (omega arith) (omega arith);
        numbers = fifteen_read block after r judged p p' y e long small;
        spare = x.0;
        views = ap entries_in g ∙ x.1;
        payload = ap (λ (j : ℕ). take j ps') n ∙ reported_is y.found.payload (payload_of s (call_pieces call s)) _ ps' h m;
      }

-- ---- a call of `lintelow_write_op_args`, and one of `lintelow_read_op_args`, of the same operation at the same version in the same mode. Sixteen bytes make an entry
module _ (κs : Lfts 6) (a : Dens κs write-op-args-kinds.ps) (w : ℕ) (x : AtExit (ended_of 6 write-op-args-kinds.ps write-op-args-kinds.r) κs) (p : write-op-args.Post κs a w x)
    (κs' : Lfts 4) (a' : Dens κs' read-op-args-kinds.ps) (r : ℕ) (x' : AtExit (ended_of 4 read-op-args-kinds.ps read-op-args-kinds.r) κs') (q : read-op-args.Post κs' a' r x') where
  abbrev asked : Context
  asked = context (mode_of a.0) a.1.0 a.1.1.0 a.1.1.1.0

  -- the fifteen numbers of the record
  abbrev numbers_given : List ℕ
  numbers_given = numbers_from 15 0 a.1.1.1.1.0.now

  abbrev bytes_given : List ℕ
  bytes_given = a.1.1.1.1.1.0.now

  abbrev entries_given : List ℕ
  entries_given = a.1.1.1.1.1.1.0.now

  abbrev payload_given : List ℕ
  payload_given = a.1.1.1.1.1.1.1.0.now

  abbrev lent : List ℕ
  lent = a.1.1.1.1.1.1.1.1.0.now

  abbrev output : List ℕ
  output = x.1.1.1.1.1.1.1.1.0.now

  -- the writer's block, lent and afterwards
  abbrev report : List ℕ
  report = a.1.1.1.1.1.1.1.1.1.0.now

  abbrev reported : List ℕ
  reported = x.1.1.1.1.1.1.1.1.1.0.now

  -- the reader's
  abbrev asked_read : Context
  asked_read = context (mode_of a'.0) a'.1.0 a'.1.1.0 a'.1.1.1.0

  abbrev stream : List ℕ
  stream = a'.1.1.1.1.0.now

  -- the rooms that are lent for entries and payload, and what they hold afterwards
  abbrev slots : List ℕ
  slots = a'.1.1.1.1.1.0.now

  abbrev room : List ℕ
  room = a'.1.1.1.1.1.1.0.now

  abbrev entries_read : List ℕ
  entries_read = x'.1.1.1.1.1.0.now

  abbrev payload_read : List ℕ
  payload_read = x'.1.1.1.1.1.1.0.now

  -- the reader's block, lent and afterwards
  abbrev block : List ℕ
  block = a'.1.1.1.1.1.1.1.0.now

  abbrev answer : List ℕ
  answer = x'.1.1.1.1.1.1.1.0.now

  -- the part of the reader's block that has the fifteen numbers serves as the record
  pub part_of_block : a.1.1.1.1.0.now ≡ take 120 (drop 64 answer) → numbers_given ≡ fifteen_told answer
  part_of_block e = ap (numbers_from 15 0) e ∙ from_part 15 0 64 120 answer (omega arith)

  -- what the writer answers, and its output
  abbrev wrote : Result ℕ
  wrote = write_op_args asked numbers_given bytes_given (entries_in entries_given) payload_given lent

  abbrev written : List ℕ
  written = bytes_or (call_bytes asked numbers_given bytes_given (entries_in entries_given) payload_given)

  by_writer : WrittenBy report reported lent output written w wrote
  by_writer = (p.0, (p.1.0, p.1.1.0))

  module _ (agree : asked_read ≡ asked) where
    tells : (y : L.Answer) → read_op_args asked stream (length slots / 16) (length room) ≡ ok y → 200 ≤ length block → Fifteen (fifteen y.found)
        → Lendable stream → Lendable slots → Lendable room → ReadTells asked stream y r answer entries_read payload_read
    tells =
        read_tells asked stream slots room block answer entries_read payload_read r (rw agree at q.0) (rw agree at q.1.0)
        (rw agree at q.1.1.0) (rw agree at q.1.1.1)

    -- a call written by us reads back the same:
    -- it was written, and the stream begins with it; with a slot for each string, room for the payload and a block, it reads as a call with a kind, to its end,
    -- and has the numbers, the strings and the payload that were written
    pub call_read_back : w ≡ 0 → FewAndShort asked numbers_given bytes_given (entries_in entries_given) (length slots / 16) → length payload_given ≤ length room
        → Has stream 0 (end_told reported) output → 200 ≤ length block → Lendable stream → Lendable slots → Lendable room
        → (r ≡ 0) × (0 < kind_told answer) × (end_told answer ≡ end_told reported)
        × SameCall asked numbers_given bytes_given (entries_in entries_given) payload_given (fifteen_told answer) stream (entries_in entries_read) (entries_told answer)
        (take (payload_told answer) payload_read)
    call_read_back done few fits has long hs he hp =
        let es = entries_in entries_given in
        let t = write_told report reported lent output written w wrote by_writer (call_numbered bytes_given es asked numbers_given payload_given lent) done in
        let n = t.1 in
        let size = p.1.1.1.0 in
        let d = write_done report reported lent output written w wrote by_writer n t.2 t.0
        (omega (arith, call_room asked numbers_given bytes_given es payload_given lent n t.2)) in
        let f = write_out report reported lent output written w wrote by_writer t.0 in
        let small : Fifteen numbers_given = (from_length 15 0 a.1.1.1.1.0.now, from_small 15 0 a.1.1.1.1.0.now p.1.1.1.1.0) in
        let y = call_trip asked numbers_given bytes_given es payload_given lent output stream (length slots / 16) (length room) n t.2 f (rw d.1 at has) small few fits in
        let b = y.back in
        let z = tells b.answer b.reads long (subst Fifteen (sym b.same) small) hs he hp in (
          z.zero,
          rw z.kind b.kind,
          z.ends ∙ b.stops ∙ sym d.1,
          rw (z.numbers, z.entries)
              (same_call asked numbers_given bytes_given es payload_given stream (length slots / 16) (length room) n y (entries_in entries_read) _ z.spare z.views z.payload),
        )

    -- a call that reads, written again, gives the same bytes:
    -- it was read as a call with a kind, and is as we write calls; its own numbers, stream, entries and payload are written with room and a block, and the
    -- output begins with the call's own bytes
    pub call_written_again : r ≡ 0 → 0 < kind_told answer → Held stream → Lendable slots → Lendable room → Ours stream (call_pieces asked stream)
        → numbers_given ≡ fifteen_told answer → bytes_given ≡ stream → entries_given ≡ entries_read → payload_given ≡ take (payload_told answer) payload_read
        → end_told answer ≤ length lent → 200 ≤ length report
        → OutputReported w reported output stream 0 (end_told answer)
    call_written_again done kind held he hp ours same bytes entries payload fits long =
        let o = read_op_args asked stream (length slots / 16) (length room) in
        let q0 : r ≡ number_of block (answer_as o) = rw agree at q.0 in
        let q1 : answer ≡ block_after block (answer_as o) = rw agree at q.1.0 in
        let h = block_long block answer r o q0 q1 done in
        let t = kind_read block answer r o q0 q1 h kind in
        let y = t.0 in
        let size = held.1 in
        let z = tells y t.1 h (read_fifteen asked stream (length slots / 16) (length room) y [] held.0 t.1) (omega arith) he hp in
        let f = write_out report reported lent output written w wrote by_writer long in
        let u = call_again asked stream (length slots / 16) (length room) y held.0 t.1 (rw z.kind at kind) ours numbers_given bytes_given (entries_in entries_given) payload_given lent output
        z.spare (same ∙ z.numbers) bytes (ap entries_in entries ∙ z.views) (payload ∙ z.payload) (rw z.ends at fits) f in
        let d = write_done report reported lent output written w wrote by_writer y.ends u.0 long
        (omega (arith, read_within asked stream (length slots / 16) (length room) y [] t.1)) in
        (d.0, d.1 ∙ sym z.ends, rw z.ends u.1)
