-- Read, then written: a call that reads with a kind and is as the writer of calls sends it, written again from its own numbers, entries and stream, gives its
-- own bytes. Of the table only two facts are needed, and they are computed.
use Prim.Native.Nat.{ℕ, ◌≤◌, ◌<◌}
use mathlib.Core.Path.{◌≡◌, refl, sym, ◌∙◌, ap, subst}
use mathlib.Core.List.{List, [], ◌∷◌, ◌++◌, map}
use mathlib.Core.Bool.{Bool, true, false, ◌&&◌}
use lib.ListN.{length, get_or, take}
use lib.Seq.{length-take-le}
use lib.Dec.{eqb}
use borrow.Author.Tests.{ne_eqb}
use native.Mathlib.Omega.{arith}
use Rattle.layouts.specs.declared.Mode.{Mode}
use Rattle.layouts.specs.declared.Mode.TheVariants.{Ported, Published}
use Rattle.layouts.specs.Primitive.{Version, Result, ok, onward}
use Rattle.layouts.specs.Shape.{What, once, Tree, stop, group, groups, layout}
use Rattle.layouts.specs.Pieces.{run}
use Rattle.layouts.specs.Record.{blank}
use Rattle.layouts.specs.Judge.{Ended, judge_of, entries_of, payload_of}
use Rattle.layouts.specs.Operations.{arguments_number, Choice, none, only, by_version, by_flag, by_number, kind_of, Operation, operations, published, rows_in, Row, row, unknown, find}
use Rattle.layouts.specs.Calls.{Context, chosen, by_row, arguments_tree, arguments_kinds, Answer, answered, read_of, read_op_args}
use Rattle.layouts.specs.Demands.{Bytes}
use Rattle.layouts.specs.CallWriter.{fields_there, fields_by, call_fields, shape_bytes, call_bytes, write_op_args}
use Rattle.layouts.proofs.Exact.{sound}
use Rattle.layouts.proofs.Placed.{never_both, run_placed, ends}
use Rattle.layouts.proofs.Judge.{judge_read}
use Rattle.layouts.proofs.Theorems.{never_true}
use Rattle.layouts.proofs.Calls.{answer_of_lem}
use Rattle.layouts.proofs.Arguments.{found}
use Rattle.layouts.proofs.Writers.{writing_fits}
use Rattle.layouts_calls.specs.CallTrips.{Fifteen, call_pieces}
use Rattle.layouts_calls.specs.CallOurs.{Ours}
use Rattle.layouts_calls.proofs.Writable.{and_true, row_writable}
use Rattle.layouts_calls.proofs.CallFields.{fields_there_lem}
use Rattle.layouts_calls.proofs.CallNumbers.{numbers_of, numbers_length, numbers_small, all_of, record_all}
use Rattle.layouts_calls.proofs.CallAgain.{tree_of, entries_within, none_zero, fields_written}

-- ---- the table: computed of all operations in both modes, no kind of arguments asks for a flag
abbrev flagless : {K : Type 0} → Choice K → Bool
flagless none = true
flagless (only k) = true
flagless (by_version x k l) = flagless k && flagless l
flagless (by_flag k l) = false

all_flagless : (m : Mode) → map (λ (o : Operation). flagless o.arguments_kind) (rows_in m) ≡ map (λ (o : Operation). true) (rows_in m)
unfolding operations published
all_flagless Ported = refl
all_flagless Published = refl

kind_same : {K : Type 0} (f : K → ℕ) (v : Version) (b : Bool) (k : Choice K) → flagless k ≡ true → kind_of v b (by_number f k) ≡ kind_of v false (by_number f k)
unfolding kind_of
kind_same f v b none e = refl
kind_same f v b (only k) e = refl
kind_same f v b (by_version x k l) e = let a = and_true (flagless k) (flagless l) e in rw (kind_same f v b k a.0, kind_same f v b l a.1)
kind_same f v b (by_flag k l) e = absurd (never_true e)

-- ---- the call
module _ (c : Context) (s : List ℕ) (slots room : ℕ) (a : Answer) (spare : List ℕ) where
  abbrev v : Version
  v = c.spoken

  -- the fields of a row, written again from the pieces of a tree
  abbrev FieldsAgain : Tree → Result (List What) → Type 0
  FieldsAgain t ws =
      onward ws (λ x. shape_bytes (a.found.numbers ++ a.found.counts) s (entries_of (run t s 0) ++ spare) (payload_of s (run t s 0)) x) ≡ ok (take a.ends s)

  -- 13 does not hold, where the call reads with a kind
  has_kind : (o : Operation) (x : Ended) → chosen c ≡ row o → answered v (arguments_kinds c) (ok x) ≡ ok a → 0 < a.kind
      → eqb (kind_of v false (arguments_kinds c)) 0 ≡ false
  unfolding find
  has_kind o x e q k =
      let b = x.found.present in
      let is : kind_of v b (arguments_kinds c) ≡ a.kind = cc in
      let f = (found _ _ (rows_in c.mode) c.op o (all_flagless c.mode) e).0 in
      let same : kind_of v b (arguments_kinds c) ≡ kind_of v false (arguments_kinds c) = rw e (kind_same arguments_number v b o.arguments_kind f) in
      ne_eqb (kind_of v false (arguments_kinds c)) 0 (λ z. omega arith)

  row_again : (o : Operation) (x : Ended) → Bytes s → chosen c ≡ row o → answered v (arguments_kinds c) (ok x) ≡ ok a → (t : Tree) → tree_of (fields_there v o.arguments) ≡ t
      → judge_of s slots room blank (run t s 0) ≡ ok x → Ours s (run t s 0) → FieldsAgain t (ok (fields_there v o.arguments))
  row_again o x bytes e q t same =
      let there : x.found ≡ a.found = cc in
      let ends : x.ends ≡ a.ends = cc in
      subst (λ (u : Tree). judge_of s slots room blank (run u s 0) ≡ ok x → Ours s (run u s 0) → FieldsAgain u (ok (fields_there v o.arguments))) same
      (λ j ours. rw (← there, ← ends) (fields_written s bytes (fields_there v o.arguments) (row_writable c o e) slots room x spare j ours))

  by_row_lem : (f : Row) → chosen c ≡ f → Bytes s → read_of v (arguments_kinds c) slots room s (by_row f (λ o. layout v (once o.arguments ∷ []))) ≡ ok a → 0 < a.kind
      → Ours s (run (by_row f (λ o. layout v (once o.arguments ∷ []))) s 0) → FieldsAgain (by_row f (λ o. layout v (once o.arguments ∷ []))) (fields_by f c)
  unfolding layout groups group run judge_of
  by_row_lem (row o) e bytes q k ours =
      let t = layout v (once o.arguments ∷ []) in
      let y = answer_of_lem v (arguments_kinds c) (judge_of s slots room blank (run t s 0)) a q in
      rw (has_kind o y.0 e y.2 k) (row_again o y.0 bytes e y.2 t (sym (fields_there_lem v o.arguments (λ u. stop))) y.1 ours)
  by_row_lem unknown e bytes q k ours = absurd (never_both q)

  -- whatever follows the entries
  pub read_written : Bytes s → read_op_args c s slots room ≡ ok a → 0 < a.kind → Ours s (call_pieces c s)
      → call_bytes c (a.found.numbers ++ a.found.counts) s (entries_of (call_pieces c s) ++ spare) (payload_of s (call_pieces c s))
      ≡ ok (take a.ends s)
  unfolding read_op_args arguments_tree call_bytes call_fields
  read_written bytes q k ours = by_row_lem (chosen c) refl bytes q k ours

  -- ---- and where the output has room for it, it is written
  pub read_within : read_op_args c s slots room ≡ ok a → a.ends ≤ length s
  unfolding read_op_args
  read_within q =
      let t = arguments_tree c in
      let y = answer_of_lem v (arguments_kinds c) (judge_of s slots room blank (run t s 0)) a q in
      let z : y.0.ends ≡ a.ends = cc in
      omega (arith, (ends y.0.ends (run_placed t s 0 (omega arith)) (judge_read s slots room blank (run t s 0) y.0 y.1).skips).1)

  pub read_written_fits : Bytes s → read_op_args c s slots room ≡ ok a → 0 < a.kind → Ours s (call_pieces c s) → (lent : List ℕ) → a.ends ≤ length lent
      → write_op_args c (a.found.numbers ++ a.found.counts) s (entries_of (call_pieces c s) ++ spare) (payload_of s (call_pieces c s)) lent ≡ ok a.ends
  unfolding write_op_args
  read_written_fits bytes q k ours lent h =
      let l : length (take a.ends s) ≡ a.ends = length-take-le a.ends s (read_within q) in
      rw (read_written bytes q k ours) (writing_fits (take a.ends s) lent (omega arith) ∙ ap ok l)

  -- what is handed over: fifteen numbers of eight bytes, and entries that lie in the stream
  pub read_fifteen : Bytes s → read_op_args c s slots room ≡ ok a → Fifteen (a.found.numbers ++ a.found.counts)
  unfolding read_op_args
  read_fifteen bytes q =
      let t = arguments_tree c in
      let y = answer_of_lem v (arguments_kinds c) (judge_of s slots room blank (run t s 0)) a q in
      let there : y.0.found ≡ a.found = cc in
      let r = judge_read s slots room blank (run t s 0) y.0 y.1 in
      let m : a.found.numbers ++ a.found.counts ≡ numbers_of (all_of blank) (run t s 0) = ap all_of (sym there ∙ r.holds) ∙ record_all blank (run t s 0) refl in
      let says = (sound s bytes t 0 y.0.ends r.skips).says in
      rw m (numbers_length (all_of blank) (run t s 0), λ j. numbers_small says (all_of blank) j (rw (none_zero 15 j) (omega arith)))

  pub read_entries : (i : ℕ) → get_or (entries_of (call_pieces c s)) i 0 ≤ length s
  read_entries i = entries_within s (run_placed (arguments_tree c) s 0 (omega arith)) i
