-- 0 is success: no refusal has that number, of a writer, a reader or a skipper. And a string that is passed lies in its stream.
use Prim.Native.Nat.{ℕ, zero, suc, ◌+◌, ◌-◌, ◌≤◌, ◌<◌}
use mathlib.Core.Path.{◌≡◌}
use mathlib.Core.List.{List, [], ◌∷◌}
use mathlib.Core.Bool.{Bool, true, false, ◌&&◌}
use lib.ListN.{length, take, drop}
use lib.Dec.{leb, ltb, eqb}
use native.Mathlib.Omega.{arith}
use Rattle.text.specs.Prefix.{is_text}
use Rattle.layouts.specs.declared.Mode.TheVariants.{Ported}
use Rattle.layouts.specs.declared.Record.{Record}
use Rattle.layouts.specs.Primitive.{pick, number_at, pad_of, cut_short, bad_text, no_entry_room, no_payload_room, output_full, no_such_entry, bad_entry, no_arguments, not_of_shape, Version, version, Result, ok, refused, onward}
use Rattle.layouts.specs.Shape.{Target, What, Role, str, framed, Gated, always, once, Tree, ask, say, frames, fail, stop, layout}
use Rattle.layouts.specs.Pieces as P
use Rattle.layouts.specs.Pieces.{Pieces, number, text, half, chunk, end, fault, run, after_num, after_text, after_chunk, chunks, skip_of}
use Rattle.layouts.specs.Record.{blank, noted, is_kept, entered, with_payload}
use Rattle.layouts.specs.Judge.{not_text, text_end, text_taken, half_taken, chunk_taken, judge_of}
use Rattle.layouts.specs.Operations.{Kinds, kind_of, Operation, Row, row, unknown, find}
use Rattle.layouts.specs.Calls.{Context, chosen, by_row, arguments_tree, skipped_tree, reply_tree, arguments_kinds, skipped_kinds, reply_kinds, answered, read_of, read_op_args, read_daemon_result, skip_daemon_result, skip_op_args, field, read_field, read_u32, skip_framed}
use Rattle.layouts.specs.Writers.{slots_of, entry_start, entry_length, view_of, string_bytes, set_bytes, writing, write_string, text_at, texts_from, texts_of, write_string_set}
use Rattle.layouts.specs.CallWriter.{fields_there, fields_by, call_fields, value_for, target_in, is_of_shape, strings_in, entries_for, fields_bytes, strings_of, shape_bytes, call_bytes, write_op_args}
use Rattle.layouts.proofs.Placed.{never_both, FailsAt, Fails, FailsBy15}
use Rattle.layouts.proofs.Trees.{layout_fails_by_15}
use Rattle.layouts.proofs.Views.{NumView, is_value, is_short, TextView, no_length, too_long_there, no_contents, no_padding, is_whole, ChunkView, no_size, is_last, too_large, no_bytes, is_part, num_view, text_view, chunk_view}

-- if it is a refusal, its number is not 0
abbrev pub Numbered : {A : Type 0} → Result A → Type 0
Numbered (ok a) = Unit {0}
Numbered (refused which place stream) = 0 < which

pub onward_numbered : {A B : Type 0} (o : Result A) (k : A → Result B) → Numbered o → ((a : A) → Numbered (k a)) → Numbered (onward o k)
onward_numbered (ok a) k h g = g a
onward_numbered (refused which place stream) k h g = h

pick_numbered : {A : Type 0} (b : Bool) (o u : Result A) → Numbered o → Numbered u → Numbered (pick b o u)
pick_numbered true o u h g = h
pick_numbered false o u h g = g

-- the writers
pub writing_numbered : (b lent : List ℕ) → Numbered (writing b lent)
unfolding writing
writing_numbered b lent = pick_numbered (leb (length b) (length lent)) (ok (length b)) (refused output_full 0 0) tt (omega arith)

pub string_numbered : (c lent : List ℕ) → Numbered (write_string c lent)
unfolding write_string
string_numbered c lent = pick_numbered (is_text c) (writing (string_bytes c) lent) (refused bad_text 0 0) (writing_numbered (string_bytes c) lent) (omega arith)

module _ (bytes es : List ℕ) where
  view_numbered : (i : ℕ) → Numbered (view_of bytes es i)
  unfolding view_of
  view_numbered i =
      let start = entry_start es i in
      let len = entry_length es i in
      let part = pick (leb (start + len) (length bytes)) (ok (take len (drop start bytes))) (refused bad_entry i 0) in
      pick_numbered (ltb i (slots_of es)) part (refused no_such_entry i 0)
      (pick_numbered (leb (start + len) (length bytes)) (ok (take len (drop start bytes))) (refused bad_entry i 0) tt (omega arith)) (omega arith)

  text_numbered : (i : ℕ) → Numbered (text_at bytes es i)
  unfolding text_at
  text_numbered i =
      onward_numbered (view_of bytes es i) (λ c. pick (is_text c) (ok c) (refused bad_text i 0)) (view_numbered i)
      (λ c. pick_numbered (is_text c) (ok c) (refused bad_text i 0) tt (omega arith))

  texts_numbered : (n i : ℕ) → Numbered (texts_from bytes es n i)
  unfolding texts_from
  texts_numbered zero i = tt
  texts_numbered (suc n) i =
      onward_numbered (text_at bytes es i) (λ c. onward (texts_from bytes es n (i + 1)) (λ cs. ok (c ∷ cs))) (text_numbered i)
      (λ c. onward_numbered (texts_from bytes es n (i + 1)) (λ cs. ok (c ∷ cs)) (texts_numbered n (i + 1)) (λ cs. tt))

  pub set_numbered : (count : ℕ) (lent : List ℕ) → Numbered (write_string_set bytes es count lent)
  unfolding write_string_set texts_of
  set_numbered count lent =
      onward_numbered (texts_of bytes es count) (λ cs. writing (set_bytes cs) lent)
      (pick_numbered (leb count (slots_of es)) (texts_from bytes es count 0) (refused no_such_entry count 0) (texts_numbered count 0) (omega arith))
      (λ cs. writing_numbered (set_bytes cs) lent)

  -- a call
  entries_numbered : (ns : List ℕ) (slots n : ℕ) (ws : List What) → Numbered (entries_for ns slots n ws)
  unfolding entries_for
  entries_numbered ns slots n [] = tt
  entries_numbered ns slots n (w ∷ ws) =
      pick_numbered (leb (n + strings_in ns w) slots) (entries_for ns slots (n + strings_in ns w) ws) (refused no_such_entry (value_for ns (target_in w)) 0)
      (entries_numbered ns slots (n + strings_in ns w) ws) (omega arith)

  shape_numbered : (ns p : List ℕ) (ws : List What) → Numbered (shape_bytes ns bytes es p ws)
  shape_numbered ns p ws =
      pick_numbered (is_of_shape ns p ws) (onward (strings_of ns bytes es ws) (λ cs. ok (fields_bytes ns p cs ws))) (refused not_of_shape 0 0)
      (onward_numbered (strings_of ns bytes es ws) (λ cs. ok (fields_bytes ns p cs ws))
      (onward_numbered (entries_for ns (slots_of es) 0 ws) (λ n. texts_from bytes es n 0) (entries_numbered ns (slots_of es) 0 ws) (λ n. texts_numbered n 0)) (λ cs. tt)) (omega arith)

  pub call_numbered : (c : Context) (ns p lent : List ℕ) → Numbered (write_op_args c ns bytes es p lent)
  unfolding write_op_args call_bytes call_fields
  call_numbered c ns p lent =
      onward_numbered (call_bytes c ns bytes es p) (λ out. writing out lent)
      (onward_numbered (call_fields c) (λ ws. shape_bytes ns bytes es p ws) (by (chosen c)) (shape_numbered ns p)) (λ out. writing_numbered out lent)
    where
      by : (f : Row) → Numbered (fields_by f c)
      by (row o) =
          pick_numbered (eqb (kind_of c.spoken false (arguments_kinds c)) 0) (refused no_arguments 0 0) (ok (fields_there c.spoken o.arguments)) (omega arith) tt
      by unknown = omega arith

-- the readers
module _ (s : List ℕ) where
  pub judge_numbered : (slots room : ℕ) (r : Record) (p : Pieces) → Numbered (skip_of p) → Numbered (judge_of s slots room r p)
  unfolding judge_of skip_of text_taken half_taken chunk_taken
  judge_numbered slots room r (number i place n p) h = judge_numbered slots room (noted r i n) p h
  judge_numbered slots room r (text m start len p) h =
      onward_numbered (text_taken s slots r m start len) (λ r'. judge_of s slots room r' p)
      (pick_numbered (not_text s m start len) (refused bad_text (text_end s start len) 0) (pick (is_kept m && leb slots r.entries) (refused no_entry_room (start - 8) 0) (ok (entered r m))) (omega arith)
      (pick_numbered (is_kept m && leb slots r.entries) (refused no_entry_room (start - 8) 0) (ok (entered r m)) (omega arith) tt))
      (λ r'. judge_numbered slots room r' p h)
  judge_numbered slots room r (half m start len) h = pick_numbered (not_text s m start len) (refused bad_text (text_end s start len) 0) (refused cut_short (start + len) 0) (omega arith) (omega arith)
  judge_numbered slots room r (chunk start len p) h =
      onward_numbered (chunk_taken room r start len) (λ r'. judge_of s slots room r' p)
      (pick_numbered (leb (r.payload + len) room) (ok (with_payload r (r.payload + len))) (refused no_payload_room (start - 8) 0) tt (omega arith))
      (λ r'. judge_numbered slots room r' p h)
  judge_numbered slots room r (end place) h = tt
  judge_numbered slots room r (fault which place) h = h

  -- of a tree that fails of itself by 15 alone
  say_numbered : (m : Role) (at : ℕ) (k : ℕ → Pieces) {t : P.Text} → TextView (length s) (number_at s at) at t → ((a : ℕ) → Numbered (skip_of (k a))) → Numbered (skip_of (after_text t m k))
  unfolding after_text skip_of
  say_numbered m at k (no_length h) g = omega arith
  say_numbered m at k (too_long_there h l) g = omega arith
  say_numbered m at k (no_contents h l c) g = omega arith
  say_numbered m at k (no_padding h l c) g = omega arith
  say_numbered m at k (is_whole h l) g = g (at + 8 + number_at s at + pad_of (number_at s at))

  ask_numbered : (i : Target) (at : ℕ) (k : ℕ → Pieces) {t : P.Num} → NumView (length s) (number_at s at) at t → ((n : ℕ) → Numbered (skip_of (k n))) → Numbered (skip_of (after_num t i at k))
  unfolding after_num skip_of
  ask_numbered i at k (is_value h) g = g (number_at s at)
  ask_numbered i at k (is_short h) g = omega arith

  chunk_numbered : (at : ℕ) (again k : ℕ → Pieces) {t : P.Chunk} → ChunkView (length s) (number_at s at) at t → ((a : ℕ) → Numbered (skip_of (again a)))
      → ((a : ℕ) → Numbered (skip_of (k a))) → Numbered (skip_of (after_chunk t again k))
  unfolding after_chunk skip_of
  chunk_numbered at again k (no_size h) f g = omega arith
  chunk_numbered at again k (is_last h z) f g = g (at + 8)
  chunk_numbered at again k (too_large h l) f g = omega arith
  chunk_numbered at again k (no_bytes h z l c) f g = omega arith
  chunk_numbered at again k (is_part h z l) f g = f (at + 8 + number_at s at)

  chunks_numbered : (f at : ℕ) (k : ℕ → Pieces) → ((a : ℕ) → Numbered (skip_of (k a))) → Numbered (skip_of (chunks f s at k))
  unfolding chunks skip_of
  chunks_numbered zero at k g = omega arith
  chunks_numbered (suc f) at k g = chunk_numbered at (λ a. chunks f s a k) k (chunk_view (length s) (number_at s at) at) (λ a. chunks_numbered f a k g) g

  fails_numbered : (asked : Bool) (which back : ℕ) → FailsAt asked which back → 0 < which
  fails_numbered true which back f = omega (arith, f)
  fails_numbered false which back f = absurd f

  tree_numbered : (asked : Bool) (t : Tree) (at : ℕ) → Fails asked t → Numbered (skip_of (run t s at))
  unfolding run skip_of
  tree_numbered c (ask i k) at f = ask_numbered i at (λ n. run (k n) s (at + 8)) (num_view (length s) (number_at s at) at) (λ n. tree_numbered true (k n) (at + 8) (f n))
  tree_numbered c (say m k) at f = say_numbered m at (λ a. run (k tt) s a) (text_view (length s) (number_at s at) at) (λ a. tree_numbered false (k tt) a f)
  tree_numbered c (frames k) at f = chunks_numbered (suc (length s)) at (λ a. run (k tt) s a) (λ a. tree_numbered false (k tt) a f)
  tree_numbered c (fail which back) at f = fails_numbered c which back f
  tree_numbered c stop at f = tt

  pub run_numbered : (t : Tree) (at : ℕ) → FailsBy15 t → Numbered (skip_of (run t s at))
  run_numbered t at f = tree_numbered false t at f

  -- of a layout by operation
  row_numbered : (f : Row) (k : Operation → Tree) → ((o : Operation) → FailsBy15 (k o)) → Numbered (skip_of (run (by_row f k) s 0))
  unfolding run skip_of
  row_numbered (row o) k f = run_numbered (k o) 0 (f o)
  row_numbered unknown k f = omega arith

  read_of_lem : (v : Version) (k : Kinds) (slots room : ℕ) (t : Tree) → Numbered (skip_of (run t s 0)) → Numbered (read_of v k slots room s t)
  read_of_lem v k slots room t h = onward_numbered (judge_of s slots room blank (run t s 0)) (λ e. answered v k (ok e)) (judge_numbered slots room blank (run t s 0) h) (λ e. tt)

  module _ (op : ℕ) (v : Version) where
    pub skip_reply_numbered : Numbered (skip_daemon_result op v s)
    unfolding skip_daemon_result reply_tree
    skip_reply_numbered = row_numbered (find Ported op) (λ o. layout v o.reply) (λ o. layout_fails_by_15 v o.reply)

    pub read_reply_numbered : (slots room : ℕ) → Numbered (read_daemon_result op v s slots room)
    unfolding read_daemon_result skip_daemon_result
    read_reply_numbered slots room = read_of_lem v (reply_kinds op) slots room (reply_tree op v) skip_reply_numbered

  module _ (c : Context) where
    of_fields : (fields : Operation → List Gated) → Numbered (skip_of (run (by_row (chosen c) (λ o. layout c.spoken (once (fields o) ∷ []))) s 0))
    of_fields fields = row_numbered (chosen c) (λ o. layout c.spoken (once (fields o) ∷ [])) (λ o. layout_fails_by_15 c.spoken (once (fields o) ∷ []))

    pub read_arguments_numbered : (slots room : ℕ) → Numbered (read_op_args c s slots room)
    unfolding read_op_args arguments_tree
    read_arguments_numbered slots room = read_of_lem c.spoken (arguments_kinds c) slots room (arguments_tree c) (of_fields (λ o. o.arguments))

    pub skip_arguments_numbered : Numbered (skip_op_args c s)
    unfolding skip_op_args skipped_tree
    skip_arguments_numbered = read_of_lem c.spoken (skipped_kinds c) 1 0 (skipped_tree c) (of_fields (λ o. o.skips))

  -- of one field
  module _ (at : ℕ) where
    pub skip_field_numbered : (w : What) → Numbered (skip_of (run (field w) s at))
    skip_field_numbered w = run_numbered (field w) at (layout_fails_by_15 (version 0 0) (once (always w ∷ []) ∷ []))

    pub read_field_numbered : (w : What) (slots room : ℕ) → Numbered (read_field w s at slots room)
    read_field_numbered w slots room = judge_numbered slots room blank (run (field w) s at) (skip_field_numbered w)

    pub skip_framed_numbered : Numbered (skip_framed s at)
    skip_framed_numbered = onward_numbered (skip_of (run (field framed) s at)) _ (skip_field_numbered framed) (λ e. tt)

    pub read_u32_numbered : Numbered (read_u32 s at)
    read_u32_numbered = pick_numbered (leb (at + 4) (length s)) (ok _) (refused cut_short at 0) tt (omega arith)

  -- a string that is passed lies in the stream
  pub string_within : (m : Role) (at e : ℕ) → skip_of (run (field (str m)) s at) ≡ ok e → (at + 8 + number_at s at ≤ e) × (e ≤ length s)
  unfolding layout run after_text skip_of
  string_within m at e q = by (text_view (length s) (number_at s at) at) q
    where
      by : {t : P.Text} → TextView (length s) (number_at s at) at t → skip_of (after_text t m (λ a. end a)) ≡ ok e → (at + 8 + number_at s at ≤ e) × (e ≤ length s)
      by (no_length h) q = absurd (never_both q)
      by (too_long_there h l) q = absurd (never_both q)
      by (no_contents h l c) q = absurd (never_both q)
      by (no_padding h l c) q = absurd (never_both q)
      by (is_whole h l) q = let z : at + 8 + number_at s at + pad_of (number_at s at) ≡ e = cc in (omega arith, omega arith)
