-- Round trips through the block of the boundary: its numbers are found again, 0 is success, and a string goes there and back as `TripLaws` has it.
use Prim.Native.Nat.{ℕ, zero, suc, ◌+◌, ◌-◌, ◌*◌, ◌/◌, ◌≤◌, ◌<◌}
use mathlib.Core.Path.{◌≡◌, refl, sym, ◌∙◌, ap}
use mathlib.Core.List.{List, [], ◌∷◌, ◌++◌, append_assoc}
use mathlib.Core.Bool.{Bool, true, false}
use lib.ListN.{length, get_or, take, drop, length-append, length-replicate}
use lib.Seq.{drop-append-add}
use lib.Dec.{leb}
use borrow.Author.Tests.{le-leb, leb-true}
use native.Mathlib.Omega.{arith}
use Rattle.layouts.specs.Primitive.{pick, number_at, number_bytes, limit, pad_of, output_full, Result, ok, refused}
use Rattle.layouts.specs.Record.{blank, with_count, with_entries}
use Rattle.layouts.specs.Judge.{Ended, lent_after}
use Rattle.layouts.specs.Calls as L
use Rattle.layouts.specs.Writers.{string_bytes}
use Rattle.layouts.specs.Demands.{Held, Zeros}
use Rattle.layouts.proofs.Little.{length_number, number_drop, number_of_bytes}
use Rattle.layouts.proofs.Exact.{past, head_number}
use Rattle.layouts.proofs.Success.{Numbered, onward_numbered}
use Rattle.layouts.proofs.Writers.{onward_ok}
use Rattle.writers_output.specs.Numbers.{bytes_of}
use Rattle.writers_output.proofs.Numbers.{bytes_length}
use Rattle.entries.specs.Entries.{numbers_from, entries_in}
use Rattle.pieces.specs.Pieces.{Span}
use Rattle.walk_judge.specs.Judged.{answer_as}
use Rattle.lintelow_answers.specs.Answers.{ended, string_read, written}
use Rattle.lintelow_answers.specs.Block.{numbers_of, guarded, number_of, block_after, number_put, block_put}
use Rattle.lintelow.specs.Demands.{in_block, end_told, start_told, length_told, count_told}
use Rattle.lintelow.specs.RoundTrips.{Has, StringReported, OutputReported}
use Rattle.lintelow.proofs.TripLaws.{StringTrip}

-- ---- numbers one after the other, as they are found again
pub number_in : (ns rest : List ℕ) (i : ℕ) → i < length ns → get_or ns i 0 < 18446744073709551616 → number_at (bytes_of ns ++ rest) (8 * i) ≡ get_or ns i 0
unfolding bytes_of
number_in [] rest i h g = absurd (omega arith)
number_in (n ∷ ns) rest zero h g = ap (λ (l : List ℕ). number_at l 0) (append_assoc (number_bytes n) (bytes_of ns) rest) ∙ number_of_bytes n (bytes_of ns ++ rest) g
number_in (n ∷ ns) rest (suc i) h g =
    let b = bytes_of ns ++ rest in
    let k : 8 * suc i ≡ length (number_bytes n) + 8 * i = omega (arith, length_number n) in
    let d : drop (8 * suc i) ((number_bytes n ++ bytes_of ns) ++ rest) ≡ drop (8 * i) b = ap (drop (8 * suc i)) (append_assoc (number_bytes n) (bytes_of ns) rest)
    ∙ ap (λ (j : ℕ). drop j (number_bytes n ++ b)) k ∙ drop-append-add (number_bytes n) b (8 * i) in
    sym (number_drop ((number_bytes n ++ bytes_of ns) ++ rest) (8 * suc i)) ∙ ap (λ (l : List ℕ). number_at l 0) d ∙ number_drop b (8 * i) ∙ number_in ns rest i (omega arith) g

pub numbers_from_lem : (es : List ℕ) (m at : ℕ) (b rest : List ℕ) → drop at b ≡ bytes_of es ++ rest → ((i : ℕ) → get_or es i 0 < 18446744073709551616)
    → numbers_from (length es + m) at b ≡ es ++ numbers_from m (at + 8 * length es) b
unfolding numbers_from bytes_of
numbers_from_lem [] m at b rest d g = let j : 0 + m ≡ m = omega arith in let k : at + 0 ≡ at = omega arith in rw (j, k)
numbers_from_lem (n ∷ es) m at b rest d g =
    let d' : drop at b ≡ number_bytes n ++ (bytes_of es ++ rest) = simp append_assoc at d in
    let v = head_number b at n (bytes_of es ++ rest) d' (g 0) in
    let k : length (n ∷ es) + m ≡ suc (length es + m) = omega arith in
    let j : at + 8 + 8 * length es ≡ at + 8 * suc (length es) = omega arith in
    ap (λ (x : ℕ). numbers_from x at b) k ∙ ap (λ (x : ℕ). x ∷ numbers_from (length es + m) (at + 8) b) (sym v)
    ∙ ap (λ (l : List ℕ). n ∷ l)
    (numbers_from_lem es m (at + 8) b rest (past b at 8 (number_bytes n) (bytes_of es ++ rest) d' (length_number n)) (λ i. g (suc i)) ∙ ap (λ (x : ℕ). es ++ numbers_from m x b) j)

pub entries_in_lem : (es rest : List ℕ) (k : ℕ) → length es ≡ 2 * k → ((i : ℕ) → get_or es i 0 < 18446744073709551616) → (spare : List ℕ) × (entries_in (bytes_of es ++ rest) ≡ es ++ spare)
entries_in_lem es rest k l g =
    let b = bytes_of es ++ rest in
    let m = 2 * (length rest / 16) in
    let c : 2 * (length b / 16) ≡ length es + m = simp (length-append, bytes_length) (omega arith) in
    (numbers_from m (0 + 8 * length es) b, ap (λ (j : ℕ). numbers_from j 0 b) c ∙ numbers_from_lem es m 0 b rest refl g)

-- ---- the block
pub guarded_long : {A : Type 0} (block : List ℕ) (o : Result A) → 200 ≤ length block → guarded block o ≡ o
unfolding guarded
guarded_long block o h = rw (le-leb 200 (length block) h)

-- 0 is returned: the block was long enough, and the call succeeded
called_told : (block : List ℕ) (o : Result L.Answer) → Numbered o → number_of block (answer_as o) ≡ 0 → (200 ≤ length block) × (y : L.Answer) × (o ≡ ok y)
unfolding number_put
called_told block o n q = by (leb 200 (length block)) refl o n q
  where
    by : (b : Bool) → leb 200 (length block) ≡ b → (o : Result L.Answer) → Numbered o → pick b (get_or (numbers_of (answer_as o)) 0 0) output_full ≡ 0
        → (200 ≤ length block) × (y : L.Answer) × (o ≡ ok y)
    by false f o n q = absurd (omega arith)
    by true f (refused which place stream) n q = absurd (omega arith)
    by true f (ok y) n q = (leb-true 200 (length block) f, y, refl)

module _ (block after : List ℕ) (r : ℕ) (o : Result L.Answer) (p : r ≡ number_of block (answer_as o)) (p' : after ≡ block_after block (answer_as o)) (y : L.Answer) (e : o ≡ ok y)
    (long : 200 ≤ length block) where
  pub called_zero : r ≡ 0
  unfolding number_put
  called_zero = p ∙ rw (e, le-leb 200 (length block) long)

  pub called_at : (i : ℕ) → i < length (numbers_of (answer_as (ok y))) → get_or (numbers_of (answer_as (ok y))) i 0 < 18446744073709551616 → in_block i after ≡ get_or (numbers_of (answer_as (ok y))) i 0
  unfolding block_put
  called_at i h g = rw (p', e, le-leb 200 (length block) long) (number_in (numbers_of (answer_as (ok y))) (drop 200 block) i h g)

-- a writer that answers o, with output b
abbrev pub WrittenBy : (block after lent out b : List ℕ) → (r : ℕ) → Result ℕ → Type 0
WrittenBy block after lent out b r o =
    (r ≡ number_of block (answer_as (written o))) × ((after ≡ block_after block (answer_as (written o))) × (out ≡ lent_after (guarded block o) b lent))

module _ (block after lent out b : List ℕ) (r : ℕ) (o : Result ℕ) (p : WrittenBy block after lent out b r o) where
  pub write_out : 200 ≤ length block → out ≡ lent_after o b lent
  write_out h = p.1.1 ∙ ap (λ (x : Result ℕ). lent_after x b lent) (guarded_long block o h)

  pub write_done : (n : ℕ) → o ≡ ok n → 200 ≤ length block → n < 18446744073709551616 → (r ≡ 0) × (end_told after ≡ n)
  write_done n e h g =
      let f = ap written e in
      (called_zero block after r (written o) p.0 p.1.0 _ f h, called_at block after r (written o) p.0 p.1.0 _ f h 4 (omega arith) g)

  pub write_told : Numbered o → r ≡ 0 → (200 ≤ length block) × (n : ℕ) × (o ≡ ok n)
  write_told h z =
      let y = called_told block (written o) (onward_numbered o _ h (λ n. tt)) (sym p.0 ∙ z) in
      let x = onward_ok o _ y.1 y.2 in
      (y.0, x.0, x.1)

-- a reader of a string
module _ (block after : List ℕ) (r : ℕ) (o : Result Span) (p : r ≡ number_of block (answer_as (string_read o))) (p' : after ≡ block_after block (answer_as (string_read o))) where
  pub read_done : (x : Span) → o ≡ ok x → 200 ≤ length block → x.start < 18446744073709551616 → x.len < 18446744073709551616 → x.ends < 18446744073709551616
      → (r ≡ 0) × (start_told after ≡ x.start) × (length_told after ≡ x.len) × (end_told after ≡ x.ends)
  read_done x e h a b c =
      let f = ap string_read e in (
        called_zero block after r (string_read o) p p' _ f h,
        called_at block after r (string_read o) p p' _ f h 9 (omega arith) a,
        called_at block after r (string_read o) p p' _ f h 10 (omega arith) b,
        called_at block after r (string_read o) p p' _ f h 4 (omega arith) c,
      )

  pub read_told : Numbered o → r ≡ 0 → (200 ≤ length block) × (x : Span) × (o ≡ ok x)
  read_told h z =
      let y = called_told block (string_read o) (onward_numbered o _ h (λ n. tt)) (sym p ∙ z) in
      let x = onward_ok o _ y.1 y.2 in
      (y.0, x.0, x.1)

-- a reader of a set
module _ (block after : List ℕ) (r : ℕ) (o : Result Ended) (p : r ≡ number_of block (answer_as (ended o))) (p' : after ≡ block_after block (answer_as (ended o))) where
  pub set_done : (m e : ℕ) → o ≡ ok (record { found = with_entries (with_count blank 0 m) m; ends = e }) → 200 ≤ length block → m < 18446744073709551616 → e < 18446744073709551616
      → (r ≡ 0) × (count_told after ≡ m) × (end_told after ≡ e)
  set_done m e f h a b =
      let g = ap ended f in
      (called_zero block after r (ended o) p p' _ g h, called_at block after r (ended o) p p' _ g h 20 (omega arith) a, called_at block after r (ended o) p p' _ g h 4 (omega arith) b)

  pub read_set_told : Numbered o → r ≡ 0 → (200 ≤ length block) × (x : Ended) × (o ≡ ok x)
  read_set_told h z =
      let y = called_told block (ended o) (onward_numbered o _ h (λ n. tt)) (sym p ∙ z) in
      let x = onward_ok o _ y.1 y.2 in
      (y.0, x.0, x.1)

string_low : (c : List ℕ) → length c ≤ limit → length (string_bytes c) < 18446744073709551616
unfolding string_bytes pad_of
string_low c h = simp (length-append, length_number, length-replicate) (omega arith)

-- ---- strings through both blocks: o is what the writer answers, o' what the reader does
abbrev pub ReadBy : (s block after : List ℕ) → (r : ℕ) → Result Span → Type 0
ReadBy s block after r o = (r ≡ number_of block (answer_as (string_read o))) × ((after ≡ block_after block (answer_as (string_read o))) × Held s)

module _ (c lent out report reported s block answer : List ℕ) (at w r : ℕ) (o : Result ℕ) (o' : Result Span) (p : WrittenBy report reported lent out (string_bytes c) w o)
    (q : ReadBy s block answer r o') where
  pub exported_there : Numbered o → ((n : ℕ) → o ≡ ok n → length (string_bytes c) ≡ n)
      → ((n : ℕ) → o ≡ ok n → out ≡ lent_after o (string_bytes c) lent → Has s at n out → StringTrip c s at n o')
      → w ≡ 0 → length c ≤ limit → Has s at (end_told reported) out → 200 ≤ length block
      → StringReported r answer s c (at + end_told reported)
  exported_there numbered told trip wrote small has long =
      let t = write_told report reported lent out (string_bytes c) w o p numbered wrote in
      let n = t.1 in
      let d = write_done report reported lent out (string_bytes c) w o p n t.2 t.0 (omega (arith, told n t.2, string_low c small)) in
      let y = trip n t.2 (write_out report reported lent out (string_bytes c) w o p t.0) (rw d.1 at has) in
      let h = q.1.1.1 in
      let k = y.within in
      let z = read_done block answer r o' q.0 q.1.0 _ y.reads long (omega arith) (omega arith) (omega arith) in
      (z.0, z.3 ∙ ap (λ (m : ℕ). at + m) (sym d.1), rw (z.1, z.2) y.these)

  pub exported_back : Numbered o' → ((x : Span) → o' ≡ ok x → (x.start + x.len ≤ x.ends) × (x.ends ≤ length s))
      → ((x : Span) → o' ≡ ok x → Zeros s (x.start + x.len) x.ends → c ≡ take x.len (drop x.start s) → x.ends - at ≤ length lent → out ≡ lent_after o (string_bytes c) lent
      → (o ≡ ok (x.ends - at)) × Has s at (x.ends - at) out)
      → r ≡ 0 → Zeros s (start_told answer + length_told answer) (end_told answer) → c ≡ take (length_told answer) (drop (start_told answer) s) → end_told answer - at ≤ length lent → 200 ≤ length report
      → OutputReported w reported out s at (end_told answer - at)
  exported_back numbered within again read zeroed same room long =
      let t = read_told block answer r o' q.0 q.1.0 numbered read in
      let x = t.1 in
      let k = within x t.2 in
      let h = q.1.1.1 in
      let z = read_done block answer r o' q.0 q.1.0 x t.2 t.0 (omega arith) (omega arith) (omega arith) in
      let y = again x t.2 (rw (z.1, z.2, z.3) at zeroed) (rw (z.1, z.2) at same) (rw z.3 at room) (write_out report reported lent out (string_bytes c) w o p long) in
      let d = write_done report reported lent out (string_bytes c) w o p _ y.0 long (omega arith) in
      rw z.3 (d.0, d.1, y.1)
