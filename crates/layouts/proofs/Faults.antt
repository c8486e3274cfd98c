-- From `Refusals` of specs/ to what is judged: what reads is passed over, what is at fault is refused.
use Prim.Native.Nat.{ℕ, ◌+◌, ◌-◌, ◌≤◌, ◌<◌}
use mathlib.Core.Path.{◌≡◌, refl, ◌∙◌, ap}
use mathlib.Core.List.{List, ◌++◌, append_assoc}
use mathlib.Core.Bool.{Bool, true, false, not, ◌&&◌}
use lib.ListN.{length, take, drop, length-append, length-drop}
use lib.Seq.{take_at}
use lib.Dec.{leb}
use borrow.Author.Tests.{le-leb, lt-leb}
use native.Mathlib.Omega.{arith}
use native.Mathlib.Nat.{add-zero}
use native.Mathlib.Decide.{dec_le}
use Rattle.text.specs.Rfc3629.{Text, IllFormedAt}
use Rattle.text.specs.Prefix.{is_text}
use Rattle.text.proofs.Meaning.{text_is, ill_formed_at, not_text_lem}
use Rattle.layouts.specs.declared.Record.{Record}
use Rattle.layouts.specs.Primitive.{pick, number_at, number_bytes, limit, pad_of, cut_short, too_long, bad_text, no_entry_room, no_payload_room, Result, ok, refused, onward}
use Rattle.layouts.specs.Shape.{Role, kept, Tree, say, frames}
use Rattle.layouts.specs.Pieces.{run}
use Rattle.layouts.specs.Record.{is_kept, entered, with_payload}
use Rattle.layouts.specs.Judge.{is_decoded, not_text, text_end, text_taken, half_taken, chunk_taken, Ended, judge_of}
use Rattle.layouts.specs.Refusals.{Reads, reads_none, reads_number, reads_text, reads_chunk, reads_last, Needs, a_number, a_length, contents, padding, a_size, a_chunk, Measured, a_string_lem, chunks, Fault, cut, too_long_there, bad_text_lem, no_slot, no_room, fails, Answers, Refuses}
use Rattle.layouts.proofs.Little.{length_number}
use Rattle.layouts.proofs.Steps.{ask_short, ask_value, say_short, say_long, say_cut, say_half, say_whole, frames_short, frames_last, frames_long, frames_cut, frames_part}
use Rattle.layouts.proofs.Exact.{past, head_number, head_size, head_past}

-- ---- one result, told apart
pub refused_same : {A : Type 0} {w p t w' p' t' : ℕ} → ◌≡◌ {A = Result A} (refused w p t) (refused w' p' t') → (w ≡ w') × (p ≡ p') × (t ≡ t')
refused_same e = (cc, cc, cc)

pub ended_same : {a b : Ended} → ok a ≡ ok b → a ≡ b
ended_same e = cc

module _ (s : List ℕ) where
  -- contents that stand in the stream, as the judge takes them
  module _ (m : Role) (start : ℕ) (c l : List ℕ) (e : drop start s ≡ c ++ l) where
    contents_are : take (length c) (drop start s) ≡ c
    contents_are = ap (take (length c)) e ∙ take_at c l (length c) refl

    fine : (is_decoded m ≡ true → Text c) → not_text s m start (length c) ≡ false
    unfolding not_text
    fine f = rw contents_are (by (is_decoded m) f)
      where
        by : (b : Bool) → (b ≡ true → Text c) → b && not (is_text c) ≡ false
        by true g = rw (text_is c (g refl))
        by false g = refl

    bad : {n : ℕ} → is_decoded m ≡ true → IllFormedAt n c → not_text s m start (length c) ≡ true
    unfolding not_text
    bad d g = rw (d, contents_are, not_text_lem g)

    bad_at : {n : ℕ} → IllFormedAt n c → text_end s start (length c) ≡ start + n
    unfolding text_end
    bad_at g = rw (contents_are, ill_formed_at g)

    text_goes : (slots : ℕ) (r : Record) → (is_decoded m ≡ true → Text c) → (is_kept m ≡ true → r.entries < slots)
        → text_taken s slots r m start (length c) ≡ ok (entered r m)
    unfolding text_taken
    text_goes slots r f g = rw (fine f) (by (is_kept m) g)
      where
        by : (b : Bool) → (b ≡ true → r.entries < slots) → pick (b && leb slots r.entries) (refused no_entry_room (start - 8) 0) (ok (entered r m)) ≡ ok (entered r m)
        by true h = rw (lt-leb slots r.entries (h refl))
        by false h = refl

    text_bad : {n : ℕ} (slots : ℕ) (r : Record) → is_decoded m ≡ true → IllFormedAt n c → text_taken s slots r m start (length c) ≡ refused bad_text (start + n) 0
    unfolding text_taken
    text_bad slots r d g = rw (bad d g, bad_at g)

    half_fine : (is_decoded m ≡ true → Text c) → half_taken {A = Ended} s m start (length c) ≡ refused cut_short (start + length c) 0
    unfolding half_taken
    half_fine f = rw (fine f)

    half_bad : {n : ℕ} → is_decoded m ≡ true → IllFormedAt n c → half_taken {A = Ended} s m start (length c) ≡ refused bad_text (start + n) 0
    unfolding half_taken
    half_bad d g = rw (bad d g, bad_at g)

  text_full : (start : ℕ) (c l : List ℕ) → drop start s ≡ c ++ l → (slots : ℕ) (r : Record) → Text c → slots ≤ r.entries
      → text_taken s slots r kept start (length c) ≡ refused no_entry_room (start - 8) 0
  unfolding text_taken
  text_full start c l e slots r x h = rw (fine kept start c l e (λ d. x), le-leb slots r.entries h)

chunk_goes : (room : ℕ) (r : Record) (start n : ℕ) → r.payload + n ≤ room → chunk_taken room r start n ≡ ok (with_payload r (r.payload + n))
unfolding chunk_taken
chunk_goes room r start n h = rw (le-leb (r.payload + n) room h)

chunk_full : (room : ℕ) (r : Record) (start n : ℕ) → room < r.payload + n → chunk_taken room r start n ≡ refused no_payload_room (start - 8) 0
unfolding chunk_taken
chunk_full room r start n h = rw (lt-leb (r.payload + n) room h)

module _ (s : List ℕ) (slots room : ℕ) where
  abbrev judged : Tree → (at : ℕ) → Record → Result Ended
  judged t at r = judge_of s slots room r (run t s at)

  -- what reads is passed over, and what follows is judged with the record so far
  pub reads_on : {t rest : Tree} {at at' : ℕ} {r r' : Record} {b : List ℕ} → Reads slots room t at r b rest at' r' → (u : List ℕ) → drop at s ≡ b ++ u
      → (judged t at r ≡ judged rest at' r') × (drop at' s ≡ u)
  unfolding judge_of
  reads_on (reads_none t at r) u e = (refl, e)
  reads_on (reads_number i n at at' k t b r r' h y) u e =
      let e' = simp append_assoc at e in
      let z = head_size s at n (b ++ u) e' in
      let w = reads_on y u (head_past s at n (b ++ u) e') in
      (ap (judge_of s slots room r) (ask_value s at n (head_number s at n (b ++ u) e' h) i k (omega arith)) ∙ w.0, w.1)
  reads_on (reads_text m at at' k t c pad b r r' h g f q y) u e =
      let n = length c in
      let l = c ++ (pad ++ (b ++ u)) in
      let e' : drop at s ≡ number_bytes n ++ l = simp append_assoc at e in
      let z = simp length-append at (head_size s at n l e') in
      let d = head_past s at n l e' in
      let w = reads_on y u (past s (at + 8 + n) (pad_of n) pad (b ++ u) (past s (at + 8) n c (pad ++ (b ++ u)) d refl) g) in (
        ap (judge_of s slots room r) (say_whole s at n (head_number s at n l e' (omega arith)) m k (omega arith) h)
            ∙ ap (λ (o : Result Record). onward o (λ r''. judge_of s slots room r'' (run (k tt) s (at + 8 + n + pad_of n)))) (text_goes s m (at + 8) c (pad ++ (b ++ u)) d slots r f q)
            ∙ w.0,
        w.1,
      )
  reads_on (reads_chunk at at' k t c b r r' o h q y) u e =
      let n = length c in
      let l = c ++ (b ++ u) in
      let e' : drop at s ≡ number_bytes n ++ l = simp append_assoc at e in
      let z = simp length-append at (head_size s at n l e') in
      let w = reads_on y u (past s (at + 8) n c (b ++ u) (head_past s at n l e') refl) in (
        ap (judge_of s slots room r) (frames_part s at n (head_number s at n l e' (omega arith)) k (omega arith) o h)
            ∙ ap (λ (o : Result Record). onward o (λ r''. judge_of s slots room r'' (run (frames k) s (at + 8 + n)))) (chunk_goes room r (at + 8) n q)
            ∙ w.0,
        w.1,
      )
  reads_on (reads_last at at' k t b r r' y) u e =
      let e' = simp append_assoc at e in
      let z = head_size s at 0 (b ++ u) e' in
      let w = reads_on y u (head_past s at 0 (b ++ u) e') in
      (ap (judge_of s slots room r) (frames_last s at 0 (head_number s at 0 (b ++ u) e' (omega arith)) k (omega arith) refl) ∙ w.0, w.1)

  -- 1, at the start of the piece that is cut short
  cut_refused : {t : Tree} {u : List ℕ} {further n : ℕ} → Needs t u further n → (at : ℕ) (r : Record) → drop at s ≡ u → length u < further + n
      → judged t at r ≡ refused cut_short (at + further) 0
  unfolding judge_of
  cut_refused (a_number i k u) at r e h =
      let z = simp length-drop at (ap length e) in
      rw (add-zero at) (ap (judge_of s slots room r) (ask_short s at (number_at s at) refl i k (omega arith)))
  cut_refused (a_length m k u) at r e h =
      let z = simp length-drop at (ap length e) in
      rw (add-zero at) (ap (judge_of s slots room r) (say_short s at (number_at s at) refl m k (omega arith)))
  cut_refused (contents m k n u l) at r e h =
      let z = head_size s at n u e in
      let g = simp (length-append, length_number) at h in
      ap (judge_of s slots room r) (say_cut s at n (head_number s at n u e (omega arith)) m k (omega arith) l (omega arith))
  cut_refused (padding m k c u l f) at r e h =
      let n = length c in
      let z = simp length-append at (head_size s at n (c ++ u) e) in
      let g = simp (length-append, length_number) at h in
      let p : at + 8 + n ≡ at + (8 + n) = omega arith in
      ap (judge_of s slots room r) (say_half s at n (head_number s at n (c ++ u) e (omega arith)) m k (omega arith) l (omega arith))
      ∙ half_fine s m (at + 8) c u (head_past s at n (c ++ u) e) f ∙ ap (λ (x : ℕ). refused cut_short x 0) p
  cut_refused (a_size k u) at r e h =
      let z = simp length-drop at (ap length e) in
      rw (add-zero at) (ap (judge_of s slots room r) (frames_short s at (number_at s at) refl k (omega arith)))
  cut_refused (a_chunk k n u o l) at r e h =
      let z = head_size s at n u e in
      let g = simp (length-append, length_number) at h in
      ap (judge_of s slots room r) (frames_cut s at n (head_number s at n u e (omega arith)) k (omega arith) o l (omega arith))

  -- 2, at the length
  long_refused : {t : Tree} → Measured t → (at n : ℕ) (r : Record) (u : List ℕ) → drop at s ≡ number_bytes n ++ u → limit < n → n < 18446744073709551616
      → judged t at r ≡ refused too_long at 0
  unfolding judge_of
  long_refused (a_string_lem m k) at n r u e l h =
      let z = head_size s at n u e in
      ap (judge_of s slots room r) (say_long s at n (head_number s at n u e h) m k (omega arith) l)
  long_refused (chunks k) at n r u e l h =
      let z = head_size s at n u e in
      ap (judge_of s slots room r) (frames_long s at n (head_number s at n u e h) k (omega arith) l)

  -- 3, at the first ill-formed sequence, whether or not the padding is there
  bad_refused : (m : Role) (at x : ℕ) (k : Unit {0} → Tree) (r : Record) (c u : List ℕ) → drop at s ≡ number_bytes (length c) ++ (c ++ u) → length c ≤ limit
      → is_decoded m ≡ true → IllFormedAt x c → judged (say m k) at r ≡ refused bad_text (at + 8 + x) 0
  unfolding judge_of
  bad_refused m at x k r c u e l d g = by (dec_le (pad_of n) (length u))
    where
      n : ℕ
      n = length c

      z : at + 8 + (n + length u) ≡ length s
      z = simp length-append at (head_size s at n (c ++ u) e)

      by : Dec (pad_of n ≤ length u) → judged (say m k) at r ≡ refused bad_text (at + 8 + x) 0
      by (yes p) =
          ap (judge_of s slots room r) (say_whole s at n (head_number s at n (c ++ u) e (omega arith)) m k (omega (arith, z)) l)
          ∙ ap (λ (o : Result Record). onward o (λ r'. judge_of s slots room r' (run (k tt) s (at + 8 + n + pad_of n)))) (text_bad s m (at + 8) c u (head_past s at n (c ++ u) e) slots r d g)
      by (no p) =
          ap (judge_of s slots room r) (say_half s at n (head_number s at n (c ++ u) e (omega arith)) m k (omega (arith, z)) l (omega (arith, z)))
          ∙ half_bad s m (at + 8) c u (head_past s at n (c ++ u) e) d g

  fault_refused : {t : Tree} {at which place : ℕ} {r : Record} {u : List ℕ} → Fault slots room t at r u which place → drop at s ≡ u
      → judged t at r ≡ refused which place 0
  unfolding judge_of run
  fault_refused (cut t at further n r u y h) e = cut_refused y at r e h
  fault_refused (too_long_there t at n r u y l h) e = long_refused y at n r u e l h
  fault_refused (bad_text_lem m at x k r c u l d g) e = bad_refused m at x k r c u e l d g
  fault_refused (no_slot at k r c pad u l g x h) e =
      let n = length c in
      let v = c ++ (pad ++ u) in
      let z = simp length-append at (head_size s at n v e) in
      let p : at + 8 - 8 ≡ at = omega arith in
      ap (judge_of s slots room r) (say_whole s at n (head_number s at n v e (omega arith)) kept k (omega arith) l)
      ∙ ap (λ (o : Result Record). onward o (λ r'. judge_of s slots room r' (run (k tt) s (at + 8 + n + pad_of n))))
      (text_full s (at + 8) c (pad ++ u) (head_past s at n v e) slots r x h)
      ∙ ap (λ (x : ℕ). refused no_entry_room x 0) p
  fault_refused (no_room at k r c u o l h) e =
      let n = length c in
      let v = c ++ u in
      let z = simp length-append at (head_size s at n v e) in
      let p : at + 8 - 8 ≡ at = omega arith in
      ap (judge_of s slots room r) (frames_part s at n (head_number s at n v e (omega arith)) k (omega arith) o l)
      ∙ ap (λ (o : Result Record). onward o (λ r'. judge_of s slots room r' (run (frames k) s (at + 8 + n)))) (chunk_full room r (at + 8) n h)
      ∙ ap (λ (x : ℕ). refused no_payload_room x 0) p
  fault_refused (fails which back at r u) e = refl

  pub answers_ok : {t : Tree} {at ends : ℕ} {r found : Record} → Answers slots room t at r (drop at s) found ends
      → judged t at r ≡ ok (record { found = found; ends = ends })
  unfolding judge_of run
  answers_ok y = (reads_on y.reads y.others y.splits).0

  pub refuses_refused : {t : Tree} {at which place : ℕ} {r : Record} → Refuses slots room t at r (drop at s) which place → judged t at r ≡ refused which place 0
  refuses_refused y =
      let w = reads_on y.reads y.others y.splits in
      w.0 ∙ fault_refused y.faults w.1
