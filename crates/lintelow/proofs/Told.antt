-- What the number that a call returns, its block and its rooms say of what was judged; and strings by entries of sixteen bytes.
use Prim.Native.Nat.{ℕ, zero, suc, ◌+◌, ◌*◌, ◌/◌, ◌≤◌, ◌<◌}
use mathlib.Core.Path.{◌≡◌, refl, sym, ◌∙◌, ap}
use mathlib.Core.List.{List, [], ◌∷◌, ◌++◌, append_assoc}
use mathlib.Core.Bool.{Bool, true, false}
use native.Mathlib.Omega.{arith}
use lib.ListN.{length, get_or, drop, length-append}
use lib.Dec.{leb}
use lib.Seq.{drop-append_seam}
use borrow.Author.Tests.{lt-ltb}
use Rattle.layouts.specs.Primitive.{pick, little_at, number_at, number_bytes, Version, output_full, Result, ok, refused}
use Rattle.layouts.specs.Pieces.{Pieces}
use Rattle.layouts.specs.Record.{is_kept}
use Rattle.layouts.specs.Judge.{entry, entries_of, lent_after}
use Rattle.layouts.specs.Writers.{slots_of, entry_start, entry_length, view_of}
use Rattle.layouts.specs.Calls as L
use Rattle.layouts.specs.Calls.{skip_daemon_result}
use Rattle.layouts.specs.Demands.{Verdict, all_text, first_bad}
use Rattle.layouts.proofs.Little.{little_drop, length_number, number_of_bytes}
use Rattle.layouts.proofs.Placed.{Placed, on_number_lem, on_text, on_half, on_chunk, on_end, on_fault}
use Rattle.layouts.proofs.Success.{Numbered, skip_reply_numbered}
use Rattle.entries.specs.Entries.{numbers_from, entries_in}
use Rattle.writers_output.specs.Numbers.{bytes_of}
use Rattle.writers_output.proofs.Numbers.{bytes_length}
use Rattle.walk_judge.specs.declared.Answer.{Answer}
use Rattle.walk_judge.specs.Judged.{answer_as}
use Rattle.walk_judge.proofs.Answers.{beyond}
use Rattle.lintelow_answers.specs.Skips.{result_skipped}
use Rattle.lintelow_answers.specs.Block.{refusal_of, numbers_of, guarded, number_of, number_put, block_put}
use Rattle.lintelow.specs.Demands.{end_told, entries_told, payload_told, Lendable, Tells}
use Rattle.std.specs.Prelude as Std
use Rattle.layouts.specs.declared.Refusal.{Refusal}
use Rattle.std.specs.Prelude.{Ok}

-- ---- the numbers of a block
number_after : (n : ℕ) (l : List ℕ) (k : ℕ) → number_at (number_bytes n ++ l) (8 + k) ≡ number_at l k
unfolding number_at
number_after n l k =
    let e : drop 8 (number_bytes n ++ l) ≡ l = ap (λ (j : ℕ). drop j (number_bytes n ++ l)) (sym (length_number n)) ∙ drop-append_seam (number_bytes n) l in
    sym (little_drop 8 (number_bytes n ++ l) 8 k) ∙ ap (λ (m : List ℕ). little_at 8 m k) e

number_of_lem : (i : ℕ) (ns l : List ℕ) → i < length ns → get_or ns i 0 < 18446744073709551616 → number_at (bytes_of ns ++ l) (8 * i) ≡ get_or ns i 0
unfolding bytes_of
number_of_lem i [] l h g = absurd (omega arith)
number_of_lem zero (n ∷ ns) l h g = ap (λ (m : List ℕ). number_at m 0) (append_assoc (number_bytes n) (bytes_of ns) l) ∙ number_of_bytes n (bytes_of ns ++ l) g
number_of_lem (suc i) (n ∷ ns) l h g =
    let m = number_bytes n ++ (bytes_of ns ++ l) in
    ap (λ (b : List ℕ). number_at b (8 * suc i)) (append_assoc (number_bytes n) (bytes_of ns) l)
    ∙ ap (number_at m) (omega arith) ∙ number_after n (bytes_of ns ++ l) (8 * i) ∙ number_of_lem i ns l (omega arith) g

-- those of an answer that is fine
module _ (a : Answer) (fine : a.outcome ≡ Ok tt) where
  abbrev told : List ℕ
  told = 0 ∷ 0 ∷ 0 ∷ a.kind ∷ a.ends ∷ a.ends2 ∷ a.found.entries ∷ a.found.payload ∷ (a.found.numbers ++ (a.found.counts ++ (0 ∷ 0 ∷ [])))

  told_by_lem : numbers_of a ≡ told
  told_by_lem =
      ap (λ (u : Std.Result (Unit {0}) Refusal). refusal_of u ++ (a.kind ∷ a.ends ∷ a.ends2 ∷ a.found.entries ∷ a.found.payload ∷ (a.found.numbers ++ (a.found.counts ++ (0 ∷ 0 ∷ []))))) fine

  told_at : (i : ℕ) (l : List ℕ) → i < 8 → get_or told i 0 < 18446744073709551616 → number_at (bytes_of (numbers_of a) ++ l) (8 * i) ≡ get_or told i 0
  told_at i l h g = ap (λ (ns : List ℕ). number_at (bytes_of ns ++ l) (8 * i)) told_by_lem ∙ number_of_lem i told l (omega arith) g

-- ---- demand 1 of a call that is lent a room: judged as o, of which f makes the answer, it reports new
module _ {A : Type 0} (f : Result A → Answer) (fine : (y : A) → (f (ok y)).outcome ≡ Ok tt) (block new lent out : List ℕ) where
  keeps_by : (b : Bool) (o : Result A) (number : ℕ) → number ≡ pick b (get_or (numbers_of (f o)) 0 0) output_full → out ≡ lent_after (pick b o (refused output_full 0 0)) new lent
      → 0 < number → out ≡ lent
  keeps_by true (ok y) number t e h = let z : get_or (numbers_of (f (ok y))) 0 0 ≡ 0 = ap (λ (ns : List ℕ). get_or ns 0 0) (told_by_lem (f (ok y)) (fine y)) in absurd (omega arith)
  keeps_by true (refused which place stream) number t e h = e
  keeps_by false o number t e h = e

  -- number i of the block says how much is new
  reports_by : (b : Bool) (o : Result A) (after : List ℕ) (i : ℕ) (size : ℕ → ℕ) → i < 8 → after ≡ pick b (bytes_of (numbers_of (f o)) ++ drop 200 block) block
      → out ≡ lent_after (pick b o (refused output_full 0 0)) new lent
      → ((y : A) → o ≡ ok y → (get_or (told (f (ok y)) (fine y)) i 0 < 18446744073709551616) × (length new ≡ size (get_or (told (f (ok y)) (fine y)) i 0)))
      → drop (size (number_at after (8 * i))) out ≡ drop (size (number_at after (8 * i))) lent
  reports_by true (ok y) after i size h t e c =
      let n = get_or (told (f (ok y)) (fine y)) i 0 in
      let w = c y refl in
      let q : number_at after (8 * i) ≡ n = ap (λ (l : List ℕ). number_at l (8 * i)) t ∙ told_at (f (ok y)) (fine y) i (drop 200 block) h w.0 in
      rw q (beyond (size n) new lent out w.1 e)
  reports_by true (refused which place stream) after i size h t e c = ap (drop (size (number_at after (8 * i)))) e
  reports_by false o after i size h t e c = ap (drop (size (number_at after (8 * i)))) e

module _ {A : Type 0} (f : Result A → Answer) (fine : (y : A) → (f (ok y)).outcome ≡ Ok tt) (block : List ℕ) (o : Result A) (number : ℕ) (after : List ℕ)
    (t : Tells (f o) block number after) (lent out : List ℕ) where
  pub room_kept : (new : List ℕ) → out ≡ lent_after (guarded block o) new lent → 0 < number → out ≡ lent
  unfolding number_put guarded
  room_kept new e = keeps_by f fine block new lent out (leb 200 (length block)) o number t.0 e

  pub entries_only : (es : List ℕ) → out ≡ lent_after (guarded block o) (bytes_of es) lent → Lendable lent
      → ((y : A) → o ≡ ok y → (length es ≡ 2 * (f (ok y)).found.entries) × ((f (ok y)).found.entries ≤ length lent / 16))
      → drop (16 * entries_told after) out ≡ drop (16 * entries_told after) lent
  unfolding block_put guarded
  entries_only es e l c =
      reports_by f fine block (bytes_of es) lent out (leb 200 (length block)) o after 6 (λ n. 16 * n) (omega arith) t.1 e
      (λ y q. let w = c y q in let b = bytes_length es in (omega arith, omega arith))

  pub payload_only : (ps : List ℕ) → out ≡ lent_after (guarded block o) ps lent → Lendable lent
      → ((y : A) → o ≡ ok y → (length ps ≡ (f (ok y)).found.payload) × ((f (ok y)).found.payload ≤ length lent))
      → drop (payload_told after) out ≡ drop (payload_told after) lent
  unfolding block_put guarded
  payload_only ps e l c =
      reports_by f fine block ps lent out (leb 200 (length block)) o after 7 (λ n. n) (omega arith) t.1 e (λ y q. let w = c y q in (omega arith, w.0))

-- ---- where 0 is returned
verdict_numbered : {A : Type 0} {s : List ℕ} {p : Pieces} {y : A} {o : Result A} → Verdict s p (ok y) o → Numbered o
verdict_numbered (all_text h) = tt
verdict_numbered (first_bad h) = omega arith

module _ (block : List ℕ) where
  passed_by : (b : Bool) (o : Result ℕ) (number : ℕ) (after : List ℕ) → number ≡ pick b (get_or (numbers_of (answer_as (result_skipped o))) 0 0) output_full
      → after ≡ pick b (bytes_of (numbers_of (answer_as (result_skipped o))) ++ drop 200 block) block → Numbered o → number ≡ 0
      → (e : ℕ) × (o ≡ ok e) × (e < 18446744073709551616 → end_told after ≡ e)
  passed_by true (ok e) number after t q n z = (e, refl, λ h. ap (λ (l : List ℕ). number_at l 32) q ∙ told_at (answer_as (result_skipped (ok e))) refl 4 (drop 200 block) (omega arith) h)
  passed_by true (refused which place stream) number after t q n z = absurd (omega arith)
  passed_by false o number after t q n z = absurd (omega arith)

  -- a skipped reply is passed to an end, which the block tells
  pub reply_passed : (op : ℕ) (v : Version) (s : List ℕ) (number : ℕ) (after : List ℕ) → Tells (answer_as (result_skipped (skip_daemon_result op v s))) block number after
      → number ≡ 0 → (e : ℕ) × (skip_daemon_result op v s ≡ ok e) × (e < 18446744073709551616 → end_told after ≡ e)
  unfolding number_put block_put
  reply_passed op v s number after t z = passed_by (leb 200 (length block)) (skip_daemon_result op v s) number after t.0 t.1 (skip_reply_numbered s op v) z

  fills_by : (b : Bool) (o : Result L.Answer) (number : ℕ) (new lent out : List ℕ) → Numbered o → number ≡ pick b (get_or (numbers_of (answer_as o)) 0 0) output_full
      → out ≡ lent_after (pick b o (refused output_full 0 0)) new lent → number ≡ 0 → out ≡ new ++ drop (length new) lent
  fills_by true (ok y) number new lent out n t e z = e
  fills_by true (refused which place stream) number new lent out n t e z = absurd (omega arith)
  fills_by false o number new lent out n t e z = absurd (omega arith)

  -- the room of a read that is as given or refused by 3
  pub read_fills : {s : List ℕ} {p : Pieces} {y : L.Answer} (o : Result L.Answer) → Verdict s p (ok y) o → (number : ℕ) → number ≡ number_of block (answer_as o)
      → (new lent out : List ℕ) → out ≡ lent_after (guarded block o) new lent → number ≡ 0 → out ≡ new ++ drop (length new) lent
  unfolding number_put guarded
  read_fills o w number t new lent out e z = fills_by (leb 200 (length block)) o number new lent out (verdict_numbered w) t e z

-- ---- strings by entries of sixteen bytes
pub from_length : (n at : ℕ) (b : List ℕ) → length (numbers_from n at b) ≡ n
unfolding numbers_from
from_length zero at b = refl
from_length (suc n) at b = ap suc (from_length n (at + 8) b)

from_at : (n at : ℕ) (b : List ℕ) (k : ℕ) → k < n → get_or (numbers_from n at b) k 0 ≡ number_at b (at + 8 * k)
unfolding numbers_from
from_at zero at b k h = absurd (omega arith)
from_at (suc n) at b zero h = ap (number_at b) (omega arith)
from_at (suc n) at b (suc k) h = from_at n (at + 8) b k (omega arith) ∙ ap (number_at b) (omega arith)

view_by : (s es fs : List ℕ) (i : ℕ) → i < slots_of es → i < slots_of fs → entry_start fs i ≡ entry_start es i → entry_length fs i ≡ entry_length es i → view_of s fs i ≡ view_of s es i
unfolding view_of
view_by s es fs i h g e f = rw (lt-ltb i (slots_of fs) g, lt-ltb i (slots_of es) h, e, f)

pub view_in_bytes : (s es rest : List ℕ) (i : ℕ) → 2 * i + 1 < length es → ((k : ℕ) → get_or es k 0 < 18446744073709551616)
    → view_of s (entries_in (bytes_of es ++ rest)) i ≡ view_of s es i
view_in_bytes s es rest i h g =
    let b = bytes_of es ++ rest in
    let n = 2 * (length b / 16) in
    let l = length-append (bytes_of es) rest in
    let m = bytes_length es in
    let f = from_length n 0 b in
    let at : (k : ℕ) → k < n → k < length es → get_or (entries_in b) k 0 ≡ get_or es k 0 =
    λ k u w. from_at n 0 b k u ∙ ap (number_at b) (omega arith) ∙ number_of_lem k es rest w (g k) in
    view_by s es (entries_in b) i (omega arith) (omega arith) (at (2 * i) (omega arith) (omega arith)) (at (2 * i + 1) (omega arith) h)

-- start and length of each string that is kept are no more than the stream
pub entries_small : {G : Type 0} {hi lo : ℕ} {p : Pieces} → Placed G hi lo p → (k : ℕ) → get_or (entries_of p) k 0 ≤ hi
unfolding entries_of
entries_small (on_number_lem lo place a b h) k = entries_small h k
entries_small {hi} (on_text {m} {p} lo start len a b h) k = by (is_kept m) k (entries_small h)
  where
    by : (c : Bool) (k : ℕ) → ((j : ℕ) → get_or (entries_of p) j 0 ≤ hi) → get_or (entry c start len (entries_of p)) k 0 ≤ hi
    by true zero f = omega arith
    by true (suc zero) f = omega arith
    by true (suc (suc k)) f = f k
    by false k f = f k
entries_small (on_half lo start len a b) k = omega arith
entries_small (on_chunk lo start len a b h) k = entries_small h k
entries_small (on_end lo place a b) k = omega arith
entries_small (on_fault lo place a) k = omega arith
