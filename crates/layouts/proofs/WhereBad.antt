-- Where refusal 3 stands, for every layout: behind the good bytes of the string that is no text. A stream that is cut there is refused by 1 at that string's contents,
-- so that who has the place can ask where the string begins.
use Prim.Native.Nat.{ℕ, ◌+◌, ◌≤◌}
use mathlib.Core.Path.{◌≡◌, refl, sym, ◌∙◌, ap}
use mathlib.Core.List.{List, ◌++◌}
use mathlib.Core.Bool.{Bool, true, false}
use lib.ListN.{length, take, drop, length-append}
use lib.Seq.{length-take-le, take_at, take-add, take-append-add, drop_at}
use native.Mathlib.Omega.{arith}
use Rattle.text.specs.Rfc3629.{IllFormedAt}
use Rattle.layouts.specs.declared.Record.{Record}
use Rattle.layouts.specs.Primitive.{number_bytes, cut_short, bad_text, refused}
use Rattle.layouts.specs.Shape.{Tree, say}
use Rattle.layouts.specs.Pieces.{run}
use Rattle.layouts.specs.Judge.{judge_of}
use Rattle.layouts.specs.Refusals.{Reads, reads_none, reads_number, reads_text, reads_chunk, reads_last, contents, Fault, cut, too_long_there, bad_text_lem, no_slot, no_room, fails}
use Rattle.layouts.specs.Demands.{Bytes, contents_at}
use Rattle.layouts.proofs.Little.{length_number}
use Rattle.layouts.proofs.Placed.{Fails, FailsBy15}
use Rattle.layouts.proofs.Exact.{head_number, head_past}
use Rattle.layouts.proofs.Faults.{reads_on, refuses_refused}
use Rattle.layouts.proofs.Refusals.{refused_when}

-- what reads moves the place on by its bytes, and what is left fails of itself by 15 alone if all does
reads_past : {slots room at at' : ℕ} {t rest : Tree} {r r' : Record} {b : List ℕ} → Reads slots room t at r b rest at' r' → (a : Bool) → Fails a t
    → (at' ≡ at + length b) × (a' : Bool) × Fails a' rest
reads_past (reads_none t at r) a f = (omega arith, a, f)
reads_past (reads_number i n at at' k t b r r' h y) a f =
    let z = reads_past y true (f n) in (simp (length-append, length_number) (omega arith), z.1, z.2)
reads_past (reads_text m at at' k t c pad b r r' h g d q y) a f =
    let z = reads_past y false f in (simp (length-append, length_number) (omega arith), z.1, z.2)
reads_past (reads_chunk at at' k t c b r r' o h q y) a f =
    let z = reads_past y false f in (simp (length-append, length_number) (omega arith), z.1, z.2)
reads_past (reads_last at at' k t b r r' y) a f =
    let z = reads_past y false f in (simp (length-append, length_number) (omega arith), z.1, z.2)

-- the string that is at fault, over bytes that stand in a stream; and the same bytes cut where its text ends
bad_cut : {slots room at which place : ℕ} {t : Tree} {r : Record} {u : List ℕ} → Fault slots room t at r u which place → (a : Bool) → Fails a t → which ≡ bad_text → (s : List ℕ) → drop at s ≡ u
    → (n : ℕ) × (place ≡ at + (8 + n)) × IllFormedAt n (contents_at s at) × Fault slots room t at r (take (8 + n) u) cut_short (at + 8)
bad_cut (cut t at further n r u y h) a f e s d = absurd (omega arith)
bad_cut (too_long_there t at n r u y l h) a f e s d = absurd (omega arith)
bad_cut (bad_text_lem m at n k r c u l d g) a f e s p =
    let i = g.inside in
    let z = length-append c u in
    let v : take (8 + n) (number_bytes (length c) ++ (c ++ u)) ≡ number_bytes (length c) ++ take n (c ++ u)
    = ap (λ (j : ℕ). take (j + n) (number_bytes (length c) ++ (c ++ u))) (sym (length_number (length c))) ∙ take-append-add (number_bytes (length c)) (c ++ u) n in
    let w : contents_at s at ≡ c
    = ap (λ (j : ℕ). take j (drop (at + 8) s)) (sym (head_number s at (length c) (c ++ u) p (omega arith)))
    ∙ ap (take (length c)) (head_past s at (length c) (c ++ u) p) ∙ take_at c u (length c) refl in
    let h = length-take-le n (c ++ u) (omega arith) in
    (n, omega arith, rw w g, rw v (cut (say m k) at 8 (length c) r _ (contents m k (length c) (take n (c ++ u)) l) (simp (length-append, length_number) (omega arith))))
bad_cut (no_slot at k r c pad u l g x h) a f e s d = absurd (omega arith)
bad_cut (no_room at k r c u o l h) a f e s d = absurd (omega arith)
bad_cut (fails which back at r u) true f e s d = absurd (omega (arith, f))
bad_cut (fails which back at r u) false f e s d = absurd f

module _ (s : List ℕ) (bytes : Bytes s) (slots room : ℕ) (t : Tree) (by15 : FailsBy15 t) (at : ℕ) (within : at ≤ length s) (r : Record) (place : ℕ) where
  -- the string at a place x is no text, n bytes of it are good, and the refusal stands behind them; cut there, the stream is refused by 1 at its contents
  pub cut_at_bad_byte : judge_of s slots room r (run t s at) ≡ refused bad_text place 0
      → (x n : ℕ) × (place ≡ x + 8 + n) × IllFormedAt n (contents_at s x) × (judge_of (take place s) slots room r (run t (take place s) at) ≡ refused cut_short (x + 8) 0)
  cut_at_bad_byte e =
      let y = (refused_when s bytes slots room t at r bad_text place).0 e in
      let b = reads_past y.reads false by15 in
      let d = (reads_on s slots room y.reads y.others y.splits).1 in
      let z = bad_cut y.faults b.1 b.2 refl s d in
      let k = length y.these + (8 + z.0) in
      let p : place ≡ at + k = omega arith in
      let c : drop at (take place s) ≡ y.these ++ take (8 + z.0) y.others
      = ap (λ (j : ℕ). drop at (take j s)) p ∙ ap (drop at) (take-add at k s) ∙ drop_at (take at s) (take k (drop at s)) at (length-take-le at s within)
      ∙ ap (take k) y.splits ∙ take-append-add y.these y.others (8 + z.0) in (
        y.next,
        z.0,
        omega arith,
        z.2,
        refuses_refused (take place s) slots room
            (record {
              these = y.these;
              others = take (8 + z.0) y.others;
              rest = y.rest;
              next = y.next;
              sofar = y.sofar;
              splits = c;
              reads = y.reads;
              faults = z.3;
            }),
      )
