-- A number, a string and framed data that were found at a place, as a node of a tree reads them: all that a fold has to know of its stream.
use Prim.Native.Nat.{ℕ, ◌+◌, ◌≤◌}
use mathlib.Core.Path.{◌≡◌, refl, sym, ◌∙◌, ap}
use mathlib.Core.List.{List}
use lib.ListN.{length}
use native.Mathlib.Omega.{arith}
use Rattle.layouts.specs.Primitive.{number_at}
use Rattle.layouts.specs.Shape.{Target, Role, Tree, ask, say, frames}
use Rattle.layouts.specs.Pieces.{Pieces, number, chunk, fault, Num, Text, whole, cut, Chunk, part, last, wrong, text_of, chunk_of, after_num, after_text, run}
use Rattle.layouts.specs.Calls.{peek_number}
use Rattle.layouts.proofs.Views.{ChunkView, no_size, is_last, too_large, no_bytes, is_part, chunk_view}
use Rattle.layouts.proofs.Steps.{frames_short, frames_last, frames_long, frames_cut, frames_part}
use Rattle.pieces.specs.Pieces.{num_read, text_found, chunk_found}
use Rattle.pieces.proofs.Found.{text_read, text_told_lem, chunk_read, chunk_told, text_known, chunk_known}
use Rattle.pieces.specs.declared.Text as T
use Rattle.pieces.specs.declared.Chunk as C
use Rattle.pieces.specs.declared.Chunk.TheVariants.{Last}
use Rattle.pieces.specs.declared.Chunk.TheVariants.{Part}
use Rattle.pieces.specs.declared.Text.TheVariants.{Half}
use Rattle.pieces.specs.declared.Text.TheVariants.{Whole}
use Rattle.layouts.specs.declared.Refusal.{Refusal}
use Rattle.std.specs.Prelude.{Option, Some, None, Ok, Result}

module _ (s : List ℕ) (at : ℕ) where
  -- ---- a number
  module _ (m : Option ℕ) (e : num_read m ≡ peek_number s at) where
    ask_as : (m' : Option ℕ) → m ≡ m' → (i : Target) (k : ℕ → Tree) → run (ask i k) s at ≡ after_num (num_read m') i at (λ n. run (k n) s (at + 8))
    unfolding run
    ask_as m' q i k = ap (λ (x : Num). after_num x i at (λ n. run (k n) s (at + 8))) (sym e ∙ ap num_read q)

    pub ask_cut : m ≡ None → (i : Target) (k : ℕ → Tree) → run (ask i k) s at ≡ fault 1 at
    unfolding after_num
    ask_cut q i k = ask_as None q i k

    pub ask_found : (n : ℕ) → m ≡ Some n → (i : Target) (k : ℕ → Tree) → run (ask i k) s at ≡ number i at n (run (k n) s (at + 8))
    unfolding after_num
    ask_found n q i k = ask_as (Some n) q i k

  -- ---- a string
  module _ (m : Result T.Text Refusal) (e : m ≡ text_found (text_of (length s) (number_at s at) at)) where
    pub say_as : (m' : Result T.Text Refusal) → m ≡ m' → (r : Role) (k : Unit {0} → Tree) → run (say r k) s at ≡ after_text (text_read m') r (λ a. run (k tt) s a)
    unfolding run
    say_as m' q r k = ap (λ (x : Text). after_text x r (λ a. run (k tt) s a)) (sym (text_told_lem s at m e _ q))

    pub half_within : (start len : ℕ) → m ≡ Ok (Half start len) → start + len ≤ length s
    half_within start len q = (text_known (length s) (number_at s at) at (cut start len) (text_told_lem s at m e _ q)).2

    pub whole_found : (start len next : ℕ) → m ≡ Ok (Whole start len next) → (at + 8 ≤ next) × (next ≤ length s) × (start + len ≤ length s)
    whole_found start len next q =
        let z = text_known (length s) (number_at s at) at (whole start len next) (text_told_lem s at m e _ q) in
        (omega (arith, z), z.3, omega (arith, z))

  -- ---- framed data
  module _ (k : Unit {0} → Tree) where
    abbrev pub frames_by : Chunk → Pieces
    frames_by (part start len next) = chunk start len (run (frames k) s next)
    frames_by (last next) = run (k tt) s next
    frames_by (wrong which place) = fault which place

    frames_view : {m : Chunk} → ChunkView (length s) (number_at s at) at m → run (frames k) s at ≡ frames_by m
    frames_view (no_size h) = frames_short s at _ refl k h
    frames_view (is_last h z) = frames_last s at _ refl k h z
    frames_view (too_large h l) = frames_long s at _ refl k h l
    frames_view (no_bytes h z l c) = frames_cut s at _ refl k h z l c
    frames_view (is_part h z l) = frames_part s at _ refl k h z l

  module _ (m : Result C.Chunk Refusal) (e : m ≡ chunk_found (chunk_of (length s) (number_at s at) at)) where
    pub frames_as : (m' : Result C.Chunk Refusal) → m ≡ m' → (k : Unit {0} → Tree) → run (frames k) s at ≡ frames_by k (chunk_read m')
    frames_as m' q k = frames_view k (chunk_view (length s) (number_at s at) at) ∙ ap (frames_by k) (sym (chunk_told s at m e _ q))

    pub last_found : (next : ℕ) → m ≡ Ok (Last next) → (at + 8 ≤ next) × (next ≤ length s)
    last_found next q = let z = chunk_known (length s) (number_at s at) at (last next) (chunk_told s at m e _ q) in (omega (arith, z), z.1)

    pub part_found : (start len next : ℕ) → m ≡ Ok (Part start len next) → (at + 8 ≤ next) × (next ≤ length s) × (start + len ≤ length s)
    part_found start len next q =
        let z = chunk_known (length s) (number_at s at) at (part start len next) (chunk_told s at m e _ q) in
        (omega (arith, z), z.2, omega (arith, z))
