-- The pieces of a stream stand in order, each within the stream, and so does the fault that ends them, where a tree fails of itself by 15 alone. So a number at
-- the place where pieces begin is hard, and so is all that stands after their end.
use Prim.Native.Nat.{ℕ, zero, suc, ◌+◌, ◌-◌, ◌≤◌, ◌<◌}
use mathlib.Core.Path.{◌≡◌, refl, sym}
use mathlib.Core.List.{List}
use mathlib.Core.Bool.{Bool, true, false, ◌||◌}
use lib.ListN.{length}
use lib.Dec.{ltb, leb}
use borrow.Author.Tests.{lt-leb, le-ltb}
use native.Mathlib.Omega.{arith}
use Rattle.layouts.specs.Primitive.{pick, number_at, pad_of, nonzero_position, ok, refused}
use Rattle.layouts.specs.Shape.{Target, Role, Tree, ask, say, frames, fail, stop}
use Rattle.layouts.specs.Pieces.{Pieces, number, text, half, chunk, end, fault, Num, Text, Chunk, after_num, after_text, after_chunk, chunks, run, skip_of}
use Rattle.layouts.specs.Soft.{soft, within}
use Rattle.layouts.proofs.Views.{NumView, is_value, is_short, TextView, no_length, too_long_there, no_contents, no_padding, is_whole, ChunkView, no_size, is_last, too_large, no_bytes, is_part, num_view, text_view, chunk_view}

pub never_both : {A : Type 0} {a : A} {which place stream : ℕ} → refused which place stream ≡ ok a → ⊥
never_both q = let z : ◌≡◌ {A = ℕ} 0 1 = cc in omega arith

-- from lo on and up to hi; where G holds, the fault too is at lo or after. A fault may stand at the number before it
pub data Placed (G : Type 0) (hi : ℕ) : (lo : ℕ) → Pieces → Type 0 where
  on_number_lem : {n : ℕ} {i : Target} {p : Pieces} (lo place : ℕ) → lo ≤ place → place ≤ hi → Placed G hi place p → Placed G hi lo (number i place n p)
  on_text : {m : Role} {p : Pieces} (lo start len : ℕ) → lo + 8 ≤ start → start + len + pad_of len ≤ hi → Placed G hi (start + len + pad_of len) p
      → Placed G hi lo (text m start len p)
  on_half : {m : Role} (lo start len : ℕ) → lo + 8 ≤ start → start + len ≤ hi → Placed G hi lo (half m start len)
  on_chunk : {p : Pieces} (lo start len : ℕ) → lo + 8 ≤ start → start + len ≤ hi → Placed G hi (start + len) p → Placed G hi lo (chunk start len p)
  on_end : (lo place : ℕ) → lo ≤ place → place ≤ hi → Placed G hi lo (end place)
  on_fault : {which : ℕ} (lo place : ℕ) → (G → lo ≤ place) → Placed G hi lo (fault which place)

-- a tree that fails of itself by 15 alone, at a number that it has just asked for
abbrev pub FailsAt : (asked : Bool) → (which back : ℕ) → Type 0
FailsAt true which back = (which ≡ nonzero_position) × (back ≡ 8)
FailsAt false which back = ⊥

abbrev pub Fails : (asked : Bool) → Tree → Type 0
Fails a (ask i k) = (n : ℕ) → Fails true (k n)
Fails a (say m k) = Fails false (k tt)
Fails a (frames k) = Fails false (k tt)
Fails a (fail which back) = FailsAt a which back
Fails a stop = Unit {0}

abbrev pub FailsBy15 : Tree → Type 0
FailsBy15 t = Fails false t

abbrev number_before : (asked : Bool) → ℕ
number_before true = 8
number_before false = 0

module _ {G : Type 0} {hi : ℕ} where
  pub placed_from : {lo : ℕ} {p : Pieces} (lo' : ℕ) → lo' ≤ lo → Placed G hi lo p → Placed G hi lo' p
  placed_from lo' g (on_number_lem lo place a b h) = on_number_lem lo' place (omega arith) b h
  placed_from lo' g (on_text lo start len a b h) = on_text lo' start len (omega arith) b h
  placed_from lo' g (on_half lo start len a b) = on_half lo' start len (omega arith) b
  placed_from lo' g (on_chunk lo start len a b h) = on_chunk lo' start len (omega arith) b h
  placed_from lo' g (on_end lo place a b) = on_end lo' place (omega arith) b
  placed_from lo' g (on_fault lo place a) = on_fault lo' place (λ x. let q = a x in omega arith)

module _ {G : Type 0} (size n at : ℕ) where
  num_placed : (i : Target) {m : Num} (k : ℕ → Pieces) → NumView size n at m → (at + 8 ≤ size → Placed G size at (k n)) → Placed G size at (after_num m i at k)
  unfolding after_num
  num_placed i k (is_value h) g = on_number_lem at at (omega arith) (omega arith) (g h)
  num_placed i k (is_short h) g = on_fault at at (λ x. omega arith)

  text_placed : (r : Role) {m : Text} (k : ℕ → Pieces) → TextView size n at m → ((at' : ℕ) → at' ≤ size → Placed G size at' (k at')) → Placed G size at (after_text m r k)
  unfolding after_text
  text_placed r k (no_length h) g = on_fault at at (λ x. omega arith)
  text_placed r k (too_long_there h l) g = on_fault at at (λ x. omega arith)
  text_placed r k (no_contents h l c) g = on_fault at (at + 8) (λ x. omega arith)
  text_placed r k (no_padding h l c) g = on_half at (at + 8) n (omega arith) h
  text_placed r k (is_whole h l) g = on_text at (at + 8) n (omega arith) h (g (at + 8 + n + pad_of n) h)

  chunk_placed : {m : Chunk} (again k : ℕ → Pieces) → ChunkView size n at m → ((at' : ℕ) → at' ≤ size → Placed G size at' (again at'))
      → ((at' : ℕ) → at' ≤ size → Placed G size at' (k at')) → Placed G size at (after_chunk m again k)
  unfolding after_chunk
  chunk_placed again k (no_size h) f g = on_fault at at (λ x. omega arith)
  chunk_placed again k (is_last h z) f g = placed_from at (omega arith) (g (at + 8) h)
  chunk_placed again k (too_large h l) f g = on_fault at at (λ x. omega arith)
  chunk_placed again k (no_bytes h z l c) f g = on_fault at (at + 8) (λ x. omega arith)
  chunk_placed again k (is_part h z l) f g = on_chunk at (at + 8) n (omega arith) h (f (at + 8 + n) h)

module _ {G : Type 0} (s : List ℕ) where
  pub chunks_placed : (f at : ℕ) (k : ℕ → Pieces) → ((at' : ℕ) → at' ≤ length s → Placed G (length s) at' (k at')) → Placed G (length s) at (chunks f s at k)
  unfolding chunks
  chunks_placed zero at k g = on_fault at at (λ x. omega arith)
  chunks_placed (suc f) at k g =
      chunk_placed (length s) (number_at s at) at (λ at'. chunks f s at' k) k (chunk_view (length s) (number_at s at) at) (λ at' h. chunks_placed f at' k g) g

  failed : (asked : Bool) (which back lo at : ℕ) → (G → FailsAt asked which back) → lo + number_before asked ≡ at → Placed G (length s) lo (fault which (at - back))
  failed true which back lo at f e = on_fault lo (at - back) (λ x. let z = (f x).1 in omega arith)
  failed false which back lo at f e = on_fault lo (at - back) (λ x. absurd (f x))

  -- from lo on, where the number may stand that was asked for
  placed_run : (asked : Bool) (t : Tree) (lo at : ℕ) → (G → Fails asked t) → lo + number_before asked ≡ at → at ≤ length s → Placed G (length s) lo (run t s at)
  unfolding run
  placed_run a (ask i k) lo at f e h =
      placed_from lo (omega arith)
      (num_placed (length s) (number_at s at) at i (λ n. run (k n) s (at + 8)) (num_view (length s) (number_at s at) at)
      (λ g. placed_run true (k (number_at s at)) at (at + 8) (λ x. f x (number_at s at)) refl g))
  placed_run a (say m k) lo at f e h =
      placed_from lo (omega arith)
      (text_placed (length s) (number_at s at) at m (λ at'. run (k tt) s at') (text_view (length s) (number_at s at) at)
      (λ at' g. placed_run false (k tt) at' at' f (omega arith) g))
  placed_run a (frames k) lo at f e h =
      placed_from lo (omega arith) (chunks_placed (suc (length s)) at (λ at'. run (k tt) s at') (λ at' g. placed_run false (k tt) at' at' f (omega arith) g))
  placed_run a (fail which back) lo at f e h = failed a which back lo at f e
  placed_run a stop lo at f e h = on_end lo at (omega arith) h

pub run_placed : (t : Tree) (s : List ℕ) (at : ℕ) → at ≤ length s → Placed (FailsBy15 t) (length s) at (run t s at)
run_placed t s at h = placed_run s false t at at (λ x. x) (omega arith) h

-- what that says of soft bytes
past_by : (b c : Bool) → c ≡ false → pick b c false ≡ false
past_by true c e = e
past_by false c e = refl

pub neither : (a b : Bool) → a ≡ false → b ≡ false → a || b ≡ false
neither true b e f = e
neither false b e f = f

-- past a piece's last byte only what follows can be soft
pub past_soft : (start next x : ℕ) {b : Bool} → next ≤ x → b ≡ false → within start next x || b ≡ false
past_soft start next x h e = rw (past_by (leb start x) (ltb x next) (le-ltb x next h)) e

module _ {G : Type 0} {hi : ℕ} where
  -- no byte before the first piece's own number is soft, nor that number
  pub soft_low : {lo : ℕ} {p : Pieces} (x : ℕ) → Placed G hi lo p → x < lo + 8 → soft p x ≡ false
  unfolding soft
  soft_low x (on_number_lem lo place a b h) l = soft_low x h (omega arith)
  soft_low x (on_text lo start len a b h) l = rw (lt-leb start x (omega arith)) (soft_low x h (omega arith))
  soft_low x (on_half lo start len a b) l = rw (lt-leb start x (omega arith))
  soft_low x (on_chunk lo start len a b h) l = rw (lt-leb start x (omega arith)) (soft_low x h (omega arith))
  soft_low x (on_end lo place a b) l = refl
  soft_low x (on_fault lo place a) l = refl

  -- where pieces are refused, the place is not before them
  pub refused_from : {lo which place stream : ℕ} {p : Pieces} → G → Placed G hi lo p → skip_of p ≡ refused which place stream → lo ≤ place
  unfolding skip_of
  refused_from g (on_number_lem lo x a b h) q = let z = refused_from g h q in omega arith
  refused_from g (on_text lo start len a b h) q = let z = refused_from g h q in omega arith
  refused_from {place} g (on_half lo start len a b) q = let z : start + len ≡ place = cc in omega arith
  refused_from g (on_chunk lo start len a b h) q = let z = refused_from g h q in omega arith
  refused_from g (on_end lo x a b) q = absurd (never_both (sym q))
  refused_from {place} g (on_fault lo x a) q = let z : x ≡ place = cc in let y = a g in omega arith

  module _ (e : ℕ) where
    pub ends : {lo : ℕ} {p : Pieces} → Placed G hi lo p → skip_of p ≡ ok e → (lo ≤ e) × (e ≤ hi)
    unfolding skip_of
    ends (on_number_lem lo place a b h) q = let z = ends h q in (omega arith, z.1)
    ends (on_text lo start len a b h) q = let z = ends h q in (omega arith, z.1)
    ends (on_half lo start len a b) q = absurd (never_both q)
    ends (on_chunk lo start len a b h) q = let z = ends h q in (omega arith, z.1)
    ends (on_end lo place a b) q = let z : place ≡ e = cc in (omega arith, omega arith)
    ends (on_fault lo place a) q = absurd (never_both q)

    -- no byte from the end on is soft
    pub soft_high : {lo : ℕ} {p : Pieces} (x : ℕ) → Placed G hi lo p → skip_of p ≡ ok e → e ≤ x → soft p x ≡ false
    unfolding soft skip_of
    soft_high x (on_number_lem lo place a b h) q l = soft_high x h q l
    soft_high x (on_text lo start len a b h) q l = let z = ends h q in past_soft start (start + len + pad_of len) x (omega arith) (soft_high x h q l)
    soft_high x (on_half lo start len a b) q l = absurd (never_both q)
    soft_high x (on_chunk lo start len a b h) q l = let z = ends h q in past_soft start (start + len) x (omega arith) (soft_high x h q l)
    soft_high x (on_end lo place a b) q l = refl
    soft_high x (on_fault lo place a) q l = refl

    -- pieces that end at e lie below e
    pub placed_to : {lo : ℕ} {p : Pieces} → Placed G hi lo p → skip_of p ≡ ok e → Placed G e lo p
    unfolding skip_of
    placed_to (on_number_lem lo place a b h) q = on_number_lem lo place a (ends h q).0 (placed_to h q)
    placed_to (on_text lo start len a b h) q = on_text lo start len a (ends h q).0 (placed_to h q)
    placed_to (on_half lo start len a b) q = absurd (never_both q)
    placed_to (on_chunk lo start len a b h) q = on_chunk lo start len a (ends h q).0 (placed_to h q)
    placed_to (on_end lo place a b) q = let z : place ≡ e = cc in on_end lo place a (omega arith)
    placed_to (on_fault lo place a) q = on_fault lo place a
