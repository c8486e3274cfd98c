-- The pieces of a stream that a tree has from a place on, up to its end or the first refusal. Numbers alone decide them: of a stream, `run` asks
-- its length and the numbers.
use Rattle.std.specs.Prelude.{ℕ, zero, suc, ◌+◌, ◌-◌, List, length, ltb, leb, eqb}
use Rattle.layouts.specs.Primitive.{pick, number_at, limit, pad_of, Version, cut_short, too_long, Result, ok, refused}
use Rattle.layouts.specs.Shape.{Target, Role, Group, Tree, ask, say, frames, fail, stop, layout}

-- a number with its place; a string, by start and length of its contents; one whose padding is cut short; a chunk, by start and length
pub data Pieces : Type 0 where
  number : Target → (place value : ℕ) → Pieces → Pieces
  text : Role → (start len : ℕ) → Pieces → Pieces
  half : Role → (start len : ℕ) → Pieces
  chunk : (start len : ℕ) → Pieces → Pieces
  end : (place : ℕ) → Pieces
  fault : (which place : ℕ) → Pieces

-- ---- one piece of a stream of this size, where n is the number at the place
pub data Num : Type 0 where
  value : (n : ℕ) → Num
  short : Num

unfoldable pub num_of : (size n at : ℕ) → Num
num_of size n at = pick (leb (at + 8) size) (value n) short

-- next: where what follows begins
pub data Text : Type 0 where
  whole : (start len next : ℕ) → Text
  cut : (start len : ℕ) → Text
  bad : (which place : ℕ) → Text

-- in this order: the length is cut short, is too long; the contents are cut short; the padding is
unfoldable pub text_of : (size n at : ℕ) → Text
text_of size n at =
    pick (leb (at + 8) size)
    (pick (ltb limit n) (bad too_long at)
    (pick (leb (at + 8 + n) size)
    (pick (leb (at + 8 + n + pad_of n) size) (whole (at + 8) n (at + 8 + n + pad_of n)) (cut (at + 8) n))
    (bad cut_short (at + 8))))
    (bad cut_short at)

pub data Chunk : Type 0 where
  part : (start len next : ℕ) → Chunk
  last : (next : ℕ) → Chunk
  wrong : (which place : ℕ) → Chunk

unfoldable pub chunk_of : (size n at : ℕ) → Chunk
chunk_of size n at =
    pick (leb (at + 8) size)
    (pick (eqb n 0) (last (at + 8))
    (pick (ltb limit n) (wrong too_long at)
    (pick (leb (at + 8 + n) size) (part (at + 8) n (at + 8 + n)) (wrong cut_short (at + 8)))))
    (wrong cut_short at)

-- ---- all of them
unfoldable pub after_num : Num → Target → (at : ℕ) → (ℕ → Pieces) → Pieces
after_num (value n) i at k = number i at n (k n)
after_num short i at k = fault cut_short at

unfoldable pub after_text : Text → Role → (ℕ → Pieces) → Pieces
after_text (whole start len next) r k = text r start len (k next)
after_text (cut start len) r k = half r start len
after_text (bad which place) r k = fault which place

unfoldable pub after_chunk : Chunk → (ℕ → Pieces) → (ℕ → Pieces) → Pieces
after_chunk (part start len next) again k = chunk start len (again next)
after_chunk (last next) again k = k next
after_chunk (wrong which place) again k = fault which place

-- chunks up to an empty one; the first argument bounds how many there can be
unfoldable pub chunks : ℕ → List ℕ → ℕ → (ℕ → Pieces) → Pieces
unfolding after_chunk
chunks zero s at k = fault cut_short at
chunks (suc f) s at k = after_chunk (chunk_of (length s) (number_at s at) at) (λ at'. chunks f s at' k) k

unfoldable pub run : Tree → List ℕ → (at : ℕ) → Pieces
unfolding after_num after_text chunks
run (ask i k) s at = after_num (num_of (length s) (number_at s at) at) i at (λ n. run (k n) s (at + 8))
run (say r k) s at = after_text (text_of (length s) (number_at s at) at) r (λ at'. run (k tt) s at')
run (frames k) s at = chunks (suc (length s)) s at (λ at'. run (k tt) s at')
run (fail which back) s at = fault which (at - back)
run stop s at = end at

unfoldable pub pieces : Version → List Group → List ℕ → Pieces
unfolding run layout
pieces v gs s = run (layout v gs) s 0

-- ---- skipping: where the pieces end
unfoldable pub skip_of : Pieces → Result ℕ
skip_of (number i place n p) = skip_of p
skip_of (text r start len p) = skip_of p
skip_of (half r start len) = refused cut_short (start + len) 0
skip_of (chunk start len p) = skip_of p
skip_of (end place) = ok place
skip_of (fault which place) = refused which place 0

-- the payload's total
unfoldable pub total_of : Pieces → ℕ
total_of (number i place n p) = total_of p
total_of (text r start len p) = total_of p
total_of (half r start len) = 0
total_of (chunk start len p) = len + total_of p
total_of (end place) = 0
total_of (fault which place) = 0
