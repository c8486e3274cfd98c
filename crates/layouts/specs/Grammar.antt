-- The grammar of layouts, written without the walk: which bytes stand for a tree from a place on, and the pieces that they are.
use Rattle.std.specs.Prelude.{ℕ, ◌+◌, ◌≤◌, ◌<◌, ◌≡◌, List, [], ◌++◌, length}
use Rattle.layouts.specs.Primitive.{number_bytes, limit, pad_of}
use Rattle.layouts.specs.Shape.{Target, Role, Tree, ask, say, frames, stop}
use Rattle.layouts.specs.Pieces.{Pieces, number, text, chunk, end}

pub data Says : Tree → (at : ℕ) → List ℕ → Pieces → Type 0 where
  -- N
  says_number : (i : Target) (n at : ℕ) (k : ℕ → Tree) (b : List ℕ) (p : Pieces) → n < 18446744073709551616
      → Says (k n) (at + 8) b p → Says (ask i k) at (number_bytes n ++ b) (number i at n p)
  -- S: length, contents, padding of any value
  says_text : (m : Role) (at : ℕ) (k : Unit {0} → Tree) (c pad b : List ℕ) (p : Pieces) → length c ≤ limit → length pad ≡ pad_of (length c)
      → Says (k tt) (at + 8 + length c + pad_of (length c)) b p
      → Says (say m k) at (number_bytes (length c) ++ (c ++ (pad ++ b))) (text m (at + 8) (length c) p)
  -- F: chunks of N and that many bytes, no padding, ended by N = 0
  says_chunk : (at : ℕ) (k : Unit {0} → Tree) (c b : List ℕ) (p : Pieces) → 0 < length c → length c ≤ limit
      → Says (frames k) (at + 8 + length c) b p → Says (frames k) at (number_bytes (length c) ++ (c ++ b)) (chunk (at + 8) (length c) p)
  says_last : (at : ℕ) (k : Unit {0} → Tree) (b : List ℕ) (p : Pieces) → Says (k tt) (at + 8) b p → Says (frames k) at (number_bytes 0 ++ b) p
  says_end : (at : ℕ) → Says stop at [] (end at)
