-- Calls as the writer of calls sends them: what reads so, written again, gives its own bytes.
use Rattle.std.specs.Prelude.{ℕ, ◌+◌, ◌≤◌, ◌<◌, ◌≡◌, List}
use Rattle.layouts.specs.Primitive.{pad_of}
use Rattle.layouts.specs.Shape.{Target, dropped, as_number, as_flag, as_count, as_presence}
use Rattle.layouts.specs.Pieces.{Pieces, number, text, half, chunk, end, fault, total_of}
use Rattle.layouts.specs.Demands.{Zeros}

-- what is dropped is 0, and a flag 0 or 1
abbrev pub OurNumber : Target → ℕ → Type 0
OurNumber dropped n = n ≡ 0
OurNumber (as_number i) n = Unit {0}
OurNumber (as_flag i) n = n ≤ 1
OurNumber (as_count i) n = Unit {0}
OurNumber as_presence n = Unit {0}

-- numbers as above, zero padding, and chunks of 32768 bytes, the last of which may be shorter. No call has framed data twice
unfoldable pub Ours : List ℕ → Pieces → Type 0
Ours s (number i place n p) = OurNumber i n × Ours s p
Ours s (text m start len p) = Zeros s (start + len) (start + len + pad_of len) × Ours s p
Ours s (half m start len) = Unit {0}
Ours s (chunk start len p) = (len ≤ 32768) × (0 < total_of p → len ≡ 32768) × Ours s p
Ours s (end place) = Unit {0}
Ours s (fault which place) = Unit {0}
