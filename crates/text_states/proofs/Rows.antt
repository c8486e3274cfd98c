-- The row of a byte, as the arms of a match give it, and what it has for a state.
use Prim.Native.Nat.{ℕ, ◌/◌, ◌%◌, ◌^◌, ◌≤◌, ◌<◌}
use mathlib.Core.Path.{◌≡◌, sym, ap}
use native.Mathlib.Omega.{arith}
use lib.Bits.{bit_and, and_mask}
use borrow.Author.Tests.{lt-leb}
use Rattle.text_states.specs.States.{beginning, row_of, next_state}

pub arm : {b k : ℕ} → b ≡ k → row_of k ≡ row_of b
arm e = ap row_of (sym e)

pub past : {b : ℕ} → 0xFF ≤ b → beginning 48 ≡ row_of b
unfolding row_of
past {b} h =
    simp (
      lt-leb b 0x7F (omega arith),
      lt-leb b 0x8F (omega arith),
      lt-leb b 0x9F (omega arith),
      lt-leb b 0xBF (omega arith),
      lt-leb b 0xC1 (omega arith),
      lt-leb b 0xDF (omega arith),
      lt-leb b 0xE0 (omega arith),
      lt-leb b 0xEC (omega arith),
      lt-leb b 0xED (omega arith),
      lt-leb b 0xEF (omega arith),
      lt-leb b 0xF0 (omega arith),
      lt-leb b 0xF3 (omega arith),
      lt-leb b 0xF4 (omega arith),
    )

pub shift : (state : ℕ) → bit_and state 63 < 64
shift state = rw (and_mask state 6) (omega arith)

pub masked : (row state b : ℕ) → row ≡ row_of b → bit_and (row / 2 ^ bit_and state 63) 63 ≡ next_state state b
masked row state b e = rw (and_mask state 6, e) (and_mask (row_of b / 2 ^ (state % 64)) 6)
