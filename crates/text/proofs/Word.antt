-- Octets put together to a word by `|` and `<<`, and the test of the highest bit of each by a mask: one law for an octet more, used at each of eight.
use Prim.Native.Nat.{ℕ, ◌+◌, ◌*◌, ◌/◌, ◌%◌, ◌^◌, ◌≤◌, ◌<◌}
use mathlib.Core.Path.{◌≡◌}
use mathlib.Core.Bool.{true}
use mathlib.Core.List.{[], ◌∷◌}
use native.Mathlib.Omega.{arith}
use native.Mathlib.Nat.{lt_of_lt_of_le, le-mul_of_pos_right}
use native.Mathlib.Decide.{dec_le}
use lib.Bits.{bit_and, bit_or, and_block, and_high, or_shifted_r, or_lt}
use lib.Pow.{pow_pos, pow_mono, pow-add, shl_lt, shl_exact}
use lib.Dec.{T, eqb}
use borrow.Author.Tests.{eqb-true}
use Rattle.text.specs.Prefix.{all_plain}
use Rattle.text.proofs.Chars.{facts}

-- x with the octet b above its k bits
abbrev pub joined : ℕ → ℕ → ℕ → ℕ
joined k x b = bit_or x ((b * 2 ^ k) % 2 ^ 64)

high_bit : (b : ℕ) → b < 256 → bit_and b 0x80 ≡ 0 → b ≤ 0x7F
high_bit b h e = go (dec_le b 0x7F)
  where
    go : Dec (b ≤ 0x7F) → b ≤ 0x7F
    go (yes l) = l
    go (no n) = let q : b / 128 ≡ 1 = omega arith in absurd (omega (arith, rw q at (and_high b 1 7)))

-- x has k bits, so has the mask m, and P holds where the mask finds nothing
record Tested (k x m : ℕ) (P : Type 0) : Type 0 where
  fits : x < 2 ^ k
  mask_fits : m < 2 ^ k
  finds : bit_and x m ≡ 0 → P

one_octet : (a : ℕ) → a < 2 ^ 8 → Tested 8 a 0x80 (a ≤ 0x7F)
one_octet a fa = record { fits = fa; mask_fits = omega arith; finds = high_bit a fa }

one_more : (k : ℕ) {x m : ℕ} {P : Type 0} (b : ℕ) → b < 2 ^ 8 → 8 + k ≤ 64 → Tested k x m P → Tested (8 + k) (joined k x b) (0x80 * 2 ^ k + m) (P × (b ≤ 0x7F))
one_more k {x} {m} b fb fk t = record {
  fits = rw shifted (or_lt (8 + k) x (b * 2 ^ k) (lt_of_lt_of_le t.fits (pow_mono (omega arith))) (shl_lt 8 k fb));
  mask_fits = omega (arith, pow-add 2 8 k);
  finds = λ e.
      let z : bit_and b 0x80 * 2 ^ k + bit_and x m ≡ 0 =
      rw (shifted, or_shifted_r b k x t.fits, and_block k b 0x80 x m t.fits t.mask_fits) at e in
      (t.finds (omega arith), high_bit b fb (omega (arith, le-mul_of_pos_right (bit_and b 0x80) (pow_pos k))));
}
  where
    shifted : (b * 2 ^ k) % 2 ^ 64 ≡ b * 2 ^ k
    shifted = shl_exact 8 k 64 fb fk

pub word : (m a b c d e f g h : ℕ) → a < 2 ^ 8 → b < 2 ^ 8 → c < 2 ^ 8 → d < 2 ^ 8 → e < 2 ^ 8 → f < 2 ^ 8 → g < 2 ^ 8 → h < 2 ^ 8 → m ≡ 0x8080_8080_8080_8080
    → eqb (bit_and (joined 56 (joined 48 (joined 40 (joined 32 (joined 24 (joined 16 (joined 8 a b) c) d) e) f) g) h) m) 0 ≡ true
    → T (all_plain (a ∷ b ∷ c ∷ d ∷ e ∷ f ∷ g ∷ h ∷ []))
word m a b c d e f g h fa fb fc fd fe ff fg fh fm t =
    let p =
    (one_more 56 h fh (omega arith)
    (one_more 48 g fg (omega arith)
    (one_more 40 f ff (omega arith)
    (one_more 32 e fe (omega arith)
    (one_more 24 d fd (omega arith)
    (one_more 16 c fc (omega arith)
    (one_more 8 b fb (omega arith) (one_octet a fa)))))))
    ).finds (eqb-true _ _ (rw fm at t)) in
    simp facts (omega arith)
