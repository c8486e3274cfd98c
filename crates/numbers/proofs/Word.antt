-- A byte set above what is there, by `|`, is added to it.
use mathlib.Core.Path.{◌≡◌, ap, ◌∙◌}
use Prim.Native.Nat.{ℕ, ◌+◌, ◌*◌, ◌%◌, ◌^◌, ◌≤◌, ◌<◌}
use native.Mathlib.Nat.{add_comm}
use lib.Bits.{bit_or, or_shifted_r}
use lib.Pow.{shl_exact}

pub join : (k b acc : ℕ) → 8 + k ≤ 64 → acc < 2 ^ k → b < 2 ^ 8 → bit_or acc (b * 2 ^ k % 2 ^ 64) ≡ acc + b * 2 ^ k
join k b acc h ha hb = ap (λ (x : ℕ). bit_or acc x) (shl_exact {a = b} 8 k 64 hb h) ∙ or_shifted_r b k acc ha ∙ add_comm (b * 2 ^ k) acc
