-- What becomes of a string, by the number of its role.
use Prim.Native.Nat.{ℕ, zero, suc, ◌≤◌, ◌<◌}
use mathlib.Core.Path.{◌≡◌, refl}
use mathlib.Core.Bool.{true, false}
use native.Mathlib.Omega.{arith}
use borrow.Author.Tests.{ne_eqb}
use Rattle.layouts.specs.Record.{is_kept}
use Rattle.layouts.specs.Judge.{is_decoded}
use Rattle.table.specs.Table.{role_of}

pub kept_from : (role : ℕ) → 2 ≤ role → is_kept (role_of role) ≡ true
unfolding role_of
kept_from zero h = absurd (omega arith)
kept_from (suc zero) h = absurd (omega arith)
kept_from (suc (suc role)) h = rw (ne_eqb (suc (suc role)) 0 (λ e. omega arith), ne_eqb (suc (suc role)) 1 (λ e. omega arith))

pub kept_below : (role : ℕ) → role < 2 → is_kept (role_of role) ≡ false
unfolding role_of
kept_below zero h = refl
kept_below (suc zero) h = refl
kept_below (suc (suc role)) h = absurd (omega arith)

pub decoded_some : (role : ℕ) → (role ≡ 0 → ⊥) → is_decoded (role_of role) ≡ true
unfolding role_of
decoded_some zero h = absurd (h refl)
decoded_some (suc zero) h = refl
decoded_some (suc (suc role)) h = rw (ne_eqb (suc (suc role)) 0 (λ e. omega arith), ne_eqb (suc (suc role)) 1 (λ e. omega arith))
