-- Which octets each state lets through, and to which state: the ranges of RFC 3629. `text` proves from them that the machine takes only text.
use Prim.Native.Nat.{ℕ, suc, ◌≤◌, ◌<◌}
use mathlib.Core.Path.{◌≡◌, refl}
use mathlib.Core.Bool.{Bool, true, false, ◌&&◌, cond}
use mathlib.Core.List.{List, [], ◌∷◌}
use native.Mathlib.Omega.{arith}
use native.Mathlib.Decide.{dec_le}
use lib.Dec.{T, leb, leb→le, eqb, eqb→eq}
use borrow.Author.Tests.{le-leb, lt-leb, eqb-true}
use Rattle.text_states.specs.States.{beginning, rows, row_in, row_of, in_row, next_state, run_states}

by_row : (P : ℕ → Type 0) (b top : ℕ) {x y : ℕ} → (b ≤ top → P x) → (top < b → P y) → P (cond (leb b top) x y)
by_row P b top {x} {y} f g = go (dec_le b top)
  where
    go : Dec (b ≤ top) → P (cond (leb b top) x y)
    go (yes h) = rw (le-leb b top h) (f h)
    go (no h) = rw (lt-leb b top (omega arith)) (g (omega arith))

-- ---- between characters
pub data First (b x : ℕ) : Type 0 where
  00-7F : b ≤ 0x7F → x ≡ 0 → First b x
  C2-DF : 0xC2 ≤ b → b ≤ 0xDF → x ≡ 6 → First b x
  E0 : b ≡ 0xE0 → x ≡ 24 → First b x
  E1-EC : 0xE1 ≤ b → b ≤ 0xEC → x ≡ 12 → First b x
  ED : b ≡ 0xED → x ≡ 30 → First b x
  EE-EF : 0xEE ≤ b → b ≤ 0xEF → x ≡ 12 → First b x
  F0 : b ≡ 0xF0 → x ≡ 36 → First b x
  F1-F3 : 0xF1 ≤ b → b ≤ 0xF3 → x ≡ 18 → First b x
  F4 : b ≡ 0xF4 → x ≡ 42 → First b x
  wrong : x ≡ 48 → First b x

pub first : (b : ℕ) → First b (next_state 0 b)
unfolding row_of
first b =
    by_row P b 0x7F (λ h. 00-7F h refl) (λ l.
    by_row P b 0x8F (λ h. wrong refl) (λ l.
    by_row P b 0x9F (λ h. wrong refl) (λ l.
    by_row P b 0xBF (λ h. wrong refl) (λ l.
    by_row P b 0xC1 (λ h. wrong refl) (λ l.
    by_row P b 0xDF (λ h. C2-DF (omega arith) h refl) (λ l.
    by_row P b 0xE0 (λ h. E0 (omega arith) refl) (λ l.
    by_row P b 0xEC (λ h. E1-EC (omega arith) h refl) (λ l.
    by_row P b 0xED (λ h. ED (omega arith) refl) (λ l.
    by_row P b 0xEF (λ h. EE-EF (omega arith) h refl) (λ l.
    by_row P b 0xF0 (λ h. F0 (omega arith) refl) (λ l.
    by_row P b 0xF3 (λ h. F1-F3 (omega arith) h refl) (λ l.
    by_row P b 0xF4 (λ h. F4 (omega arith) refl) (λ l. wrong refl)))))))))))))
  where
    P : ℕ → Type 0
    P row = First b (in_row row 0)

-- ---- within one
pub data Next (low high next b x : ℕ) : Type 0 where
  right : low ≤ b → b ≤ high → x ≡ next → Next low high next b x
  wrong : x ≡ 48 → Next low high next b x

-- the same as a test, of all octets from `low'` to `high'`
abbrev fit : (low high next low' high' x : ℕ) → Bool
fit low high next low' high' x = cond (eqb x 48) true (leb low low' && leb high' high && eqb x next)

-- and of every row, where the first is that of the octets from `low'` on
abbrev fits : (state low high next low' : ℕ) → List (ℕ × ℕ) → Bool
fits state low high next low' [] = eqb (in_row (beginning 48) state) 48
fits state low high next low' ((top, row) ∷ l) = fit low high next low' top (in_row row state) && fits state low high next (suc top) l

T_and : (x y : Bool) → T (x && y) → T x × T y
T_and true y t = (tt, t)
T_and false y t = absurd t

module _ (low high next b : ℕ) where
  fit_next : (low' high' x : ℕ) (w : Bool) → eqb x 48 ≡ w → T (cond w true (leb low low' && leb high' high && eqb x next)) → low' ≤ b → b ≤ high' → Next low high next b x
  fit_next low' high' x true e t l h = wrong (eqb-true x 48 e)
  fit_next low' high' x false e t l h =
      let p = T_and (leb low low' && leb high' high) (eqb x next) t in
      let q = T_and (leb low low') (leb high' high) p.0 in
      right (omega (arith, leb→le low low' q.0)) (omega (arith, leb→le high' high q.1)) (eqb→eq x next p.1)

  fits_next : (state low' : ℕ) (l : List (ℕ × ℕ)) → T (fits state low high next low' l) → low' ≤ b → Next low high next b (in_row (row_in l b) state)
  fits_next state low' [] t h = wrong (eqb→eq (in_row (beginning 48) state) 48 t)
  fits_next state low' ((top, row) ∷ l) t h =
      let x = in_row row state in
      let p = T_and (fit low high next low' top x) (fits state low high next (suc top) l) t in
      by_row (λ (r : ℕ). Next low high next b (in_row r state)) b top (λ g. fit_next low' top x (eqb x 48) refl p.0 h g) (λ g. fits_next state (suc top) l p.1 (omega arith))

from : (state low high next b : ℕ) → T (fits state low high next 0 rows) → Next low high next b (next_state state b)
unfolding row_of
from state low high next b t = fits_next low high next b state 0 rows t (omega arith)

module _ (b : ℕ) where
  pub one_tail : Next 0x80 0xBF 0 b (next_state 6 b)
  one_tail = from 6 0x80 0xBF 0 b tt

  pub two_tails : Next 0x80 0xBF 6 b (next_state 12 b)
  two_tails = from 12 0x80 0xBF 6 b tt

  pub three_tails : Next 0x80 0xBF 12 b (next_state 18 b)
  three_tails = from 18 0x80 0xBF 12 b tt

  pub after_E0 : Next 0xA0 0xBF 6 b (next_state 24 b)
  after_E0 = from 24 0xA0 0xBF 6 b tt

  pub after_ED : Next 0x80 0x9F 6 b (next_state 30 b)
  after_ED = from 30 0x80 0x9F 6 b tt

  pub after_F0 : Next 0x90 0xBF 12 b (next_state 36 b)
  after_F0 = from 36 0x90 0xBF 12 b tt

  pub after_F4 : Next 0x80 0x8F 12 b (next_state 42 b)
  after_F4 = from 42 0x80 0x8F 12 b tt

  wrong_next : next_state 48 b ≡ 48
  wrong_next = go (from 48 0 0 48 b tt)
    where
      go : Next 0 0 48 b (next_state 48 b) → next_state 48 b ≡ 48
      go (right l h e) = e
      go (wrong e) = e

-- ---- wrong for good
wrong_stays : (s : List ℕ) → run_states 48 s ≡ 48
unfolding run_states
wrong_stays [] = refl
wrong_stays (b ∷ s) = rw (wrong_next b) (wrong_stays s)

pub never : (s : List ℕ) → run_states 48 s ≡ 0 → ⊥
never s e = omega (arith, wrong_stays s)
