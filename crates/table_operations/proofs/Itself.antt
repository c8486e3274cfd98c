-- A code that is none of those of a list is its own kind.
use Prim.Native.Nat.{ℕ, suc, ◌<◌}
use mathlib.Core.Path.{◌≡◌, refl, sym, ap}
use mathlib.Core.Bool.{Bool}
use mathlib.Core.List.{List, [], ◌∷◌}
use native.Mathlib.Omega.{arith}
use borrow.Author.Tests.{ne_eqb}
use Rattle.layouts.specs.Primitive.{Version}
use Rattle.table.specs.Numbered.{Numbered, just, numbered_value}
use Rattle.table.specs.Packed.{first_code, kind_list}
use Rattle.table.specs.Table.{numbered_in, numbered_of, kind_numbered}

-- the code is none of those from n on, as the last arm of a match is told
abbrev pub Missed : List Numbered → (n code : ℕ) → Type 0 → Type 0
Missed [] n c T = T
Missed (k ∷ ks) n c T = Missed ks (suc n) c (T × (c ≡ n → ⊥))

missed : (ks : List Numbered) (n c : ℕ) (T : Type 0) → Missed ks n c T → (numbered_in ks n c ≡ just c) × T
unfolding numbered_in
missed [] n c T m = (refl, m)
missed (k ∷ ks) n c T m = let h = missed ks (suc n) c (T × (c ≡ n → ⊥)) m in (rw (ne_eqb c n h.1.1) h.0, h.1.0)

pub itself : (v : Version) (b : Bool) (c : ℕ) → Missed kind_list first_code c (Unit {0}) → c ≡ kind_numbered v b c
unfolding numbered_of
itself v b c m = sym (ap (numbered_value v b) (missed kind_list first_code c (Unit {0}) m).0)

-- nor is a number below the first of them
below : (ks : List Numbered) (n c : ℕ) (T : Type 0) → c < n → T → Missed ks n c T
below [] n c T h t = t
below (k ∷ ks) n c T h t = below ks (suc n) c (T × (c ≡ n → ⊥)) (omega arith) (t, λ e. omega arith)

pub plain : (v : Version) (b : Bool) (c : ℕ) → c < first_code → c ≡ kind_numbered v b c
plain v b c h = itself v b c (below kind_list first_code c (Unit {0}) h tt)
