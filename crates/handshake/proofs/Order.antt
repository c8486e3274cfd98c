-- Versions as numbers.
use Prim.Native.Nat.{ℕ, ◌+◌, ◌*◌, ◌/◌, ◌%◌, ◌≤◌, ◌<◌, min}
use mathlib.Core.Path.{◌≡◌, refl, sym, ◌∙◌, ap}
use mathlib.Core.List.{[], ◌∷◌}
use mathlib.Core.Bool.{Bool, true, false}
use native.Mathlib.Omega.{arith}
use native.Mathlib.Decide.{dec_le}
use lib.Dec.{eqb, leb, ltb}
use borrow.Author.Tests.{eqb-true, eqb-false, le-leb, lt-leb, lt-ltb, le-ltb}
use Rattle.layouts.specs.Primitive.{pick, Version, version, from_wire, at_least, smaller}
use Rattle.layouts.specs.Handshake.{versions}
use Rattle.table.specs.Table.{version_in}

-- ---- versions as numbers compare as versions do: by major, then minor
module _ (v w : ℕ) where
  minor_by : v / 256 ≡ w / 256 → Dec (w ≤ v) → leb w v ≡ leb (w % 256) (v % 256)
  minor_by e (yes g) = le-leb w v g ∙ sym (le-leb (w % 256) (v % 256) (omega arith))
  minor_by e (no g) = lt-leb w v (omega arith) ∙ sym (lt-leb (w % 256) (v % 256) (omega arith))

  major_by : (v / 256 ≡ w / 256 → ⊥) → Dec (w ≤ v) → leb w v ≡ ltb (w / 256) (v / 256)
  major_by n (yes g) = le-leb w v g ∙ sym (lt-ltb (w / 256) (v / 256) (omega arith))
  major_by n (no g) = lt-leb w v (omega arith) ∙ sym (le-ltb (w / 256) (v / 256) (omega arith))

  by_major : (b : Bool) → eqb (v / 256) (w / 256) ≡ b → leb w v ≡ at_least (version_in v) (version_in w)
  unfolding at_least
  by_major true e = rw e (minor_by (eqb-true (v / 256) (w / 256) e) (dec_le w v))
  by_major false e = rw e (major_by (eqb-false (v / 256) (w / 256) e) (dec_le w v))

  pub in_order : leb w v ≡ at_least (version_in v) (version_in w)
  in_order = by_major (eqb (v / 256) (w / 256)) refl

pub min_as : (v w : ℕ) → min v w ≡ pick (leb w v) w v
min_as v w = by (dec_le w v)
  where
    by : Dec (w ≤ v) → min v w ≡ pick (leb w v) w v
    by (yes h) = rw (le-leb w v h) (omega arith)
    by (no h) = rw (lt-leb w v (omega arith)) (omega arith)

pub smaller_in : (c d v : ℕ) → v ≡ pick (leb d c) d c → version_in v ≡ smaller (version_in c) (version_in d)
smaller_in c d v e = ap version_in e ∙ by (leb d c) ∙ ap (λ (b : Bool). pick b (version_in d) (version_in c)) (in_order c d)
  where
    by : (b : Bool) → version_in (pick b d c) ≡ pick b (version_in d) (version_in c)
    by true = refl
    by false = refl

-- the lowest two bytes of a number on the wire
pub wire_in : (n v : ℕ) → v ≡ n % 65536 → version_in v ≡ from_wire n
wire_in n v e =
    let a : v / 256 ≡ n / 256 % 256 = omega arith in
    let b : v % 256 ≡ n % 256 = omega arith in
    ap (λ (x : ℕ). version x (v % 256)) a ∙ ap (version (n / 256 % 256)) b

-- a version that was given
pub given_in : (major minor : ℕ) → minor < 256 → version_in (256 * major + minor) ≡ version major minor
given_in major minor h =
    let a : (256 * major + minor) / 256 ≡ major = omega arith in
    let b : (256 * major + minor) % 256 ≡ minor = omega arith in
    ap (λ (x : ℕ). version x ((256 * major + minor) % 256)) a ∙ ap (version major) b

pub all_versions : (c d v m n trust : ℕ) → v ≡ pick (leb d c) d c → m ≡ pick (leb 289 v) 1 0 → n ≡ pick (leb 291 v) 1 0
    → (c / 256 ∷ c % 256 ∷ d / 256 ∷ d % 256 ∷ v / 256 ∷ v % 256 ∷ m ∷ n ∷ trust ∷ 0 ∷ 0 ∷ 0 ∷ []) ≡ versions (version_in c) (version_in d) trust
all_versions c d v m n trust e f g =
    let k : m ≡ pick (at_least (version_in v) (version 1 33)) 1 0 = f ∙ ap (λ (b : Bool). pick {A = ℕ} b 1 0) (in_order v 289) in
    let l : n ≡ pick (at_least (version_in v) (version 1 35)) 1 0 = g ∙ ap (λ (b : Bool). pick {A = ℕ} b 1 0) (in_order v 291) in
    ap (λ (x : ℕ). c / 256 ∷ c % 256 ∷ d / 256 ∷ d % 256 ∷ v / 256 ∷ v % 256 ∷ x ∷ n ∷ trust ∷ 0 ∷ 0 ∷ 0 ∷ []) k
    ∙ ap (λ (x : ℕ). c / 256 ∷ c % 256 ∷ d / 256 ∷ d % 256 ∷ v / 256 ∷ v % 256 ∷ pick (at_least (version_in v) (version 1 33)) 1 0 ∷ x ∷ trust ∷ 0 ∷ 0 ∷ 0 ∷ []) l
    ∙ ap (λ (x : Version). c / 256 ∷ c % 256 ∷ d / 256 ∷ d % 256 ∷ x.major ∷ x.minor ∷ pick (at_least x (version 1 33)) 1 0 ∷ pick (at_least x (version 1 35)) 1 0 ∷ trust ∷ 0 ∷ 0 ∷ 0 ∷ [])
    (smaller_in c d v e)
