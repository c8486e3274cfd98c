-- Targets by their numbers, and the entries that are used after an item.
use Prim.Native.Nat.{ℕ, ◌+◌, ◌-◌, ◌*◌, ◌/◌, ◌≤◌, ◌<◌}
use mathlib.Core.Path.{◌≡◌, refl, sym, ◌∙◌, ap}
use mathlib.Core.List.{List}
use mathlib.Core.Bool.{Bool, true, false}
use lib.ListN.{get_or}
use lib.ListN as ListN
use lib.Dec.{ltb, leb, eqb}
use native.Mathlib.Omega.{arith}
use native.Mathlib.Decide.{ℕ_discrete, dec_lt}
use borrow.Author.Tests.{eq-eqb, ne_eqb, lt-ltb, le-ltb, le-leb, lt-leb}
use Rattle.layouts.specs.Primitive.{pick, Result, ok, refused, onward, no_such_entry}
use Rattle.layouts.specs.Shape.{dropped, as_number, as_flag, as_count, as_presence}
use Rattle.layouts.specs.CallWriter.{value_for, leave}
use Rattle.table.specs.Table.{target_of}
use Rattle.writers_fields.specs.Fields.{has_number, index_of, left_of, strings_by, strings_after, bytes_by}

-- ---- a target is none, a number, a flag, a count or a presence
data Aims (t : ℕ) : Type 0 where
  nowhere : target_of t ≡ dropped → index_of t ≡ 15 → Aims t
  number : target_of t ≡ as_number (t - 1) → index_of t ≡ t - 1 → t < 13 → Aims t
  flag : target_of t ≡ as_flag (t - 13) → index_of t ≡ t - 13 → 13 ≤ t → t < 25 → Aims t
  count : target_of t ≡ as_count (t - 25) → index_of t ≡ t - 13 → 25 ≤ t → t < 28 → Aims t
  presence : target_of t ≡ as_presence → 15 ≤ index_of t → Aims t

aims : (t : ℕ) → Aims t
unfolding target_of
aims t = go (ℕ_discrete t 0) (dec_lt t 13) (dec_lt t 25) (dec_lt t 28)
  where
    go : Dec (t ≡ 0) → Dec (t < 13) → Dec (t < 25) → Dec (t < 28) → Aims t
    go (yes e) p q r = nowhere (rw (eq-eqb t 0 e)) (rw (eq-eqb t 0 e))
    go (no e) (yes p) q r = number (rw (ne_eqb t 0 e, lt-ltb t 13 p)) (rw (ne_eqb t 0 e, lt-ltb t 13 p)) p
    go (no e) (no p) (yes q) r =
        let a = le-ltb t 13 (omega arith) in flag (rw (ne_eqb t 0 e, a, lt-ltb t 25 q)) (rw (ne_eqb t 0 e, a)) (omega arith) q
    go (no e) (no p) (no q) (yes r) =
        let a = le-ltb t 13 (omega arith) in
        let b = le-ltb t 25 (omega arith) in
        count (rw (ne_eqb t 0 e, a, b, lt-ltb t 28 r)) (rw (ne_eqb t 0 e, a)) (omega arith) r
    go (no e) (no p) (no q) (no r) =
        let a = le-ltb t 13 (omega arith) in
        let b = le-ltb t 25 (omega arith) in
        let d = le-ltb t 28 (omega arith) in
        presence (rw (ne_eqb t 0 e, a, b, d)) (rw (ne_eqb t 0 e, a) (omega arith))

module _ (ns : List ℕ) (t i : ℕ) (e : i ≡ index_of t) where
  count_index : index_of t ≡ t - 13 → 25 ≤ t → i ≡ 12 + (t - 25)
  count_index p h = omega (arith, e, p)

  pub value_in : i < 15 → get_or ns i 0 ≡ value_for ns (target_of t)
  unfolding value_for
  value_in h = go (aims t)
    where
      go : Aims t → get_or ns i 0 ≡ value_for ns (target_of t)
      go (nowhere a b) = let z : ⊥ = omega (arith, e, b) in absurd z
      go (number a b c) = rw a (ap (λ (j : ℕ). get_or ns j 0) (e ∙ b))
      go (flag a b c d) = rw a (ap (λ (j : ℕ). get_or ns j 0) (e ∙ b))
      go (count a b c d) = rw a (ap (λ (j : ℕ). get_or ns j 0) (count_index b c))
      go (presence a b) = let z : ⊥ = omega (arith, e, b) in absurd z

  pub value_out : 15 ≤ i → 0 ≡ value_for ns (target_of t)
  unfolding value_for
  value_out h = go (aims t)
    where
      go : Aims t → 0 ≡ value_for ns (target_of t)
      go (nowhere a b) = rw a
      go (number a b c) = let z : ⊥ = omega (arith, e, b) in absurd z
      go (flag a b c d) = let z : ⊥ = omega (arith, e, b) in absurd z
      go (count a b c d) = let z : ⊥ = omega (arith, e, b) in absurd z
      go (presence a b) = rw a

  flag_left : (x : ℕ) → pick (ltb 1 x) x 0 ≡ pick (leb x 1) 0 x
  flag_left x = go (dec_lt 1 x)
    where
      go : Dec (1 < x) → pick (ltb 1 x) x 0 ≡ pick (leb x 1) 0 x
      go (yes h) = rw (lt-ltb 1 x h, lt-leb x 1 h)
      go (no h) = rw (le-ltb 1 x (omega arith), le-leb x 1 (omega arith))

  module _ (l : List ℕ) where
    pub leave_in : i < 15 → (n : ℕ) → n ≡ left_of t (get_or ns i 0) → ListN.set l i n ≡ leave ns l (target_of t)
    unfolding leave
    leave_in h n f = go (aims t)
      where
        go : Aims t → ListN.set l i n ≡ leave ns l (target_of t)
        go (nowhere a b) = let z : ⊥ = omega (arith, e, b) in absurd z
        go (number a b c) = let g : n ≡ 0 = f ∙ rw (lt-leb 13 t c) in rw a (ap (λ (j : ℕ). ListN.set l j n) (e ∙ b) ∙ ap (ListN.set l (t - 1)) g)
        go (flag a b c d) =
            let j : i ≡ t - 13 = e ∙ b in
            let g : n ≡ pick (leb (get_or ns (t - 13) 0) 1) 0 (get_or ns (t - 13) 0) =
            f ∙ rw (le-leb 13 t c, lt-ltb t 25 d) (flag_left (get_or ns i 0) ∙ ap (λ (k : ℕ). pick (leb (get_or ns k 0) 1) 0 (get_or ns k 0)) j) in
            rw a (ap (λ (k : ℕ). ListN.set l k n) j ∙ ap (ListN.set l (t - 13)) g)
        go (count a b c d) =
            let j = count_index b c in
            let g : n ≡ 0 = f ∙ rw (le-ltb t 25 c, le-leb 13 t (omega arith)) in
            rw a (ap (λ (k : ℕ). ListN.set l k n) j ∙ ap (ListN.set l (12 + (t - 25))) g)
        go (presence a b) = let z : ⊥ = omega (arith, e, b) in absurd z

    pub leave_out : 15 ≤ i → l ≡ leave ns l (target_of t)
    unfolding leave
    leave_out h = go (aims t)
      where
        go : Aims t → l ≡ leave ns l (target_of t)
        go (nowhere a b) = rw a
        go (number a b c) = let z : ⊥ = omega (arith, e, b) in absurd z
        go (flag a b c d) = let z : ⊥ = omega (arith, e, b) in absurd z
        go (count a b c d) = let z : ⊥ = omega (arith, e, b) in absurd z
        go (presence a b) = rw a

-- ---- entries after an item
module _ (k n slots used left : ℕ) (e : left ≡ slots - used) where
  some : (m : ℕ) → strings_by k n ≡ m → m ≤ left → (r : ℕ) → r ≡ used + m → ok r ≡ strings_after k n slots used
  some m s h r f = rw (s, f, le-leb m (slots - used) (omega arith))

  none : (m : ℕ) → strings_by k n ≡ m → left < m → refused no_such_entry n 0 ≡ strings_after k n slots used
  none m s h = rw (s, lt-leb m (slots - used) (omega arith))

  pub text_none : k ≡ 2 → left < 1 → refused no_such_entry n 0 ≡ strings_after k n slots used
  text_none q h = none 1 (rw q) h

  pub text_some : k ≡ 2 → 1 ≤ left → ok (used + 1) ≡ strings_after k n slots used
  text_some q h = some 1 (rw q) h (used + 1) refl

  pub set_none : k ≡ 3 → left < n → refused no_such_entry n 0 ≡ strings_after k n slots used
  set_none q h = none n (rw q) h

  pub set_some : k ≡ 3 → n ≤ left → ok (used + n) ≡ strings_after k n slots used
  set_some q h = some n (rw q) h (used + n) refl

  pub pairs_none : k ≡ 4 → left / 2 < n → refused no_such_entry n 0 ≡ strings_after k n slots used
  pairs_none q h = none (n + n) (rw q) (omega arith)

  pub pairs_some : k ≡ 4 → n ≤ left / 2 → ok (used + 2 * n) ≡ strings_after k n slots used
  pairs_some q h = some (n + n) (rw q) (omega arith) (used + 2 * n) (omega arith)

  pub other_some : (k ≡ 2 → ⊥) → (k ≡ 3 → ⊥) → (k ≡ 4 → ⊥) → ok used ≡ strings_after k n slots used
  other_some a b c = some 0 (rw (ne_eqb k 2 a, ne_eqb k 3 b, ne_eqb k 4 c)) (omega arith) used (omega arith)

-- ---- bytes
-- a number has no strings
pub number_only : (k n slots used : ℕ) → k ≡ 1 → strings_after k n slots used ≡ ok used
number_only k n slots used e = rw e (go (leb 0 (slots - used)) (le-leb 0 (slots - used) (omega arith)))
  where
    go : (b : Bool) → b ≡ true → pick b (ok (used + 0)) (refused no_such_entry n 0) ≡ ok used
    go b q = rw q (ap ok (omega arith))

pub number_stays : (k n slots : ℕ) → k ≡ 1 → (o : Result ℕ) → o ≡ onward o (λ used. strings_after k n slots used)
number_stays k n slots e (ok used) = sym (number_only k n slots used e)
number_stays k n slots e (refused which place stream) = refl

pub bytes_none : (f k : ℕ) → has_number k ≡ false → (k ≡ 5 → ⊥) → 0 ≡ bytes_by f k
bytes_none f k e h = go (has_number k) e
  where
    go : (b : Bool) → b ≡ false → 0 ≡ pick b 8 (pick (eqb k 5) f 0)
    go b q = rw (q, ne_eqb k 5 h)
