-- `char_length` against the grammar's `UTF8-char`: where it says n > 0, the first n octets are a character (`begins`); and a list that begins with a
-- character has that character's length (`char_length_lem`).
use Prim.Native.Nat.{ℕ, ◌≤◌, ◌<◌}
use mathlib.Core.Bool.{Bool, true, false, ◌&&◌, cond}
use mathlib.Core.List.{List, [], ◌∷◌, ◌++◌}
use mathlib.Core.Path.{◌≡◌, refl}
use mathlib.Core.Logic.{◌↔◌, ◌≢◌}
use native.Mathlib.Omega.{arith}
use native.Mathlib.Decide.{ℕ_discrete, dec_lt}
use lib.ListN.{length, get_or, take}
use lib.Dec.{T, leb, leb→le, le→leb}
use borrow.Author.Tests.{le-leb, lt-leb, ne_eqb}
use Rattle.text.specs.Rfc3629.{In, UTF8-tail, UTF8-3, UTF8-4, UTF8-char}
use Rattle.text.specs.Rfc3629.UTF8-1.{00-7F}
use Rattle.text.specs.Rfc3629.UTF8-2.{C2-DF}
use Rattle.text.specs.Rfc3629.UTF8-3.{E0, E1-EC, ED, EE-EF}
use Rattle.text.specs.Rfc3629.UTF8-4.{F0, F1-F3, F4}
use Rattle.text.specs.Rfc3629.UTF8-char.{one, two, three, four}
use Rattle.text.specs.Prefix.{within, low, high, is_two, is_three, is_four, longer, char_length}

-- ---- tests, as facts
pub T_and : (x y : Bool) → T (x && y) ↔ (T x × T y)
T_and true y = (λ t. (tt, t), λ t. t.1)
T_and false y = (λ t. absurd t, λ t. t.0)

pub T_leb : (m n : ℕ) → T (leb m n) ↔ (m ≤ n)
T_leb m n = (leb→le m n, le→leb m n)

pub ruleset facts = (T_and, T_leb)

by_cond : (P : ℕ → Type 0) (t : Bool) {x y : ℕ} → (T t → P x) → P y → P (cond t x y)
by_cond P true f g = f tt
by_cond P false f g = g

range_in : {lo hi b : ℕ} → In lo hi b → within lo hi b ≡ true
range_in {lo} {hi} {b} h = simp (le-leb lo b h.from, le-leb b hi h.to)

-- any first octet but the four that narrow it leaves the second the whole range
low_else : (a : ℕ) → (a ≡ 0xE0 → ⊥) → (a ≡ 0xF0 → ⊥) → low a ≡ 0x80
unfolding low
low_else a p q = simp (ne_eqb a 0xE0 p, ne_eqb a 0xF0 q)

high_else : (a : ℕ) → (a ≡ 0xED → ⊥) → (a ≡ 0xF4 → ⊥) → high a ≡ 0xBF
unfolding high
high_else a p q = simp (ne_eqb a 0xED p, ne_eqb a 0xF4 q)

-- ---- what begins with n > 0
three_char : (a b c : ℕ) → In 0xE0 0xEF a → In (low a) (high a) b → UTF8-tail c → UTF8-3 (a ∷ b ∷ c ∷ [])
unfolding low high
three_char a b c ha hb hc = go (ℕ_discrete a 0xE0) (ℕ_discrete a 0xED) (dec_lt a 0xED)
  where
    wide : (a ≡ 0xE0 → ⊥) → (a ≡ 0xED → ⊥) → UTF8-tail b
    wide p q = rw (low_else a p (omega arith), high_else a q (omega arith)) at hb

    go : Dec (a ≡ 0xE0) → Dec (a ≡ 0xED) → Dec (a < 0xED) → UTF8-3 (a ∷ b ∷ c ∷ [])
    go (yes e) q l = rw e (E0 (rw e at hb) hc)
    go (no p) (yes e) l = rw e (ED (rw e at hb) hc)
    go (no p) (no q) (yes l) = E1-EC {a = a} (omega arith) (wide p q) hc
    go (no p) (no q) (no l) = EE-EF {a = a} (omega arith) (wide p q) hc

four_char : (a b c d : ℕ) → In 0xF0 0xF4 a → In (low a) (high a) b → UTF8-tail c → UTF8-tail d → UTF8-4 (a ∷ b ∷ c ∷ d ∷ [])
unfolding low high
four_char a b c d ha hb hc hd = go (ℕ_discrete a 0xF0) (ℕ_discrete a 0xF4)
  where
    go : Dec (a ≡ 0xF0) → Dec (a ≡ 0xF4) → UTF8-4 (a ∷ b ∷ c ∷ d ∷ [])
    go (yes e) q = rw e (F0 (rw e at hb) hc hd)
    go (no p) (yes e) = rw e (F4 (rw e at hb) hc hd)
    go (no p) (no q) = F1-F3 {a = a} (omega arith) (rw (low_else a (omega arith) p, high_else a (omega arith) q) at hb) hc hd

-- the first n octets of s are a character, or n is 0
pub data Begins (s : List ℕ) (n : ℕ) : Type 0 where
  nothing : n ≡ 0 → Begins s n
  char : n ≤ length s → UTF8-char (take n s) → Begins s n

begins_two : (a : ℕ) (r : List ℕ) → T (is_two a (get_or r 0 0)) → Begins (a ∷ r) 2
begins_two a [] t = let h = simp facts at t in absurd (omega arith)
begins_two a (b ∷ r) t = let h = simp facts at t in char (omega arith) (two (C2-DF {a = a} {b = b} (omega arith) (omega arith)))

begins_three : (a : ℕ) (r : List ℕ) → T (is_three a (get_or r 0 0) (get_or r 1 0)) → Begins (a ∷ r) 3
begins_three a [] t = let h = simp facts at t in absurd (omega arith)
begins_three a (b ∷ []) t = let h = simp facts at t in absurd (omega arith)
begins_three a (b ∷ c ∷ r) t = let h = simp facts at t in char (omega arith) (three (three_char a b c (omega arith) (omega arith) (omega arith)))

begins_four : (a : ℕ) (r : List ℕ) → T (is_four a (get_or r 0 0) (get_or r 1 0) (get_or r 2 0)) → Begins (a ∷ r) 4
begins_four a [] t = let h = simp facts at t in absurd (omega arith)
begins_four a (b ∷ []) t = let h = simp facts at t in absurd (omega arith)
begins_four a (b ∷ c ∷ []) t = let h = simp facts at t in absurd (omega arith)
begins_four a (b ∷ c ∷ d ∷ r) t =
    let h = simp facts at t in
    char (omega arith) (four (four_char a b c d (omega arith) (omega arith) (omega arith) (omega arith)))

pub begins : (s : List ℕ) → Begins s (char_length s)
unfolding char_length longer
begins [] = nothing refl
begins (a ∷ r) =
    by_cond P (leb a 0x7F) (λ t. char (omega arith) (one (00-7F {a = a} (omega (arith, leb→le)))))
    (by_cond P (is_two a (get_or r 0 0)) (begins_two a r)
    (by_cond P (is_three a (get_or r 0 0) (get_or r 1 0)) (begins_three a r)
    (by_cond P (is_four a (get_or r 0 0) (get_or r 1 0) (get_or r 2 0)) (begins_four a r) (nothing refl))))
  where
    P : ℕ → Type 0
    P n = Begins (a ∷ r) n

-- ---- a character has its length
two_is : {a b : ℕ} (t : List ℕ) → In 0xC2 0xDF a → UTF8-tail b → char_length (a ∷ b ∷ t) ≡ 2
unfolding char_length longer
two_is {a} t ha hb = simp (lt-leb a 0x7F (omega arith), range_in ha, range_in hb)

three_is : (a : ℕ) {b c : ℕ} (t : List ℕ) → In 0xE0 0xEF a → In (low a) (high a) b → UTF8-tail c → char_length (a ∷ b ∷ c ∷ t) ≡ 3
unfolding char_length longer
three_is a t ha hb hc =
    simp (lt-leb a 0x7F (omega arith), le-leb 0xC2 a (omega arith), lt-leb a 0xDF (omega arith), range_in ha, range_in hb, range_in hc)

four_is : (a : ℕ) {b c d : ℕ} (t : List ℕ) → In 0xF0 0xF4 a → In (low a) (high a) b → UTF8-tail c → UTF8-tail d → char_length (a ∷ b ∷ c ∷ d ∷ t) ≡ 4
unfolding char_length longer
four_is a t ha hb hc hd =
    simp
    (lt-leb a 0x7F (omega arith), le-leb 0xC2 a (omega arith), lt-leb a 0xDF (omega arith), le-leb 0xE0 a (omega arith), lt-leb a 0xEF (omega arith), range_in ha, range_in hb, range_in hc, range_in hd)

wide : (a : ℕ) {b : ℕ} → (a ≢ 0xE0) × (a ≢ 0xED) × (a ≢ 0xF0) × (a ≢ 0xF4) → UTF8-tail b → In (low a) (high a) b
wide a p h = rw (low_else a p.0 p.2, high_else a p.1 p.3) h

pub char_length_lem : {c : List ℕ} → UTF8-char c → (t : List ℕ) → char_length (c ++ t) ≡ length c
unfolding char_length low high
char_length_lem (one (00-7F {a} ha)) t = simp (le-leb a 0x7F ha.to)
char_length_lem (two (C2-DF ha hb)) t = two_is t ha hb
char_length_lem (three (E0 hb hc)) t = three_is 0xE0 t (omega arith) hb hc
char_length_lem (three (E1-EC {a} ha hb hc)) t = three_is a t (omega arith) (wide a (omega arith) hb) hc
char_length_lem (three (ED hb hc)) t = three_is 0xED t (omega arith) hb hc
char_length_lem (three (EE-EF {a} ha hb hc)) t = three_is a t (omega arith) (wide a (omega arith) hb) hc
char_length_lem (four (F0 hb hc hd)) t = four_is 0xF0 t (omega arith) hb hc hd
char_length_lem (four (F1-F3 {a} ha hb hc hd)) t = four_is a t (omega arith) (wide a (omega arith) hb) hc hd
char_length_lem (four (F4 hb hc hd)) t = four_is 0xF4 t (omega arith) hb hc hd
