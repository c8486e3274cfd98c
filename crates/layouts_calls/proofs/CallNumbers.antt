-- The fifteen numbers of a call, as its pieces set them one by one: each field has its own place among them, so none is set twice, and what no field takes
-- stays 0. So the writer's 14 does not hold of what was read.
use Prim.Native.Nat.{ℕ, zero, suc, ◌+◌, ◌≤◌, ◌<◌}
use mathlib.Core.Path.{◌≡◌, refl, sym, ◌∙◌, ap}
use mathlib.Core.List.{List, [], ◌∷◌, ◌++◌}
use mathlib.Core.Bool.{Bool, true, false}
use lib.ListN.{length, get_or, length-set}
use lib.ListN as ListN
use lib.Seq.{set-append_left, get_or-set_same, get_or-set_other}
use lib.Dec.{ltb, eqb}
use borrow.Author.Tests.{not-true, ltb-true, eqb-true, eqb-false, le-leb}
use native.Mathlib.Omega.{arith}
use Rattle.layouts.specs.declared.Record.{Record}
use Rattle.layouts.specs.Primitive.{pick}
use Rattle.layouts.specs.Shape.{Target, dropped, as_number, as_flag, as_count, as_presence, What, truth, Tree}
use Rattle.layouts.specs.Pieces.{Pieces, number, text, half, chunk, end, fault}
use Rattle.layouts.specs.Grammar.{Says, says_number, says_text, says_chunk, says_last, says_end}
use Rattle.layouts.specs.Record.{noted, entered, with_payload, record_of}
use Rattle.layouts.specs.CallWriter.{value_for, target_in, leave, left_by, all_zero}
use Rattle.layouts.proofs.Theorems.{never_true}
use Rattle.layouts_calls.specs.CallOurs.{OurNumber}
use Rattle.layouts_calls.proofs.Writable.{either, in_record, takes, taken, free}
use Rattle.layouts_calls.proofs.CallFields.{set_append_right}

-- ---- the numbers that pieces make
abbrev pub put : List ℕ → Target → ℕ → List ℕ
put l dropped x = l
put l (as_number i) x = pick (ltb i 12) (ListN.set l i x) l
put l (as_flag i) x = pick (ltb i 12) (ListN.set l i (truth x)) l
put l (as_count i) x = pick (ltb i 3) (ListN.set l (12 + i) x) l
put l as_presence x = l

unfoldable pub numbers_of : List ℕ → Pieces → List ℕ
numbers_of l (number i place n p) = numbers_of (put l i n) p
numbers_of l (text m start len p) = numbers_of l p
numbers_of l (half m start len) = l
numbers_of l (chunk start len p) = numbers_of l p
numbers_of l (end place) = l
numbers_of l (fault which place) = l

pub put_length : (l : List ℕ) (t : Target) (x : ℕ) → length (put l t x) ≡ length l
put_length l dropped x = refl
put_length l (as_number i) x = either (λ (m : List ℕ). length m ≡ length l) (ltb i 12) _ _ (length-set l i x) refl
put_length l (as_flag i) x = either (λ (m : List ℕ). length m ≡ length l) (ltb i 12) _ _ (length-set l i (truth x)) refl
put_length l (as_count i) x = either (λ (m : List ℕ). length m ≡ length l) (ltb i 3) _ _ (length-set l (12 + i) x) refl
put_length l as_presence x = refl

set_other : (l : List ℕ) (i j x : ℕ) → eqb i j ≡ false → get_or (ListN.set l i x) j 0 ≡ get_or l j 0
set_other l i j x e = get_or-set_other l i j x 0 (λ q. eqb-false i j e (sym q))

pub put_other : (l : List ℕ) (t : Target) (x j : ℕ) → takes t j ≡ false → get_or (put l t x) j 0 ≡ get_or l j 0
put_other l dropped x j e = refl
put_other l (as_number i) x j e = either (λ (m : List ℕ). get_or m j 0 ≡ get_or l j 0) (ltb i 12) _ _ (set_other l i j x e) refl
put_other l (as_flag i) x j e = either (λ (m : List ℕ). get_or m j 0 ≡ get_or l j 0) (ltb i 12) _ _ (set_other l i j (truth x) e) refl
put_other l (as_count i) x j e = either (λ (m : List ℕ). get_or m j 0 ≡ get_or l j 0) (ltb i 3) _ _ (set_other l (12 + i) j x e) refl
put_other l as_presence x j e = refl

low_truth : (n : ℕ) → n ≤ 1 → truth n ≡ n
low_truth zero h = refl
low_truth (suc zero) h = refl
low_truth (suc (suc n)) h = absurd (omega arith)

-- a number that is put at a target's place is the one that is written for it
put_value : (l : List ℕ) (t : Target) (n : ℕ) → in_record t ≡ true → length l ≡ 15 → OurNumber t n → value_for (put l t n) t ≡ n
unfolding value_for
put_value l dropped n e h o = sym o
put_value l (as_number i) n e h o = let z = ltb-true i 12 e in rw e (get_or-set_same l i n 0 (omega arith))
put_value l (as_flag i) n e h o = let z = ltb-true i 12 e in rw e (get_or-set_same l i (truth n) 0 (omega arith) ∙ low_truth n o)
put_value l (as_count i) n e h o = let z = ltb-true i 3 e in rw e (get_or-set_same l (12 + i) n 0 (omega arith))
put_value l as_presence n e h o = absurd (never_true e)

-- and it stays, where nothing that follows takes its place
pub value_stays : (l ns : List ℕ) (t : Target) (n : ℕ) (ws : List What) → in_record t ≡ true → free t ws ≡ true → length l ≡ 15 → OurNumber t n
    → ((j : ℕ) → taken ws j ≡ false → get_or ns j 0 ≡ get_or (put l t n) j 0) → value_for ns t ≡ n
unfolding value_for
value_stays l ns dropped n ws e f h o g = sym o
value_stays l ns (as_number i) n ws e f h o g = g i (not-true (taken ws i) f) ∙ put_value l (as_number i) n e h o
value_stays l ns (as_flag i) n ws e f h o g = g i (not-true (taken ws i) f) ∙ put_value l (as_flag i) n e h o
value_stays l ns (as_count i) n ws e f h o g = g (12 + i) (not-true (taken ws (12 + i)) f) ∙ put_value l (as_count i) n e h o
value_stays l ns as_presence n ws e f h o g = absurd (never_true e)

pub numbers_length : (l : List ℕ) (p : Pieces) → length (numbers_of l p) ≡ length l
unfolding numbers_of
numbers_length l (number i place n p) = numbers_length (put l i n) p ∙ put_length l i n
numbers_length l (text m start len p) = numbers_length l p
numbers_length l (half m start len) = refl
numbers_length l (chunk start len p) = numbers_length l p
numbers_length l (end place) = refl
numbers_length l (fault which place) = refl

-- ---- every number that is read has eight bytes
set_keeps : (P : ℕ → Type 0) (l : List ℕ) (i j x : ℕ) → P (get_or l j 0) → P x → P (get_or (ListN.set l i x) j 0)
set_keeps P [] i j x h g = h
set_keeps P (y ∷ l) zero zero x h g = g
set_keeps P (y ∷ l) zero (suc j) x h g = h
set_keeps P (y ∷ l) (suc i) zero x h g = h
set_keeps P (y ∷ l) (suc i) (suc j) x h g = set_keeps P l i j x h g

abbrev pub Small : ℕ → Type 0
Small n = n < 18446744073709551616

truth_small : (n : ℕ) → Small n → Small (truth n)
truth_small zero h = h
truth_small (suc n) h = omega arith

put_small : (l : List ℕ) (t : Target) (x j : ℕ) → Small (get_or l j 0) → Small x → Small (get_or (put l t x) j 0)
put_small l dropped x j h g = h
put_small l (as_number i) x j h g = either (λ (m : List ℕ). Small (get_or m j 0)) (ltb i 12) _ _ (set_keeps Small l i j x h g) h
put_small l (as_flag i) x j h g = either (λ (m : List ℕ). Small (get_or m j 0)) (ltb i 12) _ _ (set_keeps Small l i j (truth x) h (truth_small x g)) h
put_small l (as_count i) x j h g = either (λ (m : List ℕ). Small (get_or m j 0)) (ltb i 3) _ _ (set_keeps Small l (12 + i) j x h g) h
put_small l as_presence x j h g = h

pub numbers_small : {t : Tree} {at : ℕ} {b : List ℕ} {p : Pieces} → Says t at b p → (l : List ℕ) (j : ℕ) → Small (get_or l j 0) → Small (get_or (numbers_of l p) j 0)
unfolding numbers_of
numbers_small (says_number i n at k b p h y) l j g = numbers_small y (put l i n) j (put_small l i n j g h)
numbers_small (says_text m at k c pad b p h q y) l j g = numbers_small y l j g
numbers_small (says_chunk at k c b p z h y) l j g = numbers_small y l j g
numbers_small (says_last at k b p y) l j g = numbers_small y l j g
numbers_small (says_end at) l j g = g

-- ---- the numbers of a record, its counts behind them
abbrev pub all_of : Record → List ℕ
all_of r = r.numbers ++ r.counts

module _ (r : Record) (h : length r.numbers ≡ 12) where
  number_all : (i x : ℕ) → (all_of (noted r (as_number i) x) ≡ put (all_of r) (as_number i) x) × (length (noted r (as_number i) x).numbers ≡ 12)
  unfolding noted
  number_all i x = by (ltb i 12) refl
    where
      by : (b : Bool) → ltb i 12 ≡ b
          → (pick b (ListN.set r.numbers i x) r.numbers ++ r.counts ≡ pick b (ListN.set (all_of r) i x) (all_of r))
          × (length (pick b (ListN.set r.numbers i x) r.numbers) ≡ 12)
      by true e = let z = ltb-true i 12 e in (sym (set-append_left r.numbers r.counts i x (omega arith)), length-set r.numbers i x ∙ h)
      by false e = (refl, h)

  count_all : (b : Bool) (i x : ℕ) → r.numbers ++ pick b (ListN.set r.counts i x) r.counts ≡ pick b (ListN.set (all_of r) (12 + i) x) (all_of r)
  count_all true i x = sym (rw h at (set_append_right r.numbers r.counts i x))
  count_all false i x = refl

  noted_all : (t : Target) (x : ℕ) → (all_of (noted r t x) ≡ put (all_of r) t x) × (length (noted r t x).numbers ≡ 12)
  unfolding noted
  noted_all dropped x = (refl, h)
  noted_all (as_number i) x = number_all i x
  noted_all (as_flag i) x = number_all i (truth x)
  noted_all (as_count i) x = (count_all (ltb i 3) i x, h)
  noted_all as_presence x = (refl, h)

pub record_all : (r : Record) (p : Pieces) → length r.numbers ≡ 12 → all_of (record_of r p) ≡ numbers_of (all_of r) p
unfolding record_of numbers_of entered
record_all r (number i place n p) h =
    let a = noted_all r h i n in
    record_all (noted r i n) p a.1 ∙ ap (λ (l : List ℕ). numbers_of l p) a.0
record_all r (text m start len p) h = record_all (entered r m) p h
record_all r (half m start len) h = refl
record_all r (chunk start len p) h = record_all (with_payload r (r.payload + len)) p h
record_all r (end place) h = refl
record_all r (fault which place) h = refl

-- ---- 14
-- each number that a field takes is as the writer of calls has it
abbrev pub OurNumbers : List ℕ → List What → Type 0
OurNumbers ns [] = Unit {0}
OurNumbers ns (w ∷ ws) = OurNumber (target_in w) (value_for ns (target_in w)) × OurNumbers ns ws

pub all_zero_lem : (n : ℕ) (l : List ℕ) → ((j : ℕ) → get_or l j 0 ≡ 0) → all_zero n l ≡ true
unfolding all_zero
all_zero_lem zero l g = refl
all_zero_lem (suc n) l g = rw (all_zero_lem n l g, g n)

set_zero : (l : List ℕ) (i : ℕ) → get_or (ListN.set l i 0) i 0 ≡ 0
set_zero [] i = refl
set_zero (n ∷ l) zero = refl
set_zero (n ∷ l) (suc i) = set_zero l i

module _ (ns left : List ℕ) (j : ℕ) where
  -- a place is cleared, or left as it was
  cleared : (i : ℕ) → (eqb i j ≡ false → get_or left j 0 ≡ 0) → get_or (ListN.set left i 0) j 0 ≡ 0
  cleared i g = by (eqb i j) refl
    where
      by : (b : Bool) → eqb i j ≡ b → get_or (ListN.set left i 0) j 0 ≡ 0
      by true e = rw (← (eqb-true i j e)) (set_zero left i)
      by false e = set_other left i j 0 e ∙ g e

  leave_zero : (t : Target) → OurNumber t (value_for ns t) → (takes t j ≡ false → get_or left j 0 ≡ 0) → get_or (leave ns left t) j 0 ≡ 0
  unfolding leave value_for
  leave_zero dropped o g = g refl
  leave_zero (as_number i) o g = cleared i g
  leave_zero (as_flag i) o g = rw (le-leb (get_or ns i 0) 1 o) (cleared i g)
  leave_zero (as_count i) o g = cleared (12 + i) g
  leave_zero as_presence o g = g refl

pub left_zero : (ns left : List ℕ) (ws : List What) → OurNumbers ns ws → ((j : ℕ) → taken ws j ≡ false → get_or left j 0 ≡ 0) → (j : ℕ) → get_or (left_by ns left ws) j 0 ≡ 0
unfolding left_by
left_zero ns left [] o g j = g j refl
left_zero ns left (w ∷ ws) o g j =
    left_zero ns (leave ns left (target_in w)) ws o.1 (λ k h. leave_zero ns left k (target_in w) o.0 (λ e. g k (rw e h))) j
