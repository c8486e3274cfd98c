-- What each node of a tree hands on holds of every layout: a layout fails of itself at a position alone, and one without framed data has no payload.
use Prim.Native.Nat.{ℕ, zero, suc, ◌+◌}
use mathlib.Core.Path.{◌≡◌, refl, sym, subst}
use mathlib.Core.List.{List, [], ◌∷◌}
use mathlib.Core.Bool.{Bool, true, false}
use lib.ListN.{length}
use Rattle.layouts.specs.Primitive.{Version, number_at, nonzero_position}
use Rattle.layouts.specs.Shape.{Target, dropped, Role, passed, What, num, str, set, pairs, framed, maybe, typed, position, Gated, Group, once, opt, many, Tree, ask, say, frames, fail, stop, strings, units, if_true, by_type, if_zero, field, there, what, gated, fields, repeated, truth, group, groups, layout}
use Rattle.layouts.specs.Pieces.{Pieces, Num, Text, after_num, after_text, run, total_of}
use Rattle.layouts.proofs.Views.{NumView, is_value, is_short, TextView, no_length, too_long_there, no_contents, no_padding, is_whole, num_view, text_view}
use Rattle.layouts.proofs.Placed.{Fails, FailsBy15}

-- F holds where a field is framed data
abbrev Fits : Type 0 → What → Type 0
Fits F (num i) = Unit {0}
Fits F (str r) = Unit {0}
Fits F (set r i) = Unit {0}
Fits F (pairs r i) = Unit {0}
Fits F framed = F
Fits F maybe = Unit {0}
Fits F typed = Unit {0}
Fits F position = Unit {0}

abbrev pub AllFit : Type 0 → List Gated → Type 0
AllFit F [] = Unit {0}
AllFit F (x ∷ is) = Fits F (what x) × AllFit F is

abbrev pub GroupsFit : Type 0 → List Group → Type 0
GroupsFit F [] = Unit {0}
GroupsFit F (once is ∷ gs) = AllFit F is × GroupsFit F gs
GroupsFit F (opt i is ∷ gs) = AllFit F is × GroupsFit F gs
GroupsFit F (many i is ∷ gs) = AllFit F is × GroupsFit F gs

module _ (F : Type 0) (P : Tree → Type 0) (asks : (i : Target) (k : ℕ → Tree) → ((n : ℕ) → P (k n)) → P (ask i k))
    (tests : (k : Unit {0} → Tree) → P (k tt) → P (ask dropped (λ n. if_zero n k))) (says : (m : Role) (k : Unit {0} → Tree) → P (k tt) → P (say m k))
    (framing : F → (k : Unit {0} → Tree) → P (k tt) → P (frames k)) where
  of_strings : (r : Role) (n : ℕ) (k : Unit {0} → Tree) → P (k tt) → P (strings r n k)
  unfolding strings
  of_strings r zero k h = h
  of_strings r (suc n) k h = says r (λ u. strings r n k) (of_strings r n k h)

  of_units : (r : Role) (e n : ℕ) (k : Unit {0} → Tree) → P (k tt) → P (units r e n k)
  unfolding units
  of_units r e zero k h = h
  of_units r e (suc n) k h = of_strings r (suc e) (λ u. units r e n k) (of_units r e n k h)

  of_maybe : (n : ℕ) (k : Unit {0} → Tree) → P (k tt) → P (if_true n k)
  of_maybe zero k h = h
  of_maybe (suc n) k h = asks dropped (λ v. k tt) (λ v. h)

  of_typed : (n : ℕ) (k : Unit {0} → Tree) → P (k tt) → P (by_type n k)
  of_typed zero k h = asks dropped (λ v. k tt) (λ v. h)
  of_typed (suc n) k h = says passed k h

  of_field : (b : Bool) (w : What) (k : Unit {0} → Tree) → Fits F w → P (k tt) → P (gated b w k)
  unfolding gated field
  of_field false w k f h = h
  of_field true (num i) k f h = asks i (λ n. k tt) (λ n. h)
  of_field true (str r) k f h = says r k h
  of_field true (set r i) k f h = asks i (λ n. units r 0 n k) (λ n. of_units r 0 n k h)
  of_field true (pairs r i) k f h = asks i (λ n. units r 1 n k) (λ n. of_units r 1 n k h)
  of_field true framed k f h = framing f k h
  of_field true maybe k f h = asks dropped (λ n. if_true n k) (λ n. of_maybe n k h)
  of_field true typed k f h = asks dropped (λ n. by_type n k) (λ n. of_typed n k h)
  of_field true position k f h = tests k h

  module _ (v : Version) where
    pub of_fields : (is : List Gated) (k : Unit {0} → Tree) → AllFit F is → P (k tt) → P (fields v is k)
    unfolding fields
    of_fields [] k f h = h
    of_fields (x ∷ is) k f h = of_field (there v x) (what x) (λ u. fields v is k) f.0 (of_fields is k f.1 h)

    of_repeated : (n : ℕ) (is : List Gated) (k : Unit {0} → Tree) → AllFit F is → P (k tt) → P (repeated n v is k)
    unfolding repeated
    of_repeated zero is k f h = h
    of_repeated (suc n) is k f h = of_fields is (λ u. repeated n v is k) f (of_repeated n is k f h)

    of_groups : (gs : List Group) (k : Unit {0} → Tree) → GroupsFit F gs → P (k tt) → P (groups v gs k)
    unfolding groups group
    of_groups [] k f h = h
    of_groups (once is ∷ gs) k f h = of_fields is (λ u. groups v gs k) f.0 (of_groups gs k f.1 h)
    of_groups (opt i is ∷ gs) k f h =
        asks i (λ n. repeated (truth n) v is (λ u. groups v gs k)) (λ n. of_repeated (truth n) is (λ u. groups v gs k) f.0 (of_groups gs k f.1 h))
    of_groups (many i is ∷ gs) k f h =
        asks i (λ n. repeated n v is (λ u. groups v gs k)) (λ n. of_repeated n is (λ u. groups v gs k) f.0 (of_groups gs k f.1 h))

-- ---- a layout fails of itself at a position alone
fits : (w : What) → Fits (Unit {0}) w
fits (num i) = tt
fits (str r) = tt
fits (set r i) = tt
fits (pairs r i) = tt
fits framed = tt
fits maybe = tt
fits typed = tt
fits position = tt

all_fit : (is : List Gated) → AllFit (Unit {0}) is
all_fit [] = tt
all_fit (x ∷ is) = (fits (what x), all_fit is)

groups_fit : (gs : List Group) → GroupsFit (Unit {0}) gs
groups_fit [] = tt
groups_fit (once is ∷ gs) = (all_fit is, groups_fit gs)
groups_fit (opt i is ∷ gs) = (all_fit is, groups_fit gs)
groups_fit (many i is ∷ gs) = (all_fit is, groups_fit gs)

asked : (t : Tree) → FailsBy15 t → Fails true t
asked (ask i k) f = f
asked (say m k) f = f
asked (frames k) f = f
asked (fail which back) f = absurd f
asked stop f = f

not_zero : (n : ℕ) (k : Unit {0} → Tree) → if_zero (suc n) k ≡ fail nonzero_position 8
not_zero n k = refl

tested : (k : Unit {0} → Tree) → FailsBy15 (k tt) → (n : ℕ) → Fails true (if_zero n k)
tested k f zero = asked (k tt) f
tested k f (suc n) = subst (Fails true) (sym (not_zero n k)) (refl, refl)

pub layout_fails_by_15 : (v : Version) (gs : List Group) → FailsBy15 (layout v gs)
unfolding layout
layout_fails_by_15 v gs = of_groups (Unit {0}) FailsBy15 (λ i k h n. asked (k n) (h n)) tested (λ m k h. h) (λ f k h. h) v gs (λ u. stop) (groups_fit gs) tt

-- ---- without framed data there is no payload
NoPayload : Tree → Type 0
NoPayload t = (s : List ℕ) (at : ℕ) → total_of (run t s at) ≡ 0

num_payload : {size n at : ℕ} {m : Num} (i : Target) (k : ℕ → Pieces) → NumView size n at m → total_of (k n) ≡ 0 → total_of (after_num m i at k) ≡ 0
unfolding after_num total_of
num_payload i k (is_value h) e = e
num_payload i k (is_short h) e = refl

text_payload : {size n at : ℕ} {m : Text} (r : Role) (k : ℕ → Pieces) → TextView size n at m → ((a : ℕ) → total_of (k a) ≡ 0) → total_of (after_text m r k) ≡ 0
unfolding after_text total_of
text_payload r k (no_length h) e = refl
text_payload r k (too_long_there h l) e = refl
text_payload r k (no_contents h l c) e = refl
text_payload r k (no_padding h l c) e = refl
text_payload r k (is_whole h l) e = e _

zero_payload : (n : ℕ) (k : Unit {0} → Tree) → NoPayload (k tt) → NoPayload (if_zero n k)
unfolding NoPayload run total_of
zero_payload zero k h s at = h s at
zero_payload (suc n) k h s at = refl

pub groups_no_payload : (v : Version) (gs : List Group) → GroupsFit ⊥ gs → (s : List ℕ) (at : ℕ) → total_of (run (layout v gs) s at) ≡ 0
unfolding layout run NoPayload total_of
groups_no_payload v gs f =
    of_groups ⊥ NoPayload
    (λ i k h s at. num_payload i (λ n. run (k n) s _) (num_view (length s) (number_at s at) at) (h _ s _))
    (λ k h s at. num_payload dropped (λ n. run (if_zero n k) s (at + 8)) (num_view (length s) (number_at s at) at) (zero_payload (number_at s at) k h s (at + 8)))
    (λ m k h s at. text_payload m (λ a. run (k tt) s a) (text_view (length s) (number_at s at) at) (λ a. h s a))
    (λ f k h. absurd f) v gs (λ u. stop) f (λ s at. refl)

pub no_payload : (v : Version) (is : List Gated) → AllFit ⊥ is → (s : List ℕ) (at : ℕ) → total_of (run (layout v (once is ∷ [])) s at) ≡ 0
no_payload v is f = groups_no_payload v (once is ∷ []) (f, tt)
