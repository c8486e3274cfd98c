-- Shapes: what a layout has, field by field, with its version gates. A shape becomes a tree: what is read next, and what follows by the number read.
use Rattle.std.specs.Prelude.{ℕ, zero, suc, List, [], ◌∷◌, Bool, true, false, not, ◌&&◌}
use Rattle.layouts.specs.Primitive.{Version, version, at_least, nonzero_position}

-- what becomes of a number: nothing; it is number i of the record; the same, as a flag; count i; it says whether a group is there
pub data Target : Type 0 where
  dropped : Target
  as_number : ℕ → Target
  as_flag : ℕ → Target
  as_count : ℕ → Target
  as_presence : Target

-- what becomes of a string: it is passed over; its text is checked; that and it has an entry
pub data Role : Type 0 where
  passed : Role
  checked : Role
  kept : Role

-- a field: N; S; S*; P; F; a flag with N if it is true; a type with N if it is 0 and else s; a position, a number that must be 0
pub data What : Type 0 where
  num : Target → What
  str : Role → What
  set : Role → Target → What
  pairs : Role → Target → What
  framed : What
  maybe : What
  typed : What
  position : What

-- always there; there from version 1.x on; there below it; there from 1.x on and below 1.y
pub data Gated : Type 0 where
  always : What → Gated
  from : ℕ → What → Gated
  below : ℕ → What → Gated
  between : (x y : ℕ) → What → Gated

-- a run of fields: once; once if a flag is true; as often as a count says
pub data Group : Type 0 where
  once : List Gated → Group
  opt : Target → List Gated → Group
  many : Target → List Gated → Group

-- ask for a number; say a string; frames; fail, so many bytes back; stop. The functions keep what follows from being computed before it is asked for
pub data Tree : Type 0 where
  ask : Target → (ℕ → Tree) → Tree
  say : Role → (Unit {0} → Tree) → Tree
  frames : (Unit {0} → Tree) → Tree
  fail : (which back : ℕ) → Tree
  stop : Tree

-- n strings
unfoldable pub strings : Role → (n : ℕ) → (Unit {0} → Tree) → Tree
strings r zero k = k tt
strings r (suc n) k = say r (λ u. strings r n k)

-- n times e + 1 strings
unfoldable pub units : Role → (e n : ℕ) → (Unit {0} → Tree) → Tree
unfolding strings
units r e zero k = k tt
units r e (suc n) k = strings r (suc e) (λ u. units r e n k)

abbrev pub if_true : ℕ → (Unit {0} → Tree) → Tree
if_true zero k = k tt
if_true (suc n) k = ask dropped (λ v. k tt)

abbrev pub by_type : ℕ → (Unit {0} → Tree) → Tree
by_type zero k = ask dropped (λ v. k tt)
by_type (suc n) k = say passed k

-- refused at the number itself, which is 8 bytes
abbrev pub if_zero : ℕ → (Unit {0} → Tree) → Tree
if_zero zero k = k tt
if_zero (suc n) k = fail nonzero_position 8

unfoldable pub field : What → (Unit {0} → Tree) → Tree
unfolding units
field (num i) k = ask i (λ n. k tt)
field (str r) k = say r k
field (set r i) k = ask i (λ n. units r 0 n k)
field (pairs r i) k = ask i (λ n. units r 1 n k)
field framed k = frames k
field maybe k = ask dropped (λ n. if_true n k)
field typed k = ask dropped (λ n. by_type n k)
field position k = ask dropped (λ n. if_zero n k)

abbrev pub there : Version → Gated → Bool
there v (always w) = true
there v (from x w) = at_least v (version 1 x)
there v (below x w) = not (at_least v (version 1 x))
there v (between x y w) = at_least v (version 1 x) && not (at_least v (version 1 y))

abbrev pub what : Gated → What
what (always w) = w
what (from x w) = w
what (below x w) = w
what (between x y w) = w

unfoldable pub gated : Bool → What → (Unit {0} → Tree) → Tree
unfolding field
gated true w k = field w k
gated false w k = k tt

unfoldable pub fields : Version → List Gated → (Unit {0} → Tree) → Tree
unfolding gated
fields v [] k = k tt
fields v (x ∷ is) k = gated (there v x) (what x) (λ u. fields v is k)

-- the fields n times
unfoldable pub repeated : ℕ → Version → List Gated → (Unit {0} → Tree) → Tree
unfolding fields
repeated zero v is k = k tt
repeated (suc n) v is k = fields v is (λ u. repeated n v is k)

abbrev pub truth : ℕ → ℕ
truth zero = 0
truth (suc n) = 1

unfoldable pub group : Version → Group → (Unit {0} → Tree) → Tree
unfolding repeated
group v (once is) k = fields v is k
group v (opt i is) k = ask i (λ n. repeated (truth n) v is k)
group v (many i is) k = ask i (λ n. repeated n v is k)

unfoldable pub groups : Version → List Group → (Unit {0} → Tree) → Tree
unfolding group
groups v [] k = k tt
groups v (g ∷ gs) k = group v g (λ u. groups v gs k)

unfoldable pub layout : Version → List Group → Tree
unfolding groups
layout v gs = groups v gs (λ u. stop)
