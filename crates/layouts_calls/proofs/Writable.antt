-- Which fields can be written as a call: one test, computed of all operations, and what it says. Written, then read, and read, then written, both stand on it.
use Prim.Native.Nat.{ℕ, ◌+◌}
use mathlib.Core.Path.{◌≡◌, refl, sym, ap, subst}
use mathlib.Core.List.{List, [], ◌∷◌, map}
use mathlib.Core.Bool.{Bool, true, false, not, ◌&&◌, ◌||◌}
use lib.Dec.{ltb, eqb}
use borrow.Author.Tests.{not-true, eqb-true}
use Rattle.layouts.specs.declared.Mode.{Mode}
use Rattle.layouts.specs.declared.Mode.TheVariants.{Ported, Published}
use Rattle.layouts.specs.Primitive.{pick, Version, version, at_least}
use Rattle.layouts.specs.Shape.{Target, dropped, as_number, as_flag, as_count, as_presence, Role, passed, checked, kept, What, num, str, set, pairs, framed, maybe, typed, position, Gated, always, from, below, between, there, what}
use Rattle.layouts.specs.Record.{is_kept}
use Rattle.layouts.specs.Operations.{Operation, operations, published, rows_in, row, find}
use Rattle.layouts.specs.Calls.{Context, chosen}
use Rattle.layouts.specs.CallWriter.{fields_there, target_in, is_framed, has_frames}
use Rattle.layouts.proofs.Theorems.{never_true}
use Rattle.layouts.proofs.Arguments.{found}

pub and_true : (a b : Bool) → a && b ≡ true → (a ≡ true) × (b ≡ true)
and_true true b e = (refl, e)
and_true false b e = absurd (never_true e)

pub neither_true : (a b : Bool) → a || b ≡ false → (a ≡ false) × (b ≡ false)
neither_true true b e = absurd (never_true (sym e))
neither_true false b e = (refl, e)

pub either : {A : Type 0} (P : A → Type 0) (b : Bool) (x y : A) → P x → P y → P (pick b x y)
either P true x y f g = f
either P false x y f g = g

-- ---- a field: its strings are kept, and its number has a place in the record
abbrev pub in_record : Target → Bool
in_record dropped = true
in_record (as_number i) = ltb i 12
in_record (as_flag i) = ltb i 12
in_record (as_count i) = ltb i 3
in_record as_presence = false

pub data Writable : What → Type 0 where
  a_number : (t : Target) → in_record t ≡ true → Writable (num t)
  a_string_lem : Writable (str kept)
  a_set_lem : (t : Target) → in_record t ≡ true → Writable (set kept t)
  some_pairs : (t : Target) → in_record t ≡ true → Writable (pairs kept t)
  framed_data_lem : Writable framed

pub in_record_lem : {w : What} → Writable w → in_record (target_in w) ≡ true
in_record_lem (a_number t h) = h
in_record_lem a_string_lem = refl
in_record_lem (a_set_lem t h) = h
in_record_lem (some_pairs t h) = h
in_record_lem framed_data_lem = refl

abbrev is_writable : What → Bool
is_writable (num t) = in_record t
is_writable (str m) = is_kept m
is_writable (set m t) = is_kept m && in_record t
is_writable (pairs m t) = is_kept m && in_record t
is_writable framed = true
is_writable maybe = false
is_writable typed = false
is_writable position = false

kept_by : (m : Role) → is_kept m ≡ true → m ≡ kept
kept_by passed e = absurd (never_true e)
kept_by checked e = absurd (never_true e)
kept_by kept e = refl

writable_by : (w : What) → is_writable w ≡ true → Writable w
writable_by (num t) e = a_number t e
writable_by (str m) e = rw (kept_by m e) a_string_lem
writable_by (set m t) e = let a = and_true (is_kept m) (in_record t) e in rw (kept_by m a.0) (a_set_lem t a.1)
writable_by (pairs m t) e = let a = and_true (is_kept m) (in_record t) e in rw (kept_by m a.0) (some_pairs t a.1)
writable_by framed e = framed_data_lem
writable_by maybe e = absurd (never_true e)
writable_by typed e = absurd (never_true e)
writable_by position e = absurd (never_true e)

-- ---- fields: the place of a number is no other field's, and framed data is last
-- is this place one that a target takes? one of the fields?
abbrev pub takes : Target → ℕ → Bool
takes dropped j = false
takes (as_number i) j = eqb i j
takes (as_flag i) j = eqb i j
takes (as_count i) j = eqb (12 + i) j
takes as_presence j = false

abbrev pub taken : List What → ℕ → Bool
taken [] j = false
taken (w ∷ ws) j = takes (target_in w) j || taken ws j

abbrev pub free : Target → List What → Bool
free dropped ws = true
free (as_number i) ws = not (taken ws i)
free (as_flag i) ws = not (taken ws i)
free (as_count i) ws = not (taken ws (12 + i))
free as_presence ws = true

abbrev is_none : List Gated → Bool
is_none [] = true
is_none (x ∷ xs) = false

-- one field ends at the version at which the other begins: the two are never there together
abbrev begins_at : ℕ → Gated → Bool
begins_at a (always w) = false
begins_at a (from b w) = eqb a b
begins_at a (below b w) = false
begins_at a (between b c w) = false

abbrev apart : Gated → Gated → Bool
apart (always w) y = false
apart (from a w) y = false
apart (below a w) y = begins_at a y
apart (between a b w) y = false

-- those that may be there beside a field
abbrev beside : Gated → List Gated → List What
beside x [] = []
beside x (y ∷ ys) = pick (apart x y) (beside x ys) (what y ∷ beside x ys)

abbrev are_writable : List Gated → Bool
are_writable [] = true
are_writable (x ∷ xs) = is_writable (what x) && (free (target_in (what x)) (beside x xs) && (pick (is_framed (what x)) (is_none xs) true && are_writable xs))

-- what it says of a field and those behind it: of framed data that it comes once
pub record WritableBefore (w : What) (ws : List What) : Type 0 where
  pub can : Writable w
  pub own : free (target_in w) ws ≡ true
  pub once : is_framed w && has_frames ws ≡ false

abbrev pub AllWritable : List What → Type 0
AllWritable [] = Unit {0}
AllWritable (w ∷ ws) = WritableBefore w ws × AllWritable ws

-- ---- the fields that are there at a version are some of a row's
module _ (v : Version) where
  begun : (a : ℕ) (y : Gated) → begins_at a y ≡ true → at_least v (version 1 a) ≡ false → there v y ≡ false
  begun a (always w) e f = absurd (never_true e)
  begun a (from b w) e f = subst (λ (n : ℕ). at_least v (version 1 n) ≡ false) (eqb-true a b e) f
  begun a (below b w) e f = absurd (never_true e)
  begun a (between b c w) e f = absurd (never_true e)

  not_beside : (x y : Gated) → apart x y ≡ true → there v x ≡ true → there v y ≡ false
  not_beside (always w) y e t = absurd (never_true e)
  not_beside (from a w) y e t = absurd (never_true e)
  not_beside (below a w) y e t = begun a y e (not-true _ t)
  not_beside (between a b w) y e t = absurd (never_true e)

  module _ (x : Gated) (t : there v x ≡ true) where
    fewer_taken : (xs : List Gated) (j : ℕ) → taken (beside x xs) j ≡ false → taken (fields_there v xs) j ≡ false
    unfolding fields_there
    fewer_taken [] j e = refl
    fewer_taken (y ∷ ys) j e = by (apart x y) refl e (fewer_taken ys j)
      where
        by : (b : Bool) → apart x y ≡ b → taken (pick b (beside x ys) (what y ∷ beside x ys)) j ≡ false
            → (taken (beside x ys) j ≡ false → taken (fields_there v ys) j ≡ false) → taken (fields_there v (y ∷ ys)) j ≡ false
        by true a e h = rw (not_beside x y a t) (h e)
        by false a e h =
            let n = neither_true (takes (target_in (what y)) j) _ e in
            either (λ (ws : List What). taken ws j ≡ false) (there v y) _ _ (rw n.0 (h n.1)) (h n.1)

    fewer_free : (xs : List Gated) (i : Target) → free i (beside x xs) ≡ true → free i (fields_there v xs) ≡ true
    fewer_free xs dropped e = refl
    fewer_free xs (as_number i) e = ap not (fewer_taken xs i (not-true _ e))
    fewer_free xs (as_flag i) e = ap not (fewer_taken xs i (not-true _ e))
    fewer_free xs (as_count i) e = ap not (fewer_taken xs (12 + i) (not-true _ e))
    fewer_free xs as_presence e = refl

  last_once : (xs : List Gated) (b : Bool) → pick b (is_none xs) true ≡ true → b && has_frames (fields_there v xs) ≡ false
  unfolding fields_there has_frames
  last_once [] true e = refl
  last_once (x ∷ xs) true e = absurd (never_true e)
  last_once xs false e = refl

  all_writable : (xs : List Gated) → are_writable xs ≡ true → AllWritable (fields_there v xs)
  unfolding fields_there
  all_writable [] e = tt
  all_writable (x ∷ xs) e =
      let w = what x in
      let a = and_true (is_writable w) _ e in
      let b = and_true (free (target_in w) (beside x xs)) _ a.1 in
      let c = and_true (pick (is_framed w) (is_none xs) true) _ b.1 in
      by (there v x) refl (all_writable xs c.1)
      (λ t. record { can = writable_by w a.0; own = fewer_free x t xs (target_in w) b.0; once = last_once xs (is_framed w) c.0 })
    where
      by : (b : Bool) → there v x ≡ b → AllWritable (fields_there v xs) → (there v x ≡ true → WritableBefore (what x) (fields_there v xs))
          → AllWritable (pick b (what x ∷ fields_there v xs) (fields_there v xs))
      by true t h f = (f t, h)
      by false t h f = h

-- ---- the table: computed of all operations in both modes, their arguments can be written
arguments_writable : (m : Mode) → map (λ (o : Operation). are_writable o.arguments) (rows_in m) ≡ map (λ (o : Operation). true) (rows_in m)
unfolding operations published
arguments_writable Ported = refl
arguments_writable Published = refl

pub row_writable : (c : Context) (o : Operation) → chosen c ≡ row o → AllWritable (fields_there c.spoken o.arguments)
unfolding find
row_writable c o e = all_writable c.spoken o.arguments (found _ _ (rows_in c.mode) c.op o (arguments_writable c.mode) e).0
