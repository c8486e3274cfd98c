-- Where a string lies, by the tests that the code makes; and what such an answer says of the view.
use Prim.Native.Nat.{ℕ, ◌+◌, ◌≤◌, ◌<◌}
use mathlib.Core.Path.{◌≡◌, sym, ap, ◌∙◌}
use mathlib.Core.List.{List}
use native.Mathlib.Omega.{arith}
use native.Mathlib.Decide.{dec_lt, dec_le}
use borrow.Author.Tests.{le-ltb, lt-ltb, le-leb, lt-leb}
use lib.ListN.{length, take, drop}
use Rattle.layouts.specs.Primitive.{no_such_entry, bad_entry, Result, ok, refused, onward}
use Rattle.layouts.specs.declared.Refusal.{Refusal}
use Rattle.layouts.specs.Refusal.{plain, refused_by}
use Rattle.layouts.specs.Writers.{slots_of, entry_start, entry_length, view_of}
use Rattle.entries.specs.Entries.{place_of, found}
use Rattle.entries.specs.declared.Located.{Located}
use Rattle.std.specs.Prelude as Std
use Rattle.std.specs.Prelude.{Ok, Err}

abbrev numbers_of : Result (ℕ × ℕ) → ℕ × ℕ
numbers_of (ok p) = p
numbers_of (refused which place stream) = (0, 0)

module _ (bytes es : List ℕ) (i : ℕ) where
  abbrev place_in : Result (List ℕ) → Result (ℕ × ℕ)
  place_in v = onward v (λ c. ok (entry_start es i, entry_length es i))

  none : slots_of es ≤ i → view_of bytes es i ≡ refused no_such_entry i 0
  unfolding view_of
  none h = simp (le-ltb _ _ h)

  pub no_such : (n : ℕ) → n ≡ slots_of es → n ≤ i → (r : Refusal) → r ≡ plain no_such_entry i → refused_by r ≡ place_of bytes es i
  no_such n e h r q = rw q (sym (ap place_in (none (omega arith))))

  module _ (h : i < slots_of es) where
    outside : length bytes < entry_start es i + entry_length es i → view_of bytes es i ≡ refused bad_entry i 0
    unfolding view_of
    outside g = simp (lt-ltb _ _ h, lt-leb _ _ g)

    whole : entry_start es i + entry_length es i ≤ length bytes → view_of bytes es i ≡ ok (take (entry_length es i) (drop (entry_start es i) bytes))
    unfolding view_of
    whole g = simp (lt-ltb _ _ h, le-leb _ _ g)

  -- the numbers of entry i are read
  module _ (start len : ℕ) (slot : i < slots_of es) (starts : start ≡ entry_start es i) (lengths : len ≡ entry_length es i) where
    pub bad : length bytes < start + len → (r : Refusal) → r ≡ plain bad_entry i → refused_by r ≡ place_of bytes es i
    bad l r q = rw q (sym (ap place_in (outside slot (omega arith))))

    pub good : start + len ≤ length bytes → ok (start, len) ≡ place_of bytes es i
    good l = rw (starts, lengths) (sym (ap place_in (whole slot (omega arith))))

  -- a place that is answered lies inside, and the view is the part there
  pub record Inside (start len : ℕ) : Type 0 where
    pub within : start + len ≤ length bytes
    pub view : view_of bytes es i ≡ ok (take len (drop start bytes))

  module _ (f : Std.Result Located Refusal) (e : found f ≡ place_of bytes es i) where
    pub inside : (start len : ℕ) → f ≡ Ok (record { start = start; len = len }) → Inside start len
    inside start len q = go (dec_lt i (slots_of es)) (dec_le (entry_start es i + entry_length es i) (length bytes))
      where
        answered : (v : Result (List ℕ)) → view_of bytes es i ≡ v → ok (start, len) ≡ place_in v
        answered v h = sym (ap found q) ∙ e ∙ ap place_in h

        go : Dec (i < slots_of es) → Dec (entry_start es i + entry_length es i ≤ length bytes) → Inside start len
        go (yes h) (yes g) =
            let v = whole h g in
            let s : start ≡ entry_start es i = ap (λ (r : Result (ℕ × ℕ)). (numbers_of r).0) (answered _ v) in
            let l : len ≡ entry_length es i = ap (λ (r : Result (ℕ × ℕ)). (numbers_of r).1) (answered _ v) in
            record { within = omega arith; view = rw (s, l) v }
        go (yes h) (no g) = let p = answered _ (outside h (omega arith)) in let z : ◌≡◌ {A = ℕ} 0 1 = cc in absurd (omega arith)
        go (no h) g = let p = answered _ (none (omega arith)) in let z : ◌≡◌ {A = ℕ} 0 1 = cc in absurd (omega arith)

    -- and where it is refused, so is the view
    pub refused_view : (x : Refusal) → f ≡ Err x → view_of bytes es i ≡ refused_by x
    refused_view x q = go (view_of bytes es i) (sym (ap found q) ∙ e)
      where
        go : (v : Result (List ℕ)) → refused_by x ≡ place_in v → v ≡ refused_by x
        go (ok c) h = let z : ◌≡◌ {A = ℕ} 0 1 = cc in absurd (omega arith)
        go (refused w p s) h = cc
