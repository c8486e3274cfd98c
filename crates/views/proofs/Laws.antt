-- A view by the place of its entry, and the store path.
use Prim.Native.Nat.{ℕ, ◌+◌, ◌-◌, ◌≤◌, ◌<◌}
use mathlib.Core.Path.{◌≡◌, refl, sym, ap, ◌∙◌}
use mathlib.Core.List.{List, []}
use mathlib.Core.Bool.{Bool, true, false, ◌&&◌}
use native.Mathlib.Omega.{arith}
use native.Mathlib.Nat.{add-sub_cancel_left}
use borrow.Author.Tests.{le-leb, lt-leb}
use lib.ListN.{length, take, drop}
use Rattle.text.specs.Prefix.{is_text}
use Rattle.layouts.specs.Primitive.{ok, same}
use Rattle.layouts.specs.declared.Refusal.{Refusal}
use Rattle.layouts.specs.Refusal.{refused_by}
use Rattle.layouts.specs.Writers.{view_of, part_of, store_directory, is_store_path}
use Rattle.entries.specs.Entries.{place_of, found}
use Rattle.entries.proofs.Places.{inside, refused_view}
use Rattle.views.specs.Fault.{fault_of, start_of, Begins}
use Rattle.entries.specs.declared.Located.{Located}
use Rattle.std.specs.Prelude.{Ok, Err, Result}

module _ (bytes es : List ℕ) (i : ℕ) (f : Result Located Refusal) (e : found f ≡ place_of bytes es i) where
  pub no_fault : (start len : ℕ) → f ≡ Ok (record { start = start; len = len }) → ok tt ≡ fault_of (view_of bytes es i)
  no_fault start len q = rw (inside bytes es i f e start len q).view

  pub fault : (x : Refusal) → f ≡ Err x → refused_by x ≡ fault_of (view_of bytes es i)
  fault x q = rw (refused_view bytes es i f e x q)

  -- the part from its start to its end
  pub part : (start len : ℕ) → f ≡ Ok (record { start = start; len = len }) → take (start + len - start) (drop start bytes) ≡ part_of (view_of bytes es i)
  part start len q = rw (add-sub_cancel_left, (inside bytes es i f e start len q).view)

  -- it begins at the start of its entry
  pub part_begins : (start len : ℕ) → f ≡ Ok (record { start = start; len = len }) → (block offset : ℕ) → Begins (block, start + offset) (block, offset) (start_of (place_of bytes es i))
  part_begins start len q block offset = (refl, ap (λ (n : ℕ). n + offset) (ap (λ (l : Result Located Refusal). start_of (found l)) (sym q) ∙ ap start_of e))

  -- a refused one is the empty part
  pub empty : (x : Refusal) → f ≡ Err x → [] ≡ part_of (view_of bytes es i)
  empty x q = rw (refused_view bytes es i f e x q)

  -- and begins where the bytes do
  pub empty_begins : (x : Refusal) → f ≡ Err x → (block offset : ℕ) → Begins (block, offset) (block, offset) (start_of (place_of bytes es i))
  empty_begins x q block offset = (refl, let z = ap (λ (l : Result Located Refusal). start_of (found l)) (sym q) ∙ ap start_of e in omega arith)

-- ---- the store path by the tests that the code makes
last_fails : (x y : Bool) → (x && y && false) ≡ false
last_fails true true = refl
last_fails true false = refl
last_fails false y = refl

pub too_short : (s : List ℕ) → length s < 44 → is_store_path s ≡ false
unfolding is_store_path
too_short s h = rw (lt-leb 44 (length s) h) (last_fails (same (take 11 s) store_directory) (is_text s))

last_holds : (x : Bool) → (x && true) ≡ x
last_holds true = refl
last_holds false = refl

pub in_directory : (s : List ℕ) → 44 ≤ length s → true ≡ same (take 11 s) store_directory → is_store_path s ≡ is_text s
unfolding is_store_path
in_directory s h e = rw (le-leb 44 (length s) h, ← e) (last_holds (is_text s))

pub elsewhere : (s : List ℕ) → false ≡ same (take 11 s) store_directory → is_store_path s ≡ false
unfolding is_store_path
elsewhere s e = rw (← e)
