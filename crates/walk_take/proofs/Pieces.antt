-- What a string or a chunk is taken for, in each case.
use Prim.Native.Nat.{ℕ, zero, suc, ◌+◌, ◌-◌, ◌*◌, ◌≤◌, ◌<◌}
use mathlib.Core.Path.{◌≡◌, refl, ◌∙◌, ap}
use mathlib.Core.List.{List, [], ◌∷◌}
use mathlib.Core.Bool.{false}
use lib.ListN.{length, set, take, drop}
use lib.Seq.{sets}
use borrow.Author.Tests.{le-leb, lt-leb}
use native.Mathlib.Omega.{arith}
use Rattle.text.specs.Prefix.{good_prefix}
use Rattle.layouts.specs.declared.Record.{Record}
use Rattle.layouts.specs.Primitive.{Result, ok}
use Rattle.layouts.specs.declared.Refusal.{Refusal}
use Rattle.layouts.specs.Refusal.{plain, refused_by}
use Rattle.layouts.specs.Record.{is_kept, entered, with_entries, with_payload}
use Rattle.layouts.specs.Judge.{is_decoded, Ended, text_taken, half_taken, chunk_taken, entry}
use Rattle.pieces.specs.Pieces.{text_to}
use Rattle.pieces.proofs.Strings.{text_passed_lem, text_decoded, ends_early, ends_with}
use Rattle.table.specs.Table.{role_of}
use Rattle.table.proofs.Roles.{kept_from, kept_below, decoded_some}
use Rattle.walk_take.specs.Taking.{in_window}

passed_none : (role : ℕ) → role ≡ 0 → is_decoded (role_of role) ≡ false
unfolding role_of
passed_none role e = rw e

module _ (s : List ℕ) (role start len : ℕ) where
  pub any_text : role ≡ 0 → start + len ≡ text_to s (role_of role) start len
  any_text z = text_passed_lem s (role_of role) start len (passed_none role z)

  pub text_judged : (n : ℕ) → (role ≡ 0 → ⊥) → start + len ≤ length s → n ≡ good_prefix (take (start + len - start) (drop start s))
      → start + n ≡ text_to s (role_of role) start len
  text_judged n z h e = text_decoded s (role_of role) start len n (decoded_some role z) h e

  module _ (to : ℕ) (e : to ≡ text_to s (role_of role) start len) where
    -- n entries before it
    module _ (slots n : ℕ) (r : Record) (z : r.entries ≡ n) where
      pub text_bad : (x : Refusal) → x ≡ plain 3 to → to < start + len → refused_by x ≡ text_taken s slots r (role_of role) start len
      unfolding text_taken
      text_bad x p l = let q = ends_early s (role_of role) start len to e l in rw (p, q.0, q.1)

      pub text_passed_over : start + len ≤ to → role < 2 → ok (with_entries r n) ≡ text_taken s slots r (role_of role) start len
      unfolding text_taken entered
      text_passed_over l h = rw (ends_with s (role_of role) start len to e l, kept_below role h, z)

      pub text_full : (x : Refusal) (place : ℕ) → x ≡ plain 4 place → place ≡ start - 8 → start + len ≤ to → 2 ≤ role → slots ≤ n
          → refused_by x ≡ text_taken s slots r (role_of role) start len
      unfolding text_taken
      text_full x place o p l h g = rw (o, p, ends_with s (role_of role) start len to e l, kept_from role h, z, le-leb slots n g)

      pub text_kept : start + len ≤ to → 2 ≤ role → n < slots → ok (with_entries r (n + 1)) ≡ text_taken s slots r (role_of role) start len
      unfolding text_taken entered
      text_kept l h g = rw (ends_with s (role_of role) start len to e l, kept_from role h, z, lt-leb slots n g)

    module _ (x : Refusal) where
      pub half_bad : x ≡ plain 3 to → to < start + len → ◌≡◌ {A = Result Ended} (refused_by x) (half_taken s (role_of role) start len)
      unfolding half_taken
      half_bad p l = let q = ends_early s (role_of role) start len to e l in rw (p, q.0, q.1)

      pub half_cut : x ≡ plain 1 (start + len) → start + len ≤ to → ◌≡◌ {A = Result Ended} (refused_by x) (half_taken s (role_of role) start len)
      unfolding half_taken
      half_cut p l = rw (p, ends_with s (role_of role) start len to e l)

  -- ---- and the window
  module _ (w : List ℕ) (n : ℕ) where
    pub passed_in : role < 2 → (es : List ℕ) → in_window w n (entry (is_kept (role_of role)) start len es) ≡ in_window w n es
    passed_in h es = rw (kept_below role h)

    pub kept_in : (w' : List ℕ) → 2 ≤ role → ((es : List ℕ) → in_window w n (start ∷ len ∷ es) ≡ in_window w' (n + 1) es) → (es : List ℕ) → in_window w n (entry (is_kept (role_of role)) start len es) ≡ in_window w' (n + 1) es
    kept_in w' h k es = rw (kept_from role h) (k es)

take_none : (n : ℕ) → take {A = ℕ} n [] ≡ []
take_none zero = refl
take_none (suc n) = refl

pub nothing_in : (w : List ℕ) (n : ℕ) → in_window w n [] ≡ w
nothing_in w n = ap (sets w (2 * n)) (take_none (16 - 2 * n))

module _ (w : List ℕ) (n start len : ℕ) (es : List ℕ) where
  pub keeps_in : n < 8 → in_window w n (start ∷ len ∷ es) ≡ in_window (set (set w (2 * n) start) (2 * n + 1) len) (n + 1) es
  keeps_in h =
      let a : suc (2 * n) ≡ 2 * n + 1 = omega arith in
      let b : suc (suc (2 * n)) ≡ 2 * (n + 1) = omega arith in
      let c : 16 - 2 * n ≡ suc (suc (16 - 2 * (n + 1))) = omega arith in
      ap (λ (i : ℕ). sets w (2 * n) (take i (start ∷ len ∷ es))) c
      ∙ ap (λ (i : ℕ). sets (set (set w (2 * n) start) (suc (2 * n)) len) i (take (16 - 2 * (n + 1)) es)) b
      ∙ ap (λ (i : ℕ). sets (set (set w (2 * n) start) i len) (2 * (n + 1)) (take (16 - 2 * (n + 1)) es)) a

  pub keeps_none : 8 ≤ n → in_window w n (start ∷ len ∷ es) ≡ in_window w (n + 1) es
  keeps_none h =
      let a : 16 - 2 * n ≡ 0 = omega arith in
      let b : 16 - 2 * (n + 1) ≡ 0 = omega arith in
      rw (a, b)

module _ (room : ℕ) (r : Record) (start len : ℕ) where
  pub chunk_full : (x : Refusal) (place : ℕ) → x ≡ plain 5 place → place ≡ start - 8 → room < r.payload + len → refused_by x ≡ chunk_taken room r start len
  unfolding chunk_taken
  chunk_full x place o p h = rw (o, p, lt-leb (r.payload + len) room h)

  pub chunk_fits : r.payload + len ≤ room → ok (with_payload r (r.payload + len)) ≡ chunk_taken room r start len
  unfolding chunk_taken
  chunk_fits h = rw (le-leb (r.payload + len) room h)
