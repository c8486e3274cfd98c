-- What is read of the field of a set: the count was found, and so many strings were judged or passed.
use Prim.Native.Nat.{ℕ, zero, suc, ◌+◌, ◌*◌, ◌≤◌, ◌<◌}
use mathlib.Core.Path.{◌≡◌, refl, sym, ◌∙◌, ap}
use mathlib.Core.List.{List}
use lib.ListN.{length}
use lib.Seq.{sets}
use native.Mathlib.Omega.{arith}
use Rattle.layouts.specs.Primitive.{number_at, version, Result, ok, onward}
use Rattle.layouts.specs.declared.Refusal.{Refusal}
use Rattle.layouts.specs.Refusal.{plain, refused_by}
use Rattle.layouts.specs.declared.Record.{Record}
use Rattle.layouts.specs.Shape.{as_number, as_count, Role, passed, kept, set, stop, strings, units}
use Rattle.layouts.specs.Pieces.{Pieces, Text, after_text, run, skip_of}
use Rattle.layouts.specs.Record.{blank, with_number, with_count, with_entries, noted, entered}
use Rattle.layouts.specs.Judge.{Ended, judge_of, not_text, text_taken, half_taken, entries_of}
use Rattle.layouts.specs.Soft.{kept_of}
use Rattle.layouts.specs.Calls.{field, read_string_set, skip_string_set}
use Rattle.layouts.proofs.Steps.{ask_short, ask_value}
use Rattle.layouts.proofs.Views.{TextView, no_length, too_long_there, no_contents, no_padding, is_whole, text_view}
use Rattle.layouts.proofs.Placed.{never_both}
use Rattle.layouts.specs.Demands.{Read}
use Rattle.layouts.proofs.Judge.{judge_read, record_room, entries_length}
use Rattle.pieces.proofs.Fields.{field_set}
use Rattle.table.specs.Packed.{string_set}
use Rattle.table.specs.Table.{role_of}
use Rattle.table.specs.Claims.{others}
use Rattle.walk_items.specs.Items.{version_of, first_of}
use Rattle.walk_items.proofs.Trees.{tree_of}
use Rattle.walk_strings.specs.Strings.{series, passed_to, Passes}
use Rattle.walk_take.specs.Taking.{Takes, series_to}
use Rattle.walk_rooms.specs.Rooms.{Put, filled_after}
use Rattle.walk_rooms.proofs.Laws.{put_sets}
use Rattle.walk_fill.specs.There.{pieces_there}
use Rattle.walk_fill.proofs.There.{layout_there}
use Rattle.wire.specs.declared.Cursor.{Cursor}
use Rattle.wire.specs.Answers.{count_read, set_entries}
use Rattle.wire.specs.declared.Read as Q
use Rattle.walk_take.specs.declared.Series.{Series}
use Rattle.std.specs.Prelude as Std
use Rattle.std.specs.Prelude.{Ok, Err}

-- ---- strings that all end are all kept
module _ {size n at : ℕ} (j e : ℕ) (k : ℕ → Pieces) (h : (a : ℕ) → skip_of (k a) ≡ ok e → kept_of (k a) ≡ j) where
  kept_by : {t : Text} → TextView size n at t → skip_of (after_text t kept k) ≡ ok e → kept_of (after_text t kept k) ≡ suc j
  unfolding after_text skip_of kept_of
  kept_by (no_length g) q = absurd (never_both q)
  kept_by (too_long_there g l) q = absurd (never_both q)
  kept_by (no_contents g l c) q = absurd (never_both q)
  kept_by (no_padding g l c) q = absurd (never_both q)
  kept_by (is_whole g l) q = let i = h _ q in omega arith

kept_all : (s : List ℕ) (n at e : ℕ) → skip_of (run (units kept 0 n (λ u. stop)) s at) ≡ ok e → kept_of (run (units kept 0 n (λ u. stop)) s at) ≡ n
unfolding units strings run skip_of kept_of
kept_all s zero at e q = refl
kept_all s (suc n) at e q = kept_by n e (λ a. run (units kept 0 n (λ u. stop)) s a) (λ a. kept_all s n a e) (text_view (length s) (number_at s at) at) q

module _ (s : List ℕ) (at : ℕ) where
  module _ (x : Refusal) (known : (length s < at + 8) × (x ≡ plain 1 at)) where
    pub skip_set_cut : refused_by x ≡ skip_string_set s at
    unfolding judge_of
    skip_set_cut = rw (known.1, field_set passed (as_number 0), ask_short s at (number_at s at) refl (as_number 0) (λ n. units passed 0 n (λ u. stop)) known.0)

    pub set_cut : (slots : ℕ) → refused_by x ≡ read_string_set s at slots
    unfolding judge_of
    set_cut slots = rw (known.1, field_set kept (as_count 0), ask_short s at (number_at s at) refl (as_count 0) (λ n. units kept 0 n (λ u. stop)) known.0)

  module _ (n : ℕ) (known : (at + 8 ≤ length s) × (n ≡ number_at s at)) (slots : ℕ) where
    -- so many strings that are kept, each in a slot
    set_is : read_string_set s at slots ≡ judge_of s slots 0 (with_count blank 0 n) (run (series kept 0 0 n (λ u. stop)) s (at + 8))
    unfolding judge_of noted series strings
    set_is = rw (field_set kept (as_count 0), ask_value s at n known.1 (as_count 0) (λ v. units kept 0 v (λ u. stop)) known.0)

    module _ (w w' : List ℕ) (o : Std.Result Series Refusal) (t : Takes s slots (at + 8) (series (role_of 2) 0 0 n) w 0 w' o) where
      set_as : (o' : Std.Result Series Refusal) → o ≡ o' → read_string_set s at slots ≡ series_to s slots 0 (with_count blank 0 n) (λ u. stop) o'
      unfolding role_of
      set_as o' g = set_is ∙ t.judges 0 (λ u. stop) (with_count blank 0 n) refl ∙ ap (series_to s slots 0 (with_count blank 0 n) (λ u. stop)) g

      pub set_refused : (x : Refusal) → o ≡ Err x → refused_by x ≡ read_string_set s at slots
      set_refused x g = sym (set_as (Err x) g)

      pub set_read_lem : (next m : ℕ) → o ≡ Ok (record { at = next; entries = m }) → ok (record { found = with_entries (with_count blank 0 n) n; ends = next }) ≡ read_string_set s at slots
      unfolding judge_of run series strings
      set_read_lem next m g =
          let a = set_as (Ok (record { at = next; entries = m })) g in
          let y : Ended = record { found = with_entries (with_count blank 0 n) m; ends = next } in
          let z : Read slots 0 (with_count blank 0 n) _ y = judge_read s slots 0 (with_count blank 0 n) _ y (sym set_is ∙ a) in
          let h = (record_room (with_count blank 0 n) (run (units kept 0 n (λ u. stop)) s (at + 8))).0 in
          let k = kept_all s n (at + 8) next z.skips in
          let c : m ≡ n = ap (λ (x : Record). x.entries) z.holds ∙ h ∙ omega arith in
          ap (λ (i : ℕ). ok (record { found = with_entries (with_count blank 0 n) i; ends = next })) (sym c) ∙ sym a

-- ---- the room
pub set_fits : (s : List ℕ) (at slots : ℕ) (x : Ended) → read_string_set s at slots ≡ ok x → length (set_entries s at) ≤ 2 * slots
set_fits s at slots x e =
    let p = run (field (set kept (as_count 0))) s at in
    let g = (judge_read s slots 0 blank p x e).fits (omega arith) (omega arith) in
    omega (arith, entries_length p, g)

-- the room after a set is read: what was judged fine is filled in, with n slots
pub set_room : {A : Type 0} (form : List ℕ → List A) (s : List ℕ) (at slots : ℕ) (lent : List A) (n : ℕ) → n ≡ slots → (o : Std.Result Q.Read Refusal)
    → count_read o ≡ read_string_set s at n → (v : ℕ) (next : Cursor) → o ≡ Ok (record { value = v; next = next }) → (l : ℕ)
    → (version_of l ≡ version 0 0) × (first_of l ≡ string_set) → (out : List A) (k : ℕ) → Put lent 0 (form (entries_of (pieces_there l s at))) out k
    → out ≡ filled_after (read_string_set s at slots) (form (set_entries s at)) lent
set_room {A = A} form s at slots lent n e o j v next q l w out k p =
    let h = ap count_read (sym q) ∙ j ∙ ap (read_string_set s at) e in
    put_sets lent _ out k p
    ∙ ap (λ (x : Pieces). sets lent 0 (form (entries_of x))) (layout_there l (tree_of l (version 0 0) string_set w ∙ sym others.strings) s at slots 0 blank _ (sym h))
    ∙ ap (λ (o : Result Ended). filled_after o (form (set_entries s at)) lent) h

-- strings that are passed over leave the record as it was
module _ (s : List ℕ) (x : Record) where
  abbrev to_end : Result ℕ → Result Ended
  to_end o = onward o (λ e. ok (record { found = x; ends = e }))

  pass_by : {size n at : ℕ} {t : Text} (k : ℕ → Pieces) → TextView size n at t → ((a : ℕ) → judge_of s 0 0 x (k a) ≡ to_end (skip_of (k a)))
      → judge_of s 0 0 x (after_text t passed k) ≡ to_end (skip_of (after_text t passed k))
  unfolding not_text half_taken text_taken after_text judge_of skip_of entered
  pass_by k (no_length h) g = refl
  pass_by k (too_long_there h l) g = refl
  pass_by k (no_contents h l c) g = refl
  pass_by k (no_padding h l c) g = refl
  pass_by k (is_whole h l) g = g _

  judge_passed : (n at : ℕ) → judge_of s 0 0 x (run (units passed 0 n (λ u. stop)) s at) ≡ to_end (skip_of (run (units passed 0 n (λ u. stop)) s at))
  unfolding units strings run judge_of skip_of
  judge_passed zero at = refl
  judge_passed (suc n) at = pass_by (λ a. run (units passed 0 n (λ u. stop)) s a) (text_view (length s) (number_at s at) at) (λ a. judge_passed n a)

module _ (s : List ℕ) (at n : ℕ) (known : (at + 8 ≤ length s) × (n ≡ number_at s at)) (o : Std.Result ℕ Refusal) (f : (m : Role) → Passes s (at + 8) (series m 0 0 n) o) where
  abbrev to : Std.Result ℕ Refusal → Result ℕ
  to o' = passed_to o' (λ a. ok a)

  skip_set_as : (o' : Std.Result ℕ Refusal) → o ≡ o' → to_end s (with_number blank 0 n) (to o') ≡ skip_string_set s at
  unfolding judge_of noted series strings run skip_of
  skip_set_as o' g =
      rw (field_set passed (as_number 0), ask_value s at n known.1 (as_number 0) (λ v. units passed 0 v (λ u. stop)) known.0)
      (sym (judge_passed s (with_number blank 0 n) n (at + 8) ∙ ap (to_end s (with_number blank 0 n)) (f passed (λ u. stop) ∙ ap to g)))

  pub skip_set_past : (next : ℕ) → o ≡ Ok next → ok (record { found = with_number blank 0 n; ends = next }) ≡ skip_string_set s at
  skip_set_past next g = skip_set_as (Ok next) g

  pub skip_set_refused : (x : Refusal) → o ≡ Err x → refused_by x ≡ skip_string_set s at
  skip_set_refused x g = skip_set_as (Err x) g
