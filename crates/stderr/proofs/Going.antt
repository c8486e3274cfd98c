-- The loop, turn by turn: what is still to come is what the whole is.
use Prim.Native.Nat.{ℕ, suc, ◌+◌, ◌≤◌, ◌<◌}
use mathlib.Core.Path.{◌≡◌, refl, sym, ◌∙◌, ap, subst}
use mathlib.Core.List.{List}
use mathlib.Core.Bool.{Bool, true, false}
use lib.ListN.{length}
use lib.Dec.{leb}
use borrow.Author.Tests.{le-leb, lt-leb}
use native.Mathlib.Omega.{arith}
use Rattle.layouts.specs.Primitive.{number_at, version, Result, onward}
use Rattle.layouts.specs.declared.Refusal.{Refusal}
use Rattle.layouts.specs.Refusal.{refused_by}
use Rattle.layouts.specs.Shape.{layout}
use Rattle.layouts.specs.Pieces.{Num, value, short, run, skip_of}
use Rattle.layouts.specs.Calls.{peek_number}
use Rattle.layouts.specs.Stderr as L
use Rattle.layouts.specs.Stderr.{no_code, terminal, message_of, after_peek, stderr_from, stderr_loop, stopped}
use Rattle.layouts.proofs.Views.{NumView, is_value, is_short, num_view}
use Rattle.layouts.proofs.Placed.{run_placed, ends}
use Rattle.layouts.proofs.Stderr.{any_bound}
use Rattle.pieces.specs.Pieces.{num_read}
use Rattle.codes.specs.declared.StderrCode.{StderrCode}
use Rattle.codes.specs.Stderr.{code_number, code_of}
use Rattle.codes.proofs.Messages.{has_number_lem, no_code_lem}
use Rattle.table.specs.Table.{groups_at}
use Rattle.walk_items.specs.Items.{version_of, first_of, layout_pieces, pieces_of}
use Rattle.walk_items.proofs.Trees.{pieces_of_lem}
use Rattle.walk_pass.specs.Skip.{skipped}
use Rattle.stderr.specs.declared.Message.{Message}
use Rattle.stderr.specs.declared.Message.TheVariants.{NoCode, Terminal, Goes}
use Rattle.stderr.specs.Loop.{said}
use Rattle.std.specs.Prelude as Std
use Rattle.std.specs.Prelude.{Option, Some, None, Ok, Err}

-- ---- what a number says, by its code
module _ (c : ℕ) (f : Option StderrCode) (e : f ≡ code_of c) where
  pub found_message : (code : StderrCode) (m : Message) → f ≡ Some code → said m ≡ message_of (code_number code) → said m ≡ message_of c
  found_message code m q h = h ∙ ap message_of (has_number_lem c code (sym e ∙ q))

  pub none_message : f ≡ None → no_code ≡ message_of c
  none_message q = sym ((no_code_lem c).0 (sym e ∙ q))

pub message_by : (code d : StderrCode) (x : L.Message) → code ≡ d → message_of (code_number d) ≡ x → x ≡ message_of (code_number code)
message_by code d x e h = sym (ap (λ (y : StderrCode). message_of (code_number y)) e ∙ h)

pub last_is : message_of L.Last ≡ terminal
unfolding message_of
last_is = refl

pub error_is : message_of L.Error ≡ terminal
unfolding message_of
error_is = refl

-- ---- a number that is peeked at
abbrev PeekSays : (size n at : ℕ) → Num → Type 0
PeekSays size n at (value c) = (at + 8 ≤ size) × (c ≡ n)
PeekSays size n at short = size < at + 8

peek_says : {size n at : ℕ} {m : Num} → NumView size n at m → PeekSays size n at m
peek_says (is_short h) = h
peek_says (is_value h) = (h, refl)

peek_known : (s : List ℕ) (at : ℕ) (r y : Option ℕ) → num_read r ≡ peek_number s at → r ≡ y → PeekSays (length s) (number_at s at) at (num_read y)
peek_known s at r y e q = subst (PeekSays (length s) (number_at s at) at) (sym e ∙ ap num_read q) (peek_says (num_view (length s) (number_at s at) at))

-- ---- the loop
pub record Going (s : List ℕ) (at m : ℕ) : Type 0 where
  pub within : at ≤ length s
  pub counted : m ≤ at
  pub same : stderr_from (suc (length s)) s at m ≡ stderr_loop s

pub going_start : (s : List ℕ) → Going s 0 0
unfolding stderr_loop
going_start s = record { within = omega arith; counted = omega arith; same = refl }

module _ (s : List ℕ) (at m : ℕ) (g : Going s at m) (r : Option ℕ) (e : num_read r ≡ peek_number s at) where
  peeks : (y : Option ℕ) → r ≡ y → PeekSays (length s) (number_at s at) at (num_read y)
  peeks y q = peek_known s at r y e q

  -- one turn: b says whether the stream has the number
  turn : (b : Bool) (x : L.Message) → leb (at + 8) (length s) ≡ b → message_of (number_at s at) ≡ x
      → after_peek b x (number_at s at) at m (λ gs. skip_of (run (layout (version 0 0) gs) s (at + 8))) (λ e. stderr_from (length s) s e (m + 1)) ≡ stderr_loop s
  unfolding stderr_from
  turn b x p q = rw (← p, ← q) g.same

  pub none_there : r ≡ None → stopped m 0 at ≡ stderr_loop s
  unfolding after_peek
  none_there q = turn false (message_of (number_at s at)) (lt-leb (at + 8) (length s) (peeks None q)) refl

  module _ (c : ℕ) (q : r ≡ Some c) where
    there : at + 8 ≤ length s
    there = (peeks (Some c) q).0

    module _ (x : Message) (h : said x ≡ message_of c) where
      turn_as : (y : Message) → x ≡ y
          → after_peek true (said y) c at m (λ gs. skip_of (run (layout (version 0 0) gs) s (at + 8))) (λ e. stderr_from (length s) s e (m + 1)) ≡ stderr_loop s
      turn_as y f =
          let n : c ≡ number_at s at = (peeks (Some c) q).1 in
          ap (λ (d : ℕ). after_peek true (said y) d at m (λ gs. skip_of (run (layout (version 0 0) gs) s (at + 8))) (λ e. stderr_from (length s) s e (m + 1))) n ∙
          turn true (said y) (le-leb (at + 8) (length s) there) (ap message_of (sym n) ∙ sym h ∙ ap said f)

      pub no_message : x ≡ NoCode → stopped m 0 at ≡ stderr_loop s
      unfolding after_peek
      no_message f = turn_as NoCode f

      pub last_message : x ≡ Terminal → stopped (m + 1) c (at + 8) ≡ stderr_loop s
      unfolding after_peek
      last_message f = turn_as Terminal f

      module _ (i : ℕ) (f : x ≡ Goes i) (l : ℕ) (w : (version_of l ≡ version 0 0) × (first_of l ≡ i)) (k : Std.Result ℕ Refusal)
          (z : skipped k ≡ skip_of (pieces_of l s (at + 8))) where
        o : skipped k ≡ skip_of (layout_pieces (version 0 0) i s (at + 8))
        o = z ∙ ap skip_of (pieces_of_lem l (version 0 0) i w s (at + 8))

        skips : (y : Std.Result ℕ Refusal) → k ≡ y → onward (skipped y) (λ e. stderr_from (length s) s e (m + 1)) ≡ stderr_loop s
        unfolding after_peek
        skips y p = ap (λ (z : Result ℕ). onward z (λ e. stderr_from (length s) s e (m + 1))) (sym (ap skipped p) ∙ o) ∙ turn_as (Goes i) f

        pub cut_message : (y : Refusal) → k ≡ Err y → refused_by y ≡ stderr_loop s
        cut_message y p = skips (Err y) p

        pub past_message : (next : ℕ) → k ≡ Ok next → (at + 8 ≤ next) × (next ≤ length s)
        past_message next p = ends next (run_placed (layout (version 0 0) (groups_at i)) s (at + 8) there) (sym o ∙ ap skipped p)

        pub going_on : (next : ℕ) → k ≡ Ok next → Going s next (m + 1)
        going_on next p =
            let z = past_message next p in
            let l = g.counted in
            record {
              within = z.1;
              counted = omega (arith, z);
              same = any_bound (suc (length s)) (length s) s next (m + 1) z.1 (omega (arith, z)) (omega (arith, z)) ∙ skips (Ok next) p;
            }
