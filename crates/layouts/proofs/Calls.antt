-- Demand 3 for the public calls on replies and arguments, and the agreement of reading with skipping for replies; for arguments it is in Arguments.
use Prim.Native.Nat.{ℕ, ◌≤◌}
use mathlib.Core.Path.{◌≡◌, refl, sym, ◌∙◌, ap}
use mathlib.Core.List.{List}
use mathlib.Core.Bool.{Bool, true, false}
use lib.ListN.{drop}
use native.Mathlib.Omega.{arith}
use Rattle.layouts.specs.declared.Mode.TheVariants.{Ported}
use Rattle.layouts.specs.Primitive.{pick, bad_text, Version, Result, ok, refused, onward}
use Rattle.layouts.specs.Shape.{Tree, layout}
use Rattle.layouts.specs.Pieces.{Pieces, number, text, half, chunk, end, fault, run, skip_of, total_of}
use Rattle.layouts.specs.Record.{blank}
use Rattle.layouts.specs.Judge.{not_text, text_end, Ended, judge_of}
use Rattle.layouts.specs.Soft.{Softened, kept_of, unless_bad}
use Rattle.layouts.specs.Operations.{Kinds, Row, row, unknown, find}
use Rattle.layouts.specs.Calls.{Context, arguments_tree, skipped_tree, reply_tree, by_row, arguments_kinds, reply_kinds, Answer, answered, read_of, read_op_args, read_daemon_result, skip_daemon_result, skip_op_args}
use Rattle.layouts.specs.Demands.{RefusedBy, meaning_of}
use Rattle.layouts.proofs.Placed.{never_both}
use Rattle.layouts.proofs.Judge.{judge_read}
use Rattle.layouts.proofs.Soft.{soft_rest}
use Rattle.layouts.proofs.Theorems.{soft_skip, soft_read, soft_answer, skip_refused}

-- an answer is built from what was judged, unless a text was bad
or_answered : {A B : Type 0} (b : Bool) (x : ℕ) (o : Result A) (k : A → Result B) (o' : Result B) → onward o k ≡ o'
    → onward (pick b (refused bad_text x 0) o) k ≡ pick b (refused bad_text x 0) o'
or_answered true x o k o' e = refl
or_answered false x o k o' e = e

pub unless_answered : {A B : Type 0} (s : List ℕ) (p : Pieces) (x : A) (k : A → Result B) → onward (unless_bad s p (ok x)) k ≡ unless_bad s p (k x)
unfolding unless_bad
unless_answered s (number i place n p) x k = unless_answered s p x k
unless_answered s (text m start len p) x k = or_answered (not_text s m start len) (text_end s start len) (unless_bad s p (ok x)) k (unless_bad s p (k x)) (unless_answered s p x k)
unless_answered s (half m start len) x k = or_answered (not_text s m start len) (text_end s start len) (ok x) k (k x) refl
unless_answered s (chunk start len p) x k = unless_answered s p x k
unless_answered s (end place) x k = refl
unless_answered s (fault which place) x k = refl

pub answer_of_lem : (v : Version) (k : Kinds) (o : Result Ended) (x : Answer) → answered v k o ≡ ok x → (y : Ended) × (o ≡ ok y) × (answered v k (ok y) ≡ ok x)
answer_of_lem v k (ok y) x e = (y, refl, e)
answer_of_lem v k (refused which place stream) x e = absurd (never_both e)

pub refused_of : (v : Version) (k : Kinds) (o : Result Ended) (which place stream : ℕ) → answered v k o ≡ refused which place stream → o ≡ refused which place stream
refused_of v k (ok y) which place stream e = absurd (never_both (sym e))
refused_of v k (refused w p t) which place stream e = cc

-- s' is as s but for soft bytes
module _ (t : Tree) (v : Version) (k : Kinds) (s s' : List ℕ) (a : Softened (run t s 0) s s') (slots room : ℕ) where
  soft_read_of : (e : ℕ) → skip_of (run t s 0) ≡ ok e → kept_of (run t s 0) ≤ slots → total_of (run t s 0) ≤ room
      → read_of v k slots room s' t ≡ unless_bad s' (run t s 0) (meaning_of v k (run t s 0) e)
  soft_read_of e q h g = ap (answered v k) (soft_read t s s' a slots room e q h g) ∙ unless_answered s' (run t s 0) _ _

  soft_answer_of : (x : Answer) → read_of v k slots room s t ≡ ok x → read_of v k slots room s' t ≡ unless_bad s' (run t s 0) (ok x)
  soft_answer_of x e =
      let y = answer_of_lem v k (judge_of s slots room blank (run t s 0)) x e in
      ap (answered v k) (soft_answer t s s' a slots room y.0 y.1) ∙ unless_answered s' (run t s 0) y.0 _ ∙ ap (unless_bad s' (run t s 0)) y.2

module _ (op : ℕ) (v : Version) (s s' : List ℕ) where
  abbrev reply : Pieces
  reply = run (reply_tree op v) s 0

  -- ---- a reply
  module _ (a : Softened (run (reply_tree op v) s 0) s s') where
    -- skipping ends at the same byte
    pub soft_skip_reply : skip_daemon_result op v s' ≡ skip_daemon_result op v s
    unfolding skip_daemon_result
    soft_skip_reply = soft_skip (reply_tree op v) s s' a

    -- reading, with room for all its entries and payload, ends there too with what the sent bytes mean, or refuses by 3 in the first string that is no text
    pub soft_read_reply : (slots room e : ℕ) → skip_daemon_result op v s ≡ ok e → kept_of reply ≤ slots → total_of reply ≤ room
        → read_daemon_result op v s' slots room ≡ unless_bad s' reply (meaning_of v (reply_kinds op) reply e)
    unfolding skip_daemon_result read_daemon_result
    soft_read_reply slots room e q h g = soft_read_of (reply_tree op v) v _ s s' a slots room e q h g

    -- what follows is as before
    pub soft_rest_reply : (e : ℕ) → skip_daemon_result op v s ≡ ok e → drop e s' ≡ drop e s
    unfolding skip_daemon_result
    soft_rest_reply e q = soft_rest (reply_tree op v) s s' e a q

-- ---- arguments
module _ (c : Context) (s s' : List ℕ) where
  abbrev arguments : Pieces
  arguments = run (arguments_tree c) s 0

  module _ (a : Softened (run (arguments_tree c) s 0) s s') where
    pub soft_read_arguments : (slots room e : ℕ) → skip_of arguments ≡ ok e → kept_of arguments ≤ slots → total_of arguments ≤ room
        → read_op_args c s' slots room ≡ unless_bad s' arguments (meaning_of c.spoken (arguments_kinds c) arguments e)
    unfolding read_op_args
    soft_read_arguments slots room e q h g = soft_read_of (arguments_tree c) c.spoken _ s s' a slots room e q h g

    pub soft_rest_arguments : (e : ℕ) → skip_of arguments ≡ ok e → drop e s' ≡ drop e s
    soft_rest_arguments e q = soft_rest (arguments_tree c) s s' e a q

  -- ---- skipped arguments that answer
  pub soft_skip_arguments : Softened (run (skipped_tree c) s 0) s s' → (x : Answer) → skip_op_args c s ≡ ok x
      → skip_op_args c s' ≡ unless_bad s' (run (skipped_tree c) s 0) (ok x)
  unfolding skip_op_args
  soft_skip_arguments a x e = soft_answer_of (skipped_tree c) c.spoken _ s s' a 1 0 x e

-- ---- reading agrees with skipping
pub refused_onward : {A B : Type 0} (place : ℕ) (o : Result A) (k : A → Result B) → RefusedBy place o → RefusedBy place (onward o k)
refused_onward place o k r = (r.0, r.1, ap (λ (y : Result _). onward y k) r.2, r.3)

module _ (op : ℕ) (v : Version) (s : List ℕ) (slots room : ℕ) where
  -- where reading succeeds, skipping ends at the same byte
  pub read_skips : (x : Answer) → read_daemon_result op v s slots room ≡ ok x → skip_daemon_result op v s ≡ ok x.ends
  unfolding read_daemon_result skip_daemon_result
  read_skips x e =
      let y = answer_of_lem v (reply_kinds op) (judge_of s slots room blank (run (reply_tree op v) s 0)) x e in
      let z : y.0.ends ≡ x.ends = cc in
      (judge_read s slots room blank (run (reply_tree op v) s 0) y.0 y.1).skips ∙ ap ok z

  row_refused : (f : Row) (k : Kinds) (which place : ℕ) → skip_of (run (by_row f (λ o. layout v o.reply)) s 0) ≡ refused which place 0
      → RefusedBy place (read_of v k slots room s (by_row f (λ o. layout v o.reply)))
  unfolding run skip_of judge_of
  row_refused (row o) k which place q =
      refused_onward place (judge_of s slots room blank (run (layout v o.reply) s 0)) _ (skip_refused v o.reply s slots room which place q)
  row_refused unknown k which place q = (which, place, cc, omega arith)

  -- where skipping refuses, reading refuses too, at that place or an earlier one
  pub skip_refuses : (which place : ℕ) → skip_daemon_result op v s ≡ refused which place 0 → RefusedBy place (read_daemon_result op v s slots room)
  unfolding read_daemon_result skip_daemon_result reply_tree
  skip_refuses which place q = row_refused (find Ported op) _ which place q
