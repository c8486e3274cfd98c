-- The calls by operation: what the row of the table says is what `layouts` says, and an unknown number is refused.
use Prim.Native.Nat.{ℕ, ◌+◌, ◌≤◌, ◌<◌}
use mathlib.Core.Path.{◌≡◌, refl, sym, ◌∙◌, ap}
use mathlib.Core.List.{List, []}
use mathlib.Core.Bool.{Bool, true, false}
use lib.ListN.{length, get_or, replicate}
use Rattle.layouts.specs.declared.Refusal.{Refusal}
use Rattle.layouts.specs.Primitive.{number_at, Version, Result, ok, refused, onward}
use Rattle.layouts.specs.Refusal.{plain, refused_by}
use Rattle.layouts.specs.Shape.{as_number, kept, passed, Tree, ask, say, stop, fail, layout}
use Rattle.layouts.specs.Pieces.{value, Text, after_text, end, run, skip_of}
use Rattle.layouts.specs.Record.{blank}
use Rattle.layouts.specs.Judge.{Ended, not_text, half_taken, judge_of, entries_of}
use Rattle.layouts.specs.Operations.{Kinds, kind_of}
use Rattle.layouts.specs.Calls.{Answer, peek_number, read_of}
use Rattle.layouts.proofs.Views.{TextView, no_length, too_long_there, no_contents, no_padding, is_whole, num_value, num_short, text_view}
use Rattle.pieces.specs.Pieces.{num_read, Span, judged_read, span_of, string_at}
use Rattle.pieces.proofs.Numbers.{as_told}
use Rattle.pieces.proofs.Nodes.{ask_cut, ask_found}
use Rattle.table.specs.Table.{groups_at, kind_numbered}
use Rattle.walk_items.specs.Items.{version_of, first_of, layout_tree, pieces_of}
use Rattle.walk_judge.specs.Judged.{answer_of, answer_as, ended_as, window_after}
use Rattle.protocol.specs.declared.Arguments.{Arguments}
use Rattle.walk_read.specs.Reading.{read_by, answered_as}
use Rattle.walk_read.proofs.Filled.{answered_by, refused_is, fine_is, first_in}
use Rattle.walk_shapes.specs.Shapes.{text_pieces, text_read}
use Rattle.walk_shapes.proofs.OneText.{with_slots, judged_as_lem, entries_are}
use Rattle.protocol.specs.Protocol.{arguments_as}
use Rattle.pieces.specs.declared.Contents.{Contents}
use Rattle.walk_judge.specs.declared.Said.{Said}
use Rattle.std.specs.Prelude as Std
use Rattle.std.specs.Prelude.{Option, Some, None, Ok, Err}

module _ (v : Version) (k : Kinds) (slots room : ℕ) (s : List ℕ) (t : Tree) where
  -- 9 before any byte
  module _ (e : t ≡ fail 9 0) where
    pub unknown_is : read_of v k slots room s t ≡ refused 9 0 0
    unfolding run judge_of
    unknown_is = rw e

    pub unknown_skip : (r : Refusal) → r ≡ plain 9 0 → refused_by r ≡ skip_of (run t s 0)
    unfolding run skip_of
    unknown_skip r p = rw (p, e)

  -- the layout of a row
  module _ (l i : ℕ) (p : version_of l ≡ v) (j : first_of l ≡ i) (e : t ≡ layout v (groups_at i)) where
    tree_is : layout_tree l ≡ t
    tree_is = ap (λ (x : Version). layout x (groups_at (first_of l))) p ∙ ap (λ (n : ℕ). layout v (groups_at n)) j ∙ sym e

    pub row_skip : skip_of (pieces_of l s 0) ≡ skip_of (run t s 0)
    row_skip = ap (λ (x : Tree). skip_of (run x s 0)) tree_is

    module _ (c : ℕ) (q : (b : Bool) → kind_of v b k ≡ kind_numbered v b c) where
      row_is : answered_as (version_of l) c (read_by l s slots room) ≡ read_of v k slots room s t
      row_is =
          ap (λ (x : Version). answered_as x c (read_by l s slots room)) p ∙ ap (λ (x : Tree). answered_as v c (judge_of s slots room blank (run x s 0))) tree_is
          ∙ answered_by v k c q (judge_of s slots room blank (run t s 0))

      pub row_arguments : (a : Arguments) → a ≡ arguments_as (answered_as (version_of l) c (read_by l s slots room)) (entries_of (pieces_of l s 0)) → a ≡ arguments_as (read_of v k slots room s t) (entries_of (run t s 0))
      row_arguments a h = h ∙ ap (λ (o : Result Answer). arguments_as o (entries_of (pieces_of l s 0))) row_is ∙ ap (λ (x : Tree). arguments_as (read_of v k slots room s t) (entries_of (run x s 0))) tree_is

-- ---- skipped arguments: the one entry is the first of the window
module _ (l c : ℕ) (s : List ℕ) where
  abbrev skipped_by : Arguments
  skipped_by = arguments_as (answered_as (version_of l) c (read_by l s 1 0)) (entries_of (pieces_of l s 0))

  module _ (a : Std.Result Said Refusal) (ns cs : List ℕ) (j : answer_of a ns cs ≡ answer_as (ended_as (read_by l s 1 0))) where
    pub skipped_refused : (r : Refusal) (y : Arguments) → a ≡ Err r → y ≡ arguments_as (refused_by r) [] → y ≡ skipped_by
    skipped_refused r y q e = e ∙ ap (λ (o : Result Ended). arguments_as (answered_as (version_of l) c o) (entries_of (pieces_of l s 0))) (sym (refused_is l s 1 0 c 1 refl a ns cs j r q))

    pub skipped_fine : (kind ends ends2 n p : ℕ) (b : Bool) → a ≡ Ok (record { kind = kind; ends = ends; ends2 = ends2; entries = n; payload = p; present = b }) → (w : List ℕ) → w ≡ window_after a (replicate 16 0) 0 (entries_of (pieces_of l s 0)) → (k : ℕ) → k ≡ kind_numbered (version_of l) b c
        → record { outcome = (Ok tt); kind = k; ends = ends; count = get_or ns 0 0; start = get_or w 0 0; len = get_or w 1 0 } ≡ skipped_by
    skipped_fine kind ends ends2 n p b q w e k g =
        let f = first_in (entries_of (pieces_of l s 0)) w (e ∙ ap (λ (y : Std.Result Said Refusal). window_after y (replicate 16 0) 0 (entries_of (pieces_of l s 0))) q) in
        rw (f.0, f.1, g) (ap (λ (o : Result Ended). arguments_as (answered_as (version_of l) c o) (entries_of (pieces_of l s 0))) (sym (fine_is l s 1 0 c 1 refl a ns cs j kind ends ends2 n p b q)))

  -- a layout without fields
  pub skipped_nothing : layout_tree l ≡ stop → (k : ℕ) → k ≡ kind_numbered (version_of l) false c → record { outcome = (Ok tt); kind = k; ends = 0; count = 0; start = 0; len = 0 } ≡ skipped_by
  unfolding run judge_of entries_of
  skipped_nothing z k g = rw g (ap (λ (t : Tree). arguments_as (answered_as (version_of l) c (judge_of s 1 0 blank (run t s 0))) (entries_of (run t s 0))) (sym z))

  -- a layout of one string
  pub skipped_text : layout_tree l ≡ say kept (λ u. stop) → arguments_as (answered_as (version_of l) c (text_read s 1 0)) (entries_of (text_pieces s)) ≡ skipped_by
  skipped_text z = ap (λ (t : Tree). arguments_as (answered_as (version_of l) c (judge_of s 1 0 blank (run t s 0))) (entries_of (run t s 0))) (sym z)

-- the one string is the entry
module _ (s : List ℕ) (t : Std.Result Contents Refusal) (e : judged_read t ≡ string_at s true 0) (v : Version) (c : ℕ) where
  abbrev text_skipped : Arguments
  text_skipped = arguments_as (answered_as v c (text_read s 1 0)) (entries_of (text_pieces s))

  text_as : (t' : Std.Result Contents Refusal) → t ≡ t' → arguments_as (answered_as v c (with_slots s false (judged_read t'))) (entries_of (text_pieces s)) ≡ text_skipped
  text_as t' q = ap (λ (o : Result Ended). arguments_as (answered_as v c o) (entries_of (text_pieces s))) (judged_as_lem s t e t' q 1 0 false refl)

  pub text_refused : (r : Refusal) (y : Arguments) → t ≡ Err r → y ≡ arguments_as (refused_by r) [] → y ≡ text_skipped
  text_refused r y q g = g ∙ text_as (Err r) q

  pub text_fine : (start len next k : ℕ) → t ≡ Ok (record { start = start; len = len; next = next }) → k ≡ kind_numbered v false c
      → record { outcome = (Ok tt); kind = k; ends = next; count = 0; start = start; len = len } ≡ text_skipped
  text_fine start len next k q g =
      rw g (ap (arguments_as (answered_as v c (with_slots s false (judged_read (Ok (record { start = start; len = len; next = next })))))) (sym (entries_are s t e start len next q)) ∙ text_as (Ok (record { start = start; len = len; next = next })) q)

pub arguments_unknown : (o : Result Answer) (es : List ℕ) (a : Arguments) (r : Refusal) → o ≡ refused 9 0 0 → r ≡ plain 9 0 → a ≡ arguments_as (refused_by r) [] → a ≡ arguments_as o es
arguments_unknown o es a r e p q = q ∙ ap (λ (x : Refusal). arguments_as (refused_by x) []) p ∙ ap (λ (x : Result Answer). arguments_as x es) (sym e)

-- ---- a reply that is passed over without a fold
module _ (s : List ℕ) where
  ends_by : {t : Text} → TextView (length s) (number_at s 0) 0 t → skip_of (after_text t kept (λ a. end a)) ≡ onward (span_of s passed t) (λ p. ok p.ends)
  unfolding span_of half_taken not_text after_text skip_of
  ends_by (no_length h) = refl
  ends_by (too_long_there h l) = refl
  ends_by (no_contents h l c) = refl
  ends_by (no_padding h l c) = refl
  ends_by (is_whole h l) = refl

  text_ends : skip_of (text_pieces s) ≡ onward (string_at s false 0) (λ p. ok p.ends)
  unfolding run string_at
  text_ends = ends_by (text_view (length s) (number_at s 0) 0)

  -- as the string was judged
  pub text_passed_lem : (t : Std.Result Contents Refusal) → judged_read t ≡ string_at s false 0 → (t' : Std.Result Contents Refusal) → t ≡ t' → onward (judged_read t') (λ p. ok p.ends) ≡ skip_of (text_pieces s)
  text_passed_lem t e t' q = ap (λ (o : Result Span). onward o (λ p. ok p.ends)) (as_told judged_read q e) ∙ sym text_ends

module _ (l : ℕ) (s : List ℕ) where
  pub brief_nothing : layout_tree l ≡ stop → ok 0 ≡ skip_of (pieces_of l s 0)
  unfolding run skip_of
  brief_nothing z = ap (λ (t : Tree). skip_of (run t s 0)) (sym z)

  pub brief_text : layout_tree l ≡ say kept (λ u. stop) → (o : Result ℕ) → o ≡ skip_of (text_pieces s) → o ≡ skip_of (pieces_of l s 0)
  brief_text z o e = e ∙ ap (λ (t : Tree). skip_of (run t s 0)) (sym z)

  module _ (z : layout_tree l ≡ ask (as_number 0) (λ n. stop)) where
    as_number_lem : skip_of (pieces_of l s 0) ≡ skip_of (run (ask (as_number 0) (λ n. stop)) s 0)
    as_number_lem = ap (λ (t : Tree). skip_of (run t s 0)) z

    pub brief_short : (r : Refusal) → (length s < 0 + 8) × (r ≡ plain 1 0) → refused_by r ≡ skip_of (pieces_of l s 0)
    unfolding skip_of
    brief_short r known = ap (λ (x : Refusal). refused_by x) known.1 ∙ sym (as_number_lem ∙ ap skip_of (ask_cut s 0 None (sym (num_short _ _ _ known.0)) refl (as_number 0) (λ n. stop)))

    pub brief_number : (n : ℕ) → (0 + 8 ≤ length s) × (n ≡ number_at s 0) → ok 8 ≡ skip_of (pieces_of l s 0)
    unfolding skip_of run
    brief_number n known =
        let e : num_read (Some n) ≡ peek_number s 0 = ap value known.1 ∙ sym (num_value _ _ _ known.0) in
        sym (as_number_lem ∙ ap skip_of (ask_found s 0 (Some n) e n refl (as_number 0) (λ n. stop)))
