-- The answers of the loop, and of the error block behind it.
use Prim.Native.Nat.{ℕ, ◌*◌, ◌≤◌}
use mathlib.Core.Path.{◌≡◌, refl, sym, ◌∙◌, ap}
use mathlib.Core.List.{List, []}
use mathlib.Core.Bool.{Bool, true, false}
use lib.ListN.{length}
use lib.Seq.{sets}
use lib.Dec.{eqb}
use borrow.Author.Tests.{eq-eqb, ne_eqb}
use native.Mathlib.Omega.{arith}
use Rattle.layouts.specs.declared.Record.{Record}
use Rattle.layouts.specs.declared.Mode.{Mode}
use Rattle.layouts.specs.declared.Mode.TheVariants.{Published}
use Rattle.layouts.specs.Primitive.{pick, Version, version, at_least, Result, ok, refused, onward}
use Rattle.layouts.specs.declared.Refusal.{Refusal}
use Rattle.layouts.specs.Refusal.{refused_by}
use Rattle.layouts.specs.Shape.{Tree, layout}
use Rattle.layouts.specs.Pieces.{Pieces, run, end}
use Rattle.layouts.specs.Judge.{Ended, judge_of, entries_of}
use Rattle.layouts.specs.Calls.{Answer}
use Rattle.layouts.specs.Stderr as L
use Rattle.layouts.specs.Stderr.{Error, stopped_record, stderr_loop, stderr_answer, if_error, error_kind, error_groups, error_block, read_stderr_loop, read_stderr_with_error, error_pieces}
use Rattle.layouts.proofs.Judge.{judge_read, entries_length}
use Rattle.layouts.proofs.Placed.{never_both}
use Rattle.table.specs.Table.{groups_at, version_in}
use Rattle.walk_items.specs.Items.{spoken_of, version_of, first_of, layout_tree, pieces_of}
use Rattle.walk_items.proofs.Trees.{tree_of}
use Rattle.walk_judge.specs.declared.Answer as C
use Rattle.walk_judge.specs.Judged.{answer_as, ended_as}
use Rattle.walk_judge.proofs.Answers.{answer_fine, answer_refused, ended_fine, ended_refused}
use Rattle.walk_rooms.specs.Rooms.{Put, filled_after}
use Rattle.walk_rooms.proofs.Laws.{put_sets}
use Rattle.walk_fill.specs.There.{pieces_there}
use Rattle.walk_fill.proofs.There.{layout_there}
use Rattle.stderr.specs.Loop.{stopped_as, record_for}
use Rattle.stderr.specs.declared.Stopped.{Stopped}
use Rattle.std.specs.Prelude as Std
use Rattle.std.specs.Prelude.{Ok, Err}

-- ---- which block
module _ (m : Mode) (a b : ℕ) (e : m ≡ Published) (l : ℕ) (v : version_of l ≡ version a b) (n : ℕ) (p : n ≡ spoken_of l) (r : Bool) (q : r ≡ at_least (version_in n) (version 1 26)) where
  reached : (c : Bool) → r ≡ c → at_least (version a b) (version 1 26) ≡ c
  reached c t = sym (ap (λ (x : Version). at_least x (version 1 26)) (ap version_in p ∙ v)) ∙ sym q ∙ t

  pub traced_kind : r ≡ true → 1 ≡ error_kind m (version a b)
  traced_kind t = rw (e, reached true t)

  pub short_kind : r ≡ false → 2 ≡ error_kind m (version a b)
  short_kind t = rw (e, reached false t)

-- ---- the error block
abbrev answer_of : (kind : ℕ) → Result Ended → Result Answer
answer_of k o = onward o (λ e. stderr_answer k e.ends e.found)

-- an answer with another kind
abbrev kind_set : (kind : ℕ) → C.Answer → C.Answer
kind_set k a = record { outcome = a.outcome; kind = k; ends = a.ends; ends2 = a.ends2; found = a.found }

module _ (k i : ℕ) (g : error_groups k ≡ groups_at i) (s : List ℕ) (at : ℕ) (r : Record) (l : ℕ) (w : (version_of l ≡ version 0 0) × (first_of l ≡ i)) where
  block_tree : layout_tree l ≡ error_block k
  unfolding error_block
  block_tree = tree_of l (version 0 0) i w ∙ ap (layout (version 0 0)) (sym g)

  module _ (slots : ℕ) (a : C.Answer) (j : a ≡ answer_as (ended_as (judge_of s slots 0 r (pieces_of l s at)))) where
    abbrev said : Result Ended
    said = judge_of s slots 0 r (run (error_block k) s at)

    judged_is : a ≡ answer_as (ended_as said)
    judged_is = j ∙ ap (λ (t : Tree). answer_as (ended_as (judge_of s slots 0 r (run t s at)))) block_tree

    fine_answer : a.outcome ≡ (Ok tt) → kind_set k a ≡ answer_as (answer_of k said)
    fine_answer f =
        let e = ended_fine said _ (answer_fine a (ended_as said) judged_is f) in
        ap (kind_set k) (judged_is ∙ ap (λ (o : Result Ended). answer_as (ended_as o)) e) ∙ ap (λ (o : Result Ended). answer_as (answer_of k o)) (sym e)

    refused_answer : (y : Refusal) → a.outcome ≡ Err y → a ≡ answer_as (answer_of k said)
    refused_answer y f =
        let e = ended_refused said y.which y.place y.stream (answer_refused a (ended_as said) y judged_is f) in
        judged_is ∙ ap (λ (o : Result Ended). answer_as (ended_as o)) e ∙ ap (λ (o : Result Ended). answer_as (answer_of k o)) (sym e)

    -- in a form of entries
    module _ {A : Type 0} (form : List ℕ → List A) (lent : List A) where
      abbrev BlockRead : C.Answer → List A → Type 0
      BlockRead b out = (b ≡ answer_as (answer_of k said)) × (out ≡ filled_after said (form (entries_of (run (error_block k) s at))) lent)

      pub block_refused : (y : Refusal) → a.outcome ≡ Err y → BlockRead a lent
      block_refused y f = (
        refused_answer y f,
        ap (λ (o : Result Ended). filled_after o (form (entries_of (run (error_block k) s at))) lent)
            (sym (ended_refused said y.which y.place y.stream (answer_refused a (ended_as said) y judged_is f))),
      )

      pub block_filled_lem : a.outcome ≡ (Ok tt) → (out : List A) (n : ℕ) → Put lent 0 (form (entries_of (pieces_there l s at))) out n → BlockRead (kind_set k a) out
      block_filled_lem f out n p =
          let e = ended_fine said _ (answer_fine a (ended_as said) judged_is f) in (
            fine_answer f,
            put_sets lent (form (entries_of (pieces_there l s at))) out n p
                ∙ ap (λ (y : Pieces). sets lent 0 (form (entries_of y))) (layout_there l block_tree s at slots 0 r _ e)
                ∙ ap (λ (o : Result Ended). filled_after o (form (entries_of (run (error_block k) s at))) lent) (sym e),
          )

-- ---- the entries of what is read fit
module _ (k : ℕ) (s : List ℕ) (slots : ℕ) (y : Answer) where
  block_fits : (x : L.Stopped) (o : Result Ended) → judge_of s slots 0 (stopped_record x) (run (error_block k) s x.ends) ≡ o → answer_of k o ≡ ok y
      → length (entries_of (run (error_block k) s x.ends)) ≤ 2 * slots
  block_fits x (ok z) q e =
      let f = (judge_read s slots 0 (stopped_record x) (run (error_block k) s x.ends) z q).fits (omega arith) (omega arith) in
      let l = entries_length (run (error_block k) s x.ends) in
      omega (arith, f)
  block_fits x (refused which place stream) q e = absurd (never_both e)

  fits_by : (b : Bool) (x : L.Stopped) → if_error k b x (λ u. judge_of s slots 0 (stopped_record x) (run (error_block k) s x.ends)) ≡ ok y
      → length (entries_of (pick b (run (error_block k) s x.ends) (end x.ends))) ≤ 2 * slots
  unfolding entries_of
  fits_by true x e = block_fits x _ refl e
  fits_by false x e = omega arith

  error_fits : (o : Result L.Stopped) → onward o (λ x. if_error k (eqb x.code Error) x (λ u. judge_of s slots 0 (stopped_record x) (run (error_block k) s x.ends))) ≡ ok y
      → length (entries_of (error_pieces k s o)) ≤ 2 * slots
  unfolding error_pieces
  error_fits (ok x) e = fits_by (eqb x.code Error) x e
  error_fits (refused which place stream) e = absurd (never_both e)

pub with_error_fits : (k : ℕ) (s : List ℕ) (slots : ℕ) (y : Answer) → read_stderr_with_error k s slots ≡ ok y → length (entries_of (error_pieces k s (stderr_loop s))) ≤ 2 * slots
unfolding read_stderr_with_error
with_error_fits k s slots y e = error_fits k s slots y (stderr_loop s) e

-- ---- the answer with what the room holds afterwards
abbrev ErrorRead : {A : Type 0} (k : ℕ) (s : List ℕ) (slots : ℕ) (form : List ℕ → List A) (r : C.Answer) (lent out : List A) → Type 0
ErrorRead k s slots form r lent out =
    (r ≡ answer_as (read_stderr_with_error k s slots)) × (out ≡ filled_after (read_stderr_with_error k s slots) (form (entries_of (error_pieces k s (stderr_loop s)))) lent)

-- ---- the loop's answers
module _ (s : List ℕ) (l : Std.Result Stopped Refusal) (e : stopped_as l ≡ stderr_loop s) where
  loop_as : (y : Std.Result Stopped Refusal) → l ≡ y → stderr_loop s ≡ stopped_as y
  loop_as y q = sym e ∙ ap stopped_as q

  module _ (y : Refusal) (q : l ≡ Err y) where
    pub loop_refused : (x : C.Answer) → x ≡ answer_as (refused_by y) → x ≡ answer_as (read_stderr_loop s)
    unfolding read_stderr_loop
    loop_refused x h = h ∙ ap (λ (o : Result L.Stopped). answer_as (onward o (λ x. stderr_answer 0 x.ends (stopped_record x)))) (sym (loop_as (Err y) q))

    error_refused_is : (k slots : ℕ) → read_stderr_with_error k s slots ≡ refused_by y
    unfolding read_stderr_with_error
    error_refused_is k slots = rw (loop_as (Err y) q)

    pub error_refused : {A : Type 0} (k slots : ℕ) (form : List ℕ → List A) (x : C.Answer) (lent : List A) → x ≡ answer_as (refused_by y) → ErrorRead k s slots form x lent lent
    error_refused k slots form x lent h =
        let e = sym (error_refused_is k slots) in
        (h ∙ ap answer_as e, ap (λ (o : Result Answer). filled_after o (form (entries_of (error_pieces k s (stderr_loop s)))) lent) e)

  module _ (m c n : ℕ) (q : l ≡ Ok (record { messages = m; code = c; ends = n })) (r : Record) (h : r ≡ record_for m c) where
    pub loop_stops : (x : C.Answer) → x ≡ answer_as (stderr_answer 0 n r) → x ≡ answer_as (read_stderr_loop s)
    unfolding read_stderr_loop
    loop_stops x p =
        p ∙ ap (λ (y : Record). answer_as (stderr_answer 0 n y)) h ∙
        ap (λ (o : Result L.Stopped). answer_as (onward o (λ x. stderr_answer 0 x.ends (stopped_record x)))) (sym (loop_as (Ok (record { messages = m; code = c; ends = n })) q))

    module _ (k slots : ℕ) where
      by_code : (b : Bool) → eqb c Error ≡ b
          → read_stderr_with_error k s slots ≡ if_error k b (record { messages = m; code = c; ends = n }) (λ u. judge_of s slots 0 r (run (error_block k) s n))
      unfolding read_stderr_with_error
      by_code b z = rw (loop_as (Ok (record { messages = m; code = c; ends = n })) q, z, h)

      pieces_by : (b : Bool) → eqb c Error ≡ b → error_pieces k s (stderr_loop s) ≡ pick b (run (error_block k) s n) (end n)
      unfolding error_pieces
      pieces_by b z = rw (loop_as (Ok (record { messages = m; code = c; ends = n })) q, z)

      module _ {A : Type 0} (form : List ℕ → List A) (x : C.Answer) (lent out : List A) where
        lent_answer : (o : Result Ended) (new : List A) → filled_after o new lent ≡ filled_after (answer_of k o) new lent
        lent_answer (ok x) new = refl
        lent_answer (refused which place stream) new = refl

        pub error_block_lem : c ≡ Error → x ≡ answer_as (answer_of k (judge_of s slots 0 r (run (error_block k) s n)))
            → out ≡ filled_after (judge_of s slots 0 r (run (error_block k) s n)) (form (entries_of (run (error_block k) s n))) lent → ErrorRead k s slots form x lent out
        error_block_lem z p q = (
          p ∙ ap answer_as (sym (by_code true (eq-eqb c Error z))),
          q ∙ lent_answer (judge_of s slots 0 r (run (error_block k) s n)) (form (entries_of (run (error_block k) s n))) ∙
              ap (λ (o : Result Answer). filled_after o (form (entries_of (run (error_block k) s n))) lent) (sym (by_code true (eq-eqb c Error z))) ∙
              ap (λ (y : Pieces). filled_after (read_stderr_with_error k s slots) (form (entries_of y)) lent) (sym (pieces_by true (eq-eqb c Error z))),
        )

      module _ (z : c ≡ Error → ⊥) where
        no_error_is : read_stderr_with_error k s slots ≡ stderr_answer 0 n r
        no_error_is = by_code false (ne_eqb c Error z) ∙ ap (stderr_answer 0 n) (sym h)

        pub no_error : {A : Type 0} (form : List ℕ → List A) → form [] ≡ [] → (x : C.Answer) (lent : List A) → x ≡ answer_as (stderr_answer 0 n r) → ErrorRead k s slots form x lent lent
        unfolding entries_of
        no_error {A = A} form e x lent p = (
          p ∙ ap answer_as (sym no_error_is),
          ap (λ (o : Result Answer). filled_after o [] lent) (sym no_error_is) ∙ ap (λ (l : List A). filled_after (read_stderr_with_error k s slots) l lent) (sym e) ∙
              ap (λ (y : Pieces). filled_after (read_stderr_with_error k s slots) (form (entries_of y)) lent) (sym (pieces_by false (ne_eqb c Error z))),
        )
