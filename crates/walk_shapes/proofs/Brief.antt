-- A layout that needs no fold: what is said of it, and that it fills nothing in.
use Prim.Native.Nat.{ℕ, ◌+◌, ◌≤◌, ◌<◌}
use mathlib.Core.Path.{◌≡◌, refl, sym, ◌∙◌, ap, subst}
use mathlib.Core.List.{List, []}
use mathlib.Core.Bool.{false}
use lib.ListN.{length, set, replicate}
use lib.Seq.{sets}
use Rattle.layouts.specs.declared.Refusal.{Refusal}
use Rattle.layouts.specs.Primitive.{Result, ok, refused, number_at}
use Rattle.layouts.specs.Refusal.{plain, refused_by}
use Rattle.layouts.specs.Shape.{as_number, Tree, ask, stop}
use Rattle.layouts.specs.Pieces.{Num, value, short, run}
use Rattle.layouts.specs.Record.{blank, noted}
use Rattle.layouts.specs.Judge.{Ended, judge_of, entries_of, payload_of}
use Rattle.layouts.specs.Calls.{peek_number}
use Rattle.layouts.proofs.Views.{num_short, num_value}
use Rattle.pieces.specs.Pieces.{num_read}
use Rattle.pieces.proofs.Nodes.{ask_cut, ask_found}
use Rattle.table.specs.Table.{kind_numbered}
use Rattle.walk_items.specs.Items.{version_of, layout_tree, pieces_of}
use Rattle.walk_judge.specs.declared.Answer.{Answer}
use Rattle.walk_judge.specs.Judged.{answer_of, answer_as}
use Rattle.walk_rooms.specs.Rooms.{filled_after}
use Rattle.walk_read.specs.Reading.{read_by, answered_as}
use Rattle.walk_shapes.specs.declared.InBrief.{InBrief}
use Rattle.walk_shapes.specs.declared.InBrief.TheVariants as I
use Rattle.walk_shapes.specs.Shapes.{ReadInBrief}
use Rattle.walk_judge.specs.declared.Said.{Said}
use Rattle.std.specs.Prelude as Std
use Rattle.std.specs.Prelude.{Option, Some, None, Ok}

module _ (l c : ℕ) where
  abbrev Answers : List ℕ → Answer → Type 0
  Answers s a = (slots room : ℕ) → a ≡ answer_as (answered_as (version_of l) c (read_by l s slots room))

  said_as : (s : List ℕ) (slots room : ℕ) (o : Result Ended) → read_by l s slots room ≡ o → answer_as (answered_as (version_of l) c o) ≡ answer_as (answered_as (version_of l) c (read_by l s slots room))
  said_as s slots room o e = ap (λ (x : Result Ended). answer_as (answered_as (version_of l) c x)) (sym e)

  -- ---- no field
  module _ (z : layout_tree l ≡ stop) where
    pub nothing_said : (k : ℕ) → k ≡ kind_numbered (version_of l) false c → (s : List ℕ) → Answers s (answer_of (Ok (record { kind = k; ends = 0; ends2 = 0; entries = 0; payload = 0; present = false })) (replicate 12 0) (replicate 3 0))
    unfolding run judge_of
    nothing_said k e s slots room =
        ap (λ (x : ℕ). answer_of (Ok (record { kind = x; ends = 0; ends2 = 0; entries = 0; payload = 0; present = false })) (replicate 12 0) (replicate 3 0)) e
        ∙ said_as s slots room (ok (record { found = blank; ends = 0 })) (ap (λ (t : Tree). judge_of s slots room blank (run t s 0)) z)

    pub nothing_there : (s : List ℕ) → (entries_of (pieces_of l s 0) ≡ []) × (payload_of s (pieces_of l s 0) ≡ [])
    unfolding run entries_of payload_of
    nothing_there s = (ap (λ (t : Tree). entries_of (run t s 0)) z, ap (λ (t : Tree). payload_of s (run t s 0)) z)

  -- ---- a number
  module _ (z : layout_tree l ≡ ask (as_number 0) (λ n. stop)) (s : List ℕ) where
    pub short_said : (r : Refusal) → (length s < 0 + 8) × (r ≡ plain 1 0) → Answers s (answer_as (refused_by r))
    unfolding judge_of
    short_said r known slots room =
        ap (λ (x : Refusal). answer_as (refused_by x)) known.1
        ∙ said_as s slots room (refused 1 0 0) (ap (λ (t : Tree). judge_of s slots room blank (run t s 0)) z ∙ ap (judge_of s slots room blank) (ask_cut s 0 None (sym (num_short _ _ _ known.0)) refl (as_number 0) (λ n. stop)))

    pub number_said : (x k : ℕ) → (0 + 8 ≤ length s) × (x ≡ number_at s 0) → k ≡ kind_numbered (version_of l) false c → Answers s (answer_of (Ok (record { kind = k; ends = 8; ends2 = 0; entries = 0; payload = 0; present = false })) (set (replicate 12 0) 0 x) (replicate 3 0))
    unfolding run judge_of noted
    number_said x k known g slots room =
        let e : num_read (Some x) ≡ peek_number s 0 = ap value known.1 ∙ sym (num_value _ _ _ known.0) in
        ap (λ (y : ℕ). answer_of (Ok (record { kind = y; ends = 8; ends2 = 0; entries = 0; payload = 0; present = false })) (set (replicate 12 0) 0 x) (replicate 3 0)) g
        ∙ said_as s slots room (ok (record { found = noted blank (as_number 0) x; ends = 8 }))
        (ap (λ (t : Tree). judge_of s slots room blank (run t s 0)) z ∙ ap (judge_of s slots room blank) (ask_found s 0 (Some x) e x refl (as_number 0) (λ n. stop)))

  number_none : (s : List ℕ) (m : Option ℕ) → num_read m ≡ peek_number s 0 → (entries_of (run (ask (as_number 0) (λ n. stop)) s 0) ≡ []) × (payload_of s (run (ask (as_number 0) (λ n. stop)) s 0) ≡ [])
  unfolding run entries_of payload_of
  number_none s (Some x) e = (ap entries_of (ask_found s 0 (Some x) e x refl (as_number 0) (λ n. stop)), ap (payload_of s) (ask_found s 0 (Some x) e x refl (as_number 0) (λ n. stop)))
  number_none s None e = (ap entries_of (ask_cut s 0 None e refl (as_number 0) (λ n. stop)), ap (payload_of s) (ask_cut s 0 None e refl (as_number 0) (λ n. stop)))

  number_by : (s : List ℕ) (y : Num) → peek_number s 0 ≡ y → (entries_of (run (ask (as_number 0) (λ n. stop)) s 0) ≡ []) × (payload_of s (run (ask (as_number 0) (λ n. stop)) s 0) ≡ [])
  number_by s (value x) q = number_none s (Some x) (sym q)
  number_by s short q = number_none s None (sym q)

  pub number_there : layout_tree l ≡ ask (as_number 0) (λ n. stop) → (s : List ℕ) → (entries_of (pieces_of l s 0) ≡ []) × (payload_of s (pieces_of l s 0) ≡ [])
  number_there z s =
      let h = number_by s (peek_number s 0) refl in
      (ap (λ (t : Tree). entries_of (run t s 0)) z ∙ h.0, ap (λ (t : Tree). payload_of s (run t s 0)) z ∙ h.1)

-- ---- for one who has matched on it: the answer, and rooms that stay
pub lent_none : {A E : Type 0} (o : Result A) (new lent : List E) → new ≡ [] → lent ≡ filled_after o new lent
lent_none (ok a) new lent e = ap (sets lent 0) (sym e)
lent_none (refused which place stream) new lent e = refl

module _ (l c : ℕ) (s ns cs : List ℕ) (b : InBrief) (h : ReadInBrief l c s ns cs b) (a : Std.Result Said Refusal) (q : b ≡ I.Said a) where
  told : ReadInBrief l c s ns cs (I.Said a)
  told = subst (ReadInBrief l c s ns cs) q h

  pub brief_read : {E : Type 0} (laid : List ℕ → List E) (nothing : laid [] ≡ []) (slots room : ℕ) (lent : List E) (payload : List ℕ)
      → (answer_of a ns cs ≡ answer_as (answered_as (version_of l) c (read_by l s slots room)))
      × ((lent ≡ filled_after (read_by l s slots room) (laid (entries_of (pieces_of l s 0))) lent) × (payload ≡ filled_after (read_by l s slots room) (payload_of s (pieces_of l s 0)) payload))
  brief_read laid nothing slots room lent payload =
      let o = read_by l s slots room in
      let e = told.1.0 in
      (told.0 slots room, (lent_none o _ lent (ap laid e ∙ nothing), lent_none o _ payload told.1.1))
