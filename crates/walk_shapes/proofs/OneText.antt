-- A layout of one string: what is read of it, by how the string is judged, and what goes into the rooms.
use Prim.Native.Nat.{ℕ, ◌<◌}
use mathlib.Core.Path.{◌≡◌, refl, sym, ◌∙◌, ap, subst}
use mathlib.Core.Bool.{Bool, true, false}
use mathlib.Core.List.{List, [], ◌∷◌}
use lib.ListN.{length, replicate}
use lib.Seq.{sets}
use lib.Dec.{leb}
use native.Mathlib.Omega.{arith}
use borrow.Author.Tests.{le-leb, lt-leb}
use Rattle.layouts.specs.declared.Refusal.{Refusal}
use Rattle.layouts.specs.Primitive.{pick, number_at, Version, Result, ok, refused, onward}
use Rattle.layouts.specs.Refusal.{plain, refused_by}
use Rattle.layouts.specs.Shape.{kept, Tree, say, stop}
use Rattle.layouts.specs.Pieces.{Text, after_text, run, end}
use Rattle.layouts.specs.Record.{blank, with_entries, entered}
use Rattle.layouts.specs.Judge.{Ended, not_text, text_taken, half_taken, judge_of, entries_of, payload_of}
use Rattle.layouts.proofs.Views.{TextView, no_length, too_long_there, no_contents, no_padding, is_whole, text_view}
use Rattle.layouts.proofs.Placed.{never_both}
use Rattle.pieces.specs.Pieces.{Span, span, judged_read, span_of, string_at}
use Rattle.pieces.proofs.Numbers.{as_told}
use Rattle.table.specs.Packed.{first_code}
use Rattle.table.specs.Table.{kind_numbered}
use Rattle.walk_items.specs.Items.{version_of, layout_tree, pieces_of}
use Rattle.walk_judge.specs.declared.Answer.{Answer}
use Rattle.walk_judge.specs.Judged.{answer_of, answer_as}
use Rattle.walk_rooms.specs.Rooms.{Put, filled_after}
use Rattle.walk_rooms.proofs.Laws.{put_sets}
use Rattle.walk_read.specs.Reading.{read_by, answered_as}
use Rattle.walk_shapes.specs.declared.InBrief.{InBrief}
use Rattle.walk_shapes.specs.declared.InBrief.TheVariants as I
use Rattle.walk_shapes.specs.Shapes.{text_pieces, text_read, text_told, ReadInBrief}
use Rattle.walk_shapes.proofs.Brief.{lent_none}
use Rattle.pieces.specs.declared.Contents.{Contents}
use Rattle.std.specs.Prelude as Std
use Rattle.std.specs.Prelude.{Ok, Err}

abbrev entry_in : Result Span → List ℕ
entry_in (ok p) = p.start ∷ p.len ∷ []
entry_in (refused which place stream) = []

module _ (s : List ℕ) where
  -- as the string is judged; then, without a slot, by 4 at its length
  abbrev pub with_slots : (full : Bool) → Result Span → Result Ended
  with_slots full o = onward o (λ p. pick full (refused 4 0 0) (ok (record { found = with_entries blank 1; ends = p.ends })))

  judged_by : (slots room : ℕ) (b full : Bool) {t : Text} → TextView (length s) (number_at s 0) 0 t → not_text s kept 8 (number_at s 0) ≡ b → leb slots 0 ≡ full
      → judge_of s slots room blank (after_text t kept (λ a. end a)) ≡ with_slots full (span_of s kept t)
  unfolding span_of half_taken after_text judge_of text_taken entered
  judged_by slots room b full (no_length h) q f = refl
  judged_by slots room b full (too_long_there h l) q f = refl
  judged_by slots room b full (no_contents h l c) q f = refl
  judged_by slots room true full (no_padding h l c) q f = rw q
  judged_by slots room false full (no_padding h l c) q f = rw q
  judged_by slots room true full (is_whole h l) q f = rw q
  judged_by slots room false true (is_whole h l) q f = rw (q, f)
  judged_by slots room false false (is_whole h l) q f = rw (q, f)

  text_judged : (slots room : ℕ) (full : Bool) → leb slots 0 ≡ full → text_read s slots room ≡ with_slots full (string_at s true 0)
  unfolding run string_at
  text_judged slots room full f = judged_by slots room (not_text s kept 8 (number_at s 0)) full (text_view (length s) (number_at s 0) 0) refl f

  entries_by : (b : Bool) {t : Text} (start len next : ℕ) → TextView (length s) (number_at s 0) 0 t → not_text s kept 8 (number_at s 0) ≡ b → span_of s kept t ≡ ok (span start len next)
      → entries_of (after_text t kept (λ a. end a)) ≡ start ∷ len ∷ []
  unfolding span_of half_taken after_text entries_of
  entries_by b start len next (no_length h) q e = absurd (never_both e)
  entries_by b start len next (too_long_there h l) q e = absurd (never_both e)
  entries_by b start len next (no_contents h l c) q e = absurd (never_both e)
  entries_by true start len next (no_padding h l c) q e = absurd (never_both (rw q at e))
  entries_by false start len next (no_padding h l c) q e = absurd (never_both (rw q at e))
  entries_by true start len next (is_whole h l) q e = absurd (never_both (rw q at e))
  entries_by false start len next (is_whole h l) q e = ap entry_in (rw q at e)

  no_payload : payload_of s (text_pieces s) ≡ []
  unfolding run after_text payload_of
  no_payload = by (text_view (length s) (number_at s 0) 0)
    where
      by : {t : Text} → TextView (length s) (number_at s 0) 0 t → payload_of s (after_text t kept (λ a. end a)) ≡ []
      by (no_length h) = refl
      by (too_long_there h l) = refl
      by (no_contents h l c) = refl
      by (no_padding h l c) = refl
      by (is_whole h l) = refl

  -- ---- each way through the code that takes it
  module _ (t : Std.Result Contents Refusal) (e : judged_read t ≡ string_at s true 0) where
    pub judged_as_lem : (t' : Std.Result Contents Refusal) → t ≡ t' → (slots room : ℕ) (full : Bool) → leb slots 0 ≡ full → with_slots full (judged_read t') ≡ text_read s slots room
    judged_as_lem t' q slots room full f = ap (with_slots full) (as_told judged_read q e) ∙ sym (text_judged slots room full f)

    pub entries_are : (start len next : ℕ) → t ≡ Ok (record { start = start; len = len; next = next }) → entries_of (text_pieces s) ≡ start ∷ len ∷ []
    unfolding run string_at
    entries_are start len next q = entries_by (not_text s kept 8 (number_at s 0)) start len next (text_view (length s) (number_at s 0) 0) refl (sym (as_told judged_read q e))

    -- the room that stays, and that is filled
    abbrev Taken : {E : Type 0} → (laid : List ℕ → List E) → (slots : ℕ) → (lent out : List E) → Std.Result ℕ Refusal → Type 0
    Taken laid slots lent out r =
        ((room : ℕ) → text_told r ≡ text_read s slots room) × (out ≡ filled_after (text_told r) (laid (entries_of (text_pieces s))) lent)

    pub text_refused : {E : Type 0} (laid : List ℕ → List E) (x : Refusal) → t ≡ Err x → (slots : ℕ) (lent : List E) → Taken laid slots lent lent (Err x)
    text_refused laid x q slots lent = (λ room. judged_as_lem (Err x) q slots room (leb slots 0) refl, refl)

    module _ {E : Type 0} (laid : List ℕ → List E) (start len next : ℕ) (q : t ≡ Ok (record { start = start; len = len; next = next })) (slots : ℕ) (lent : List E) (n : ℕ) (g : n ≡ slots) where
      pub text_full : n ≡ 0 → (x : Refusal) → x ≡ plain 4 0 → Taken laid slots lent lent (Err x)
      text_full z x p =
          (λ room. ap refused_by p ∙ judged_as_lem (Ok (record { start = start; len = len; next = next })) q _ room true (le-leb slots 0 (omega arith)), refl)

      pub text_taken_lem : (n ≡ 0 → ⊥) → (out : List E) (i : ℕ) → Put lent 0 (laid (start ∷ len ∷ [])) out i → Taken laid slots lent out (Ok next)
      text_taken_lem z out i p = (
        λ room. judged_as_lem (Ok (record { start = start; len = len; next = next })) q _ room false (lt-leb slots 0 (omega arith)),
        put_sets lent _ out i p ∙ ap (λ (es : List ℕ). sets lent 0 (laid es)) (sym (entries_are start len next q)),
      )

-- ---- what is said of it
module _ (t : Std.Result ℕ Refusal) (c : ℕ) where
  pub said_refused : (x : Refusal) → t ≡ Err x → (a : Answer) → a ≡ answer_as (refused_by x) → (v : Version) → a ≡ answer_as (answered_as v c (text_told t))
  said_refused x q a e v = e ∙ ap (λ (y : Std.Result ℕ Refusal). answer_as (answered_as v c (text_told y))) (sym q)

  pub said_fine : (ends : ℕ) → t ≡ Ok ends → (k : ℕ) → ((v : Version) → k ≡ kind_numbered v false c)
      → (v : Version) → answer_of (Ok (record { kind = k; ends = ends; ends2 = 0; entries = 1; payload = 0; present = false })) (replicate 12 0) (replicate 3 0) ≡ answer_as (answered_as v c (text_told t))
  said_fine ends q k e v =
      ap (λ (x : ℕ). answer_of (Ok (record { kind = x; ends = ends; ends2 = 0; entries = 1; payload = 0; present = false })) (replicate 12 0) (replicate 3 0)) (e v) ∙ ap (λ (y : Std.Result ℕ Refusal). answer_as (answered_as v c (text_told y))) (sym q)

-- ---- for one who has matched on it
pub is_text_lem : (l c : ℕ) (s ns cs : List ℕ) (b : InBrief) → ReadInBrief l c s ns cs b → b ≡ I.Text → (layout_tree l ≡ say kept (λ u. stop)) × (c < first_code)
is_text_lem l c s ns cs b h q = subst (ReadInBrief l c s ns cs) q h

module _ (l c : ℕ) (z : layout_tree l ≡ say kept (λ u. stop)) (s : List ℕ) {E : Type 0} (laid : List ℕ → List E) (slots : ℕ) (lent : List E) (payload : List ℕ) (r : Std.Result ℕ Refusal)
    (e : (room : ℕ) → text_told r ≡ text_read s slots room) (a : Answer) (h : (v : Version) → a ≡ answer_as (answered_as v c (text_told r))) where
  abbrev read : Result Ended
  read = read_by l s slots (length payload)

  told : text_told r ≡ read
  told = e (length payload) ∙ ap (λ (t : Tree). judge_of s slots (length payload) blank (run t s 0)) (sym z)

  lent_as : (out : List E) → out ≡ filled_after (text_told r) (laid (entries_of (text_pieces s))) lent → out ≡ filled_after read (laid (entries_of (pieces_of l s 0))) lent
  lent_as out q =
      q ∙ ap (λ (o : Result Ended). filled_after o (laid (entries_of (text_pieces s))) lent) told ∙ ap (λ (t : Tree). filled_after read (laid (entries_of (run t s 0))) lent) (sym z)

  pub text_read_lem : (out : List E) → out ≡ filled_after (text_told r) (laid (entries_of (text_pieces s))) lent
      → (a ≡ answer_as (answered_as (version_of l) c read))
      × ((out ≡ filled_after read (laid (entries_of (pieces_of l s 0))) lent) × (payload ≡ filled_after read (payload_of s (pieces_of l s 0)) payload))
  text_read_lem out f = (
    h (version_of l) ∙ ap (λ (o : Result Ended). answer_as (answered_as (version_of l) c o)) told,
    (lent_as out f, lent_none read _ payload (ap (λ (t : Tree). payload_of s (run t s 0)) z ∙ no_payload s)),
  )
