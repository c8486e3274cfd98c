-- A judged layout, filled: what it reports fits, and is what `layouts` says of lent memory.
use Prim.Native.Nat.{ℕ, ◌+◌, ◌*◌, ◌/◌, ◌≤◌, min}
use mathlib.Core.Path.{◌≡◌, refl, sym, ◌∙◌, ap, subst}
use mathlib.Core.List.{List, [], ◌∷◌, ◌++◌}
use mathlib.Core.Bool.{Bool, true, false, ◌||◌, true≢false}
use lib.Dec.{ltb}
use borrow.Author.Tests.{ltb-false}
use native.Mathlib.Omega.{arith}
use lib.ListN.{length, get_or, take, drop, replicate, length-take}
use lib.Seq.{sets, sets-eq, length-sets, take_all, take-append_seam}
use Rattle.layouts.specs.declared.Record.{Record}
use Rattle.layouts.specs.declared.Refusal.{Refusal}
use Rattle.layouts.specs.Primitive.{Version, Result, ok, refused}
use Rattle.layouts.specs.Refusal.{refused_by}
use Rattle.layouts.specs.Pieces.{Pieces, total_of}
use Rattle.layouts.specs.Record.{blank}
use Rattle.layouts.specs.Judge.{Ended, entries_of, payload_of}
use Rattle.layouts.specs.Soft.{kept_of}
use Rattle.layouts.specs.Operations.{Kinds, kind_of}
use Rattle.layouts.specs.Calls.{answered}
use Rattle.layouts.specs.Demands.{Read}
use Rattle.layouts.proofs.Judge.{judge_read, record_room, entries_length, payload_length}
use Rattle.layouts.proofs.Placed.{run_placed}
use Rattle.table.specs.Table.{kind_numbered}
use Rattle.walk_items.specs.declared.Brief.{Brief}
use Rattle.walk_items.specs.Items.{version_of, layout_tree, pieces_of, Briefly}
use Rattle.walk_take.specs.Taking.{in_window}
use Rattle.walk_judge.specs.Judged.{gathered, answer_of, answer_as, ended_as, window_after}
use Rattle.walk_judge.proofs.Answers.{said_fine, said_refused, ended_fine, ended_refused}
use Rattle.walk_rooms.specs.Rooms.{filled_after}
use Rattle.walk_fill.specs.There.{pieces_there}
use Rattle.walk_fill.proofs.There.{all_there}
use Rattle.walk_read.specs.Reading.{read_by, answered_as, Planned}
use Rattle.walk_judge.specs.declared.Said.{Said}
use Rattle.std.specs.Prelude as Std
use Rattle.std.specs.Prelude.{Ok, Err}

none_there : (xs : List ℕ) → length xs ≡ 0 → xs ≡ []
none_there [] e = refl
none_there (x ∷ xs) e = absurd (omega arith)

-- as many entries as a window holds stand at its front
in_window_lem : (es : List ℕ) (n : ℕ) (w : List ℕ) → length es ≡ 2 * n → n ≤ 8 → w ≡ in_window (replicate 16 0) 0 es → take (2 * n) w ≡ es
in_window_lem es n w c h e =
    let a : take 16 es ≡ es = take_all 16 es (omega arith) in
    ap (take (2 * n)) (e ∙ ap (sets (replicate 16 0) 0) a ∙ sets-eq es (replicate 16 0) 0 (omega arith))
    ∙ ap (λ (k : ℕ). take k (es ++ drop (0 + length es) (replicate 16 0))) (sym c)
    ∙ take-append_seam es (drop (0 + length es) (replicate 16 0))

window_is : (es : List ℕ) → in_window (replicate 16 0) 0 es ≡ take 16 es ++ drop (0 + length (take 16 es)) (replicate 16 0)
window_is es = sets-eq (take 16 es) (replicate 16 0) 0 (simp length-take (omega arith))

first_by : (es : List ℕ) → get_or (take 16 es ++ drop (0 + length (take 16 es)) (replicate 16 0)) 0 0 ≡ get_or es 0 0
first_by [] = refl
first_by (x ∷ es) = refl

second_by : (es : List ℕ) → get_or (take 16 es ++ drop (0 + length (take 16 es)) (replicate 16 0)) 1 0 ≡ get_or es 1 0
second_by [] = refl
second_by (x ∷ []) = refl
second_by (x ∷ y ∷ es) = refl

-- the first entry of a window
pub first_in : (es w : List ℕ) → w ≡ in_window (replicate 16 0) 0 es → (get_or w 0 0 ≡ get_or es 0 0) × (get_or w 1 0 ≡ get_or es 1 0)
first_in es w e = (ap (λ (x : List ℕ). get_or x 0 0) (e ∙ window_is es) ∙ first_by es, ap (λ (x : List ℕ). get_or x 1 0) (e ∙ window_is es) ∙ second_by es)

-- ---- the judgement of a layout
module _ (l : ℕ) (s : List ℕ) (slots room : ℕ) (c : ℕ) where
  abbrev said : Result Ended
  said = read_by l s slots room

  -- lent rooms, and what they are afterwards
  abbrev Lent : {E : Type 0} → (laid : List ℕ → List E) → (lent : List E) → (payload : List ℕ) → (out : List E) → (ps : List ℕ) → Type 0
  Lent laid lent payload out ps =
      (out ≡ filled_after said (laid (entries_of (pieces_of l s 0))) lent) × (ps ≡ filled_after said (payload_of s (pieces_of l s 0)) payload)

  module _ (x : Ended) (e : said ≡ ok x) where
    reads : Read slots room blank (pieces_of l s 0) x
    reads = judge_read s slots room blank (pieces_of l s 0) x e

    counted : length (entries_of (pieces_of l s 0)) ≡ 2 * x.found.entries
    counted =
        let n = entries_length (pieces_of l s 0) in
        let k : x.found.entries ≡ 0 + kept_of (pieces_of l s 0) = ap (λ (r : Record). r.entries) reads.holds ∙ (record_room blank (pieces_of l s 0)).0 in
        omega arith

    totalled : length (payload_of s (pieces_of l s 0)) ≡ x.found.payload
    totalled =
        let m = payload_length s (run_placed (layout_tree l) s 0 (omega arith)) in
        let t : x.found.payload ≡ 0 + total_of (pieces_of l s 0) = ap (λ (r : Record). r.payload) reads.holds ∙ (record_room blank (pieces_of l s 0)).1 in
        omega arith

    planned : (w : List ℕ) → w ≡ in_window (replicate 16 0) 0 (entries_of (pieces_of l s 0)) → Planned w x.found.entries x.found.payload s l
    planned w e =
        let c = counted in
        let t = totalled in
        record {
          wide = ap length e ∙ length-sets (replicate 16 0) 0 (take 16 (entries_of (pieces_of l s 0)));
          kept = λ h. in_window_lem (entries_of (pieces_of l s 0)) x.found.entries w c h e;
          chunks = λ z. none_there (payload_of s (pieces_of l s 0)) (omega arith);
          there = all_there s (layout_tree l) 0 x.ends reads.skips;
        }

  module _ (n# : ℕ) (same : n# ≡ slots) (a : Std.Result Said Refusal) (ns cs : List ℕ) (judged : answer_of a ns cs ≡ answer_as (ended_as (read_by l s n# room))) where
    j : answer_of a ns cs ≡ answer_as (ended_as said)
    j = judged ∙ ap (λ (i : ℕ). answer_as (ended_as (read_by l s i room))) same

    module _ (r : Refusal) (q : a ≡ Err r) where
      pub refused_is : said ≡ refused_by r
      refused_is = ended_refused said r.which r.place r.stream (said_refused a ns cs (ended_as said) j r q)

      pub read_refused : answer_of a ns cs ≡ answer_as (answered_as (version_of l) c said)
      read_refused = j ∙ ap (λ (o : Result Ended). answer_as (ended_as o)) refused_is ∙ ap (λ (o : Result Ended). answer_as (answered_as (version_of l) c o)) (sym refused_is)

      lent_kept : {E : Type 0} (new lent : List E) → lent ≡ filled_after said new lent
      lent_kept new lent = ap (λ (o : Result Ended). filled_after o new lent) (sym refused_is)

      pub all_kept : {E : Type 0} (laid : List ℕ → List E) (lent : List E) (payload : List ℕ) → Lent laid lent payload lent payload
      all_kept laid lent payload = (lent_kept _ lent, lent_kept _ payload)

    module _ (kind ends ends2 n p : ℕ) (b : Bool) (q : a ≡ Ok (record { kind = kind; ends = ends; ends2 = ends2; entries = n; payload = p; present = b })) where
      pub fine_is : said ≡ ok (record { found = gathered ns cs b n p; ends = ends })
      fine_is = ended_fine said _ (said_fine a ns cs (ended_as said) j kind ends ends2 n p b q)

      pub fine_planned : (w : List ℕ) → w ≡ window_after a (replicate 16 0) 0 (entries_of (pieces_of l s 0)) → Planned w n p s l
      fine_planned w h = planned (record { found = gathered ns cs b n p; ends = ends }) fine_is w (h ∙ ap (λ (y : Std.Result Said Refusal). window_after y (replicate 16 0) 0 (entries_of (pieces_of l s 0))) q)

      pub read_fine : (k : ℕ) → k ≡ kind_numbered (version_of l) b c → answer_of (Ok (record { kind = k; ends = ends; ends2 = 0; entries = n; payload = p; present = b })) ns cs ≡ answer_as (answered_as (version_of l) c said)
      read_fine k e = ap (λ (x : ℕ). answer_of (Ok (record { kind = x; ends = ends; ends2 = 0; entries = n; payload = p; present = b })) ns cs) e ∙ ap (λ (o : Result Ended). answer_as (answered_as (version_of l) c o)) (sym fine_is)

      lent_filled : {E : Type 0} (new lent out : List E) → out ≡ sets lent 0 new → out ≡ filled_after said new lent
      lent_filled new lent out h = h ∙ ap (λ (o : Result Ended). filled_after o new lent) (sym fine_is)

      pub all_filled : {E : Type 0} (laid : List ℕ → List E) (lent : List E) (payload : List ℕ) (out : List E) (ps : List ℕ)
          → (out ≡ sets lent 0 (laid (entries_of (pieces_of l s 0)))) × (ps ≡ sets payload 0 (payload_of s (pieces_of l s 0))) → Lent laid lent payload out ps
      all_filled laid lent payload out ps h = (lent_filled _ lent out h.0, lent_filled _ payload ps h.1)

-- ---- the filler
neither : (x y : Bool) → x || y ≡ false → (x ≡ false) × (y ≡ false)
neither true y e = absurd (true≢false e)
neither false y e = (refl, e)

module _ (w : List ℕ) (entries total : ℕ) (s : List ℕ) (l : ℕ) (h : Planned w entries total s l) where
  abbrev p : Pieces
  p = pieces_of l s 0

  pub from_fold : {E : Type 0} (f : Pieces → List E) (lent out : List E) → out ≡ sets lent 0 (f (pieces_there l s 0)) → out ≡ sets lent 0 (f p)
  from_fold f lent out e = e ∙ ap (λ (x : Pieces). sets lent 0 (f x)) h.there

  module _ (few : ltb 0 total || ltb 8 entries ≡ false) where
    pub from_window : {E : Type 0} (f : List ℕ → List E) (lent out : List E) → out ≡ sets lent 0 (f (take (2 * min entries (length w / 2)) w)) → out ≡ sets lent 0 (f (entries_of p))
    from_window f lent out e =
        let d = h.wide in
        let b = ltb-false 8 entries (neither (ltb 0 total) (ltb 8 entries) few).1 in
        let k : min entries (length w / 2) ≡ entries = omega arith in
        e ∙ ap (λ (n : ℕ). sets lent 0 (f (take (2 * n) w))) k ∙ ap (λ (x : List ℕ). sets lent 0 (f x)) (h.kept b)

    pub no_payload : (lent : List ℕ) → lent ≡ sets lent 0 (payload_of s p)
    no_payload lent = ap (sets lent 0) (sym (let a = ltb-false 0 total (neither (ltb 0 total) (ltb 8 entries) few).0 in h.chunks (omega arith)))

-- ---- a layout that needs no fold, for one who has matched on it
pub brief_is : (l : ℕ) (x y : Brief) → Briefly (layout_tree l) x → x ≡ y → Briefly (layout_tree l) y
brief_is l x y h q = subst (Briefly (layout_tree l)) q h

-- ---- kinds by their code
module _ (v : Version) (k : Kinds) (c : ℕ) (e : (b : Bool) → kind_of v b k ≡ kind_numbered v b c) where
  pub answered_by : (o : Result Ended) → answered_as v c o ≡ answered v k o
  answered_by (ok x) = rw (e x.found.present)
  answered_by (refused which place stream) = refl
