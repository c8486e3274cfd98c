-- Demand 3, for every tree and so for every layout: what becomes of skipping, reading and entries where only contents, padding and chunks change, and what
-- `unless_bad` says; at any place, and from the start. That what follows stays as it was is `soft_rest` of Soft.
use Prim.Native.Nat.{ℕ, ◌+◌, ◌*◌, ◌≤◌, ◌<◌}
use mathlib.Core.Path.{◌≡◌, refl, sym, ◌∙◌, ap}
use mathlib.Core.List.{List, ◌++◌}
use mathlib.Core.Bool.{Bool, true, false}
use lib.ListN.{length, take, drop, length-append, length-take, length-drop, get_or-append}
use lib.Seq.{get_or-take, get_or-drop, ext_get_or}
use native.Mathlib.Omega.{arith}
use borrow.Author.Tests.{lt-ltb}
use Rattle.layouts.specs.declared.Record.{Record}
use Rattle.layouts.specs.Primitive.{pick, bad_text, Version, Result, ok, refused}
use Rattle.layouts.specs.Shape.{Group, Tree, layout}
use Rattle.layouts.specs.Pieces.{Pieces, number, text, half, chunk, end, fault, run, skip_of, total_of}
use Rattle.layouts.specs.Record.{blank, record_of}
use Rattle.layouts.specs.Judge.{not_text, text_end, Ended, judge_of, entries_of}
use Rattle.layouts.specs.Soft.{Softened, kept_of, unless_bad}
use Rattle.layouts.specs.Writers.{slots_of, entry_start, entry_length, view_of}
use Rattle.layouts.specs.Demands.{RefusedBy, Untouched, AllText, FirstBad, here, here_cut, after_number_lem, after_text, after_chunk_lem, Verdict, all_text, first_bad}
use Rattle.layouts.proofs.Soft.{soft_run_from}
use Rattle.layouts.proofs.Placed.{run_placed}
use Rattle.layouts.proofs.Judge.{not_bad, text_bad, judge_room, judge_read, judge_refused}
use Rattle.layouts.proofs.Trees.{layout_fails_by_15}

-- s' is as s but for soft bytes of what the tree has from a place on
module _ (t : Tree) (s s' : List ℕ) (at : ℕ) (h : at ≤ length s) (a : Softened (run t s at) s s') where
  -- skipping ends at the same byte, or is refused alike
  pub soft_skip_from : skip_of (run t s' at) ≡ skip_of (run t s at)
  soft_skip_from = ap skip_of (soft_run_from t s s' at h a)

  -- the strings that are kept stand at the same places
  pub soft_entries_from : entries_of (run t s' at) ≡ entries_of (run t s at)
  soft_entries_from = ap entries_of (soft_run_from t s s' at h a)

  -- reading, with any record so far and room for all, ends where skipping does with what s means, unless a decoded string of s' is not text
  pub soft_read_from : (slots room : ℕ) (sofar : Record) (e : ℕ) → skip_of (run t s at) ≡ ok e → sofar.entries + kept_of (run t s at) ≤ slots
      → sofar.payload + total_of (run t s at) ≤ room
      → judge_of s' slots room sofar (run t s' at) ≡ unless_bad s' (run t s at) (ok (record { found = record_of sofar (run t s at); ends = e }))
  soft_read_from slots room sofar e q l m = rw (soft_run_from t s s' at h a) (judge_room s' slots room sofar (run t s at) e q l m)

  -- the same of a read of s that answered
  pub soft_answer_from : (slots room : ℕ) (sofar : Record) (x : Ended) → sofar.entries ≤ slots → sofar.payload ≤ room
      → judge_of s slots room sofar (run t s at) ≡ ok x → judge_of s' slots room sofar (run t s' at) ≡ unless_bad s' (run t s at) (ok x)
  soft_answer_from slots room sofar x l m e =
      let z = judge_read s slots room sofar (run t s at) x e in
      let y = z.fits l m in
      soft_read_from slots room sofar x.ends z.skips y.0 y.1
      ∙ ap (λ r. unless_bad s' (run t s at) (ok (record { found = r; ends = x.ends }))) (sym z.holds)

-- the same from the start, with a blank record
module _ (t : Tree) (s s' : List ℕ) (a : Softened (run t s 0) s s') where
  pub soft_skip : skip_of (run t s' 0) ≡ skip_of (run t s 0)
  soft_skip = soft_skip_from t s s' 0 (omega arith) a

  pub soft_entries : entries_of (run t s' 0) ≡ entries_of (run t s 0)
  soft_entries = soft_entries_from t s s' 0 (omega arith) a

  pub soft_read : (slots room e : ℕ) → skip_of (run t s 0) ≡ ok e → kept_of (run t s 0) ≤ slots → total_of (run t s 0) ≤ room
      → judge_of s' slots room blank (run t s' 0) ≡ unless_bad s' (run t s 0) (ok (record { found = record_of blank (run t s 0); ends = e }))
  soft_read slots room e q l m = soft_read_from t s s' 0 (omega arith) a slots room blank e q (omega arith) (omega arith)

  pub soft_answer : (slots room : ℕ) (x : Ended) → judge_of s slots room blank (run t s 0) ≡ ok x
      → judge_of s' slots room blank (run t s' 0) ≡ unless_bad s' (run t s 0) (ok x)
  soft_answer slots room x e = soft_answer_from t s s' 0 (omega arith) a slots room blank x (omega arith) (omega arith) e

-- ---- what was not touched, in a stream that is as long
module _ (s s' : List ℕ) (same : length s' ≡ length s) where
  -- the contents of a string, or a chunk, are the same bytes
  pub soft_untouched : (start len : ℕ) → Untouched s s' start len → take len (drop start s') ≡ take len (drop start s)
  soft_untouched start len f =
      let l : length (take len (drop start s')) ≡ length (take len (drop start s)) = simp (length-take, length-drop, same) in
      let m : length (take len (drop start s')) ≤ len = simp length-take (omega arith) in
      ext_get_or 0 (take len (drop start s')) (take len (drop start s)) l
      (λ i h. let g : i < len = omega arith in simp (get_or-take, get_or-drop) (f (start + i) (omega arith) (omega arith)))

  -- string number i of any entries is the same
  pub view_untouched : (es : List ℕ) (i : ℕ) → Untouched s s' (entry_start es i) (entry_length es i) → view_of s' es i ≡ view_of s es i
  unfolding view_of
  view_untouched es i f = rw (same, soft_untouched (entry_start es i) (entry_length es i) f)

  -- string number i of those that a call has put in front of what was lent: as the entries es tell it of s
  pub view_kept : (es lent : List ℕ) (i : ℕ) → 2 * i + 1 < length es → Untouched s s' (entry_start es i) (entry_length es i) → view_of s' (es ++ lent) i ≡ view_of s es i
  unfolding view_of
  view_kept es lent i h f =
      let l = length-append es lent in
      let j : 2 * i < length es = omega arith in
      let a : i < slots_of es = omega arith in
      let b : i < slots_of (es ++ lent) = omega arith in
      let u = soft_untouched (entry_start es i) (entry_length es i) f in
      rw (lt-ltb i (slots_of (es ++ lent)) b, lt-ltb i (slots_of es) a, get_or-append es lent 0 (2 * i) j, get_or-append es lent 0 (2 * i + 1) h, same, u)

-- reading agrees with skipping: where a layout's skipping refuses, its reading refuses too, there or earlier
pub skip_refused : (v : Version) (gs : List Group) (s : List ℕ) (slots room which place : ℕ) → skip_of (run (layout v gs) s 0) ≡ refused which place 0
    → RefusedBy place (judge_of s slots room blank (run (layout v gs) s 0))
skip_refused v gs s slots room which place q = judge_refused s slots room blank (layout_fails_by_15 v gs) (run_placed (layout v gs) s 0 (omega arith)) q

pub never_true : false ≡ true → ⊥
never_true e = let z : ◌≡◌ {A = ℕ} 0 1 = cc in omega arith

module _ {A : Type 0} (s : List ℕ) where
  onto : {p q : Pieces} {o u : Result A} → (AllText s p → AllText s q) → ((x n : ℕ) → FirstBad s p x n → FirstBad s q x n) → Verdict s p o u → Verdict s q o u
  onto f g (all_text h) = all_text (f h)
  onto f g (first_bad {x} {n} h) = first_bad (g x n h)

  pub unless_bad_lem : (p : Pieces) (o : Result A) → Verdict s p o (unless_bad s p o)
  unfolding unless_bad
  unless_bad_lem (number i place n p) o = onto (λ h. h) (λ x n. after_number_lem) (unless_bad_lem p o)
  unless_bad_lem (text m start len p) o = by (not_text s m start len) refl (unless_bad_lem p o)
    where
      by : {u : Result A} (b : Bool) → not_text s m start len ≡ b → Verdict s p o u → Verdict s (text m start len p) o (pick b (refused bad_text (text_end s start len) 0) u)
      by true e h = let z = text_bad s m start len e in rw z.1 (first_bad (here z.2))
      by false e h = let f = not_bad s m start len e in onto (λ y. (f, y)) (λ x n. after_text f) h
  unless_bad_lem (half m start len) o = by (not_text s m start len) refl
    where
      by : (b : Bool) → not_text s m start len ≡ b → Verdict s (half m start len) o (pick b (refused bad_text (text_end s start len) 0) o)
      by true e = let z = text_bad s m start len e in rw z.1 (first_bad (here_cut z.2))
      by false e = all_text (not_bad s m start len e)
  unless_bad_lem (chunk start len p) o = onto (λ h. h) (λ x n. after_chunk_lem) (unless_bad_lem p o)
  unless_bad_lem (end place) o = all_text tt
  unless_bad_lem (fault which place) o = all_text tt
