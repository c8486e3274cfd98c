-- Each public contract has one answer: two answers that meet it, with the window at exit, are equal. Where nothing follows, the laws say what was answered.
-- `Post` is what Rattle reads off the source.
use Prim.Native.Nat.{ℕ}
use mathlib.Core.Path.{◌≡◌, refl, sym, ◌∙◌, ap}
use mathlib.Core.List.{List, []}
use contract.Lifetimes.{Lfts}
use borrow.Fn.Kinds.{Dens, ended_of}
use denote.Triple.Clauses.{AtExit}
use Rattle.layouts.specs.declared.Record.{Record}
use Rattle.layouts.specs.Primitive.{Result, ok, refused}
use Rattle.layouts.specs.Refusal.{refusal}
use Rattle.layouts.specs.Shape.{Tree, frames, stop}
use Rattle.layouts.specs.Pieces.{run}
use Rattle.layouts.specs.Record.{blank, with_entries, with_payload}
use Rattle.layouts.specs.Judge.{Ended, judge_of}
use Rattle.walk_take.specs.Taking.{kept_of, held, series_to, series_held, Takes, frames_to, TakesFrames}
use Rattle.walk_take.proofs.Pieces.{nothing_in}
use Rattle.walk_take.proofs.judge_series.Reads as judge-series
use Rattle.walk_take.proofs.judge_series.Kinds as judge-series-kinds
use Rattle.walk_take.proofs.judge_text.Reads as judge-text
use Rattle.walk_take.proofs.judge_text.Kinds as judge-text-kinds
use Rattle.walk_take.proofs.drop_number.Reads as drop-number
use Rattle.walk_take.proofs.drop_number.Kinds as drop-number-kinds
use Rattle.walk_take.proofs.judge_frames.Reads as judge-frames
use Rattle.walk_take.proofs.judge_frames.Kinds as judge-frames-kinds
use Rattle.walk_take.specs.declared.Series.{Series}
use Rattle.std.specs.Prelude as Std
use Rattle.layouts.specs.declared.Refusal.{Refusal}
use Rattle.std.specs.Prelude.{Ok, Err}

abbrev nothing : Unit {0} → Tree
nothing u = stop

-- ---- the answer, and the window, by what is judged with nothing after it
abbrev series_by : (Record → ℕ) → Result Ended → Std.Result Series Refusal
series_by f (ok e) = Ok (record { at = e.ends; entries = (f e.found) })
series_by f (refused which place stream) = Err (refusal which place stream)

module _ (s : List ℕ) (slots n : ℕ) where
  series_back : (r : Std.Result Series Refusal) → series_by (λ x. x.entries) (series_to s slots 0 (with_entries blank n) nothing r) ≡ r
  unfolding run judge_of
  series_back (Ok k) = refl
  series_back (Err r) = refl

  held_back : (w : List ℕ) (r : Std.Result Series Refusal) → series_held s slots w nothing r ≡ w
  unfolding run kept_of
  held_back w (Ok k) = nothing_in w k.entries
  held_back w (Err r) = refl

  module _ (at : ℕ) (t : (Unit {0} → Tree) → Tree) (w w' : List ℕ) (r : Std.Result Series Refusal) (h : Takes s slots at t w n w' r) where
    series_told : r ≡ series_by (λ x. x.entries) (judge_of s slots 0 (with_entries blank n) (run (t nothing) s at))
    series_told = sym (ap (series_by (λ x. x.entries)) (h.judges 0 nothing (with_entries blank n) refl) ∙ series_back r)

    window_told : w' ≡ held s slots w n (run (t nothing) s at)
    window_told = sym (h.holds nothing ∙ held_back w' r)

module _ (s : List ℕ) (room n : ℕ) where
  frames_back : (r : Std.Result Series Refusal) → series_by (λ x. x.payload) (frames_to s 0 room (with_payload blank n) nothing r) ≡ r
  unfolding run judge_of
  frames_back (Ok k) = refl
  frames_back (Err r) = refl

  frames_told : (at : ℕ) (r : Std.Result Series Refusal) → TakesFrames s room at n r → r ≡ series_by (λ x. x.payload) (judge_of s 0 room (with_payload blank n) (run (frames nothing) s at))
  frames_told at r h = sym (ap (series_by (λ x. x.payload)) (h.judges 0 nothing (with_payload blank n) refl) ∙ frames_back r)

-- ---- the contracts
pub judge_series_unique : (κs : Lfts 2) (a : Dens κs judge-series-kinds.ps) (r r' : Std.Result Series Refusal) (x x' : AtExit (ended_of 2 judge-series-kinds.ps judge-series-kinds.r) κs)
    → judge-series.Post κs a r x → judge-series.Post κs a r' x' → (r ≡ r') × (x.1.1.1.1.1.1.1.1.0.now ≡ x'.1.1.1.1.1.1.1.1.0.now)
judge_series_unique κs a r r' x x' p q = (
  series_told _ _ _ _ _ _ _ r p.0 ∙ sym (series_told _ _ _ _ _ _ _ r' q.0),
  window_told _ _ _ _ _ _ _ r p.0 ∙ sym (window_told _ _ _ _ _ _ _ r' q.0),
)

pub judge_text_unique : (κs : Lfts 2) (a : Dens κs judge-text-kinds.ps) (r r' : Std.Result Series Refusal) (x x' : AtExit (ended_of 2 judge-text-kinds.ps judge-text-kinds.r) κs)
    → judge-text.Post κs a r x → judge-text.Post κs a r' x' → (r ≡ r') × (x.1.1.1.1.1.0.now ≡ x'.1.1.1.1.1.0.now)
judge_text_unique κs a r r' x x' p q = (
  series_told _ _ _ _ _ _ _ r p.0 ∙ sym (series_told _ _ _ _ _ _ _ r' q.0),
  window_told _ _ _ _ _ _ _ r p.0 ∙ sym (window_told _ _ _ _ _ _ _ r' q.0),
)

pub drop_number_unique : (κs : Lfts 1) (a : Dens κs drop-number-kinds.ps) (r r' : Std.Result Series Refusal) (x x' : AtExit (ended_of 1 drop-number-kinds.ps drop-number-kinds.r) κs)
    → drop-number.Post κs a r x → drop-number.Post κs a r' x' → r ≡ r'
drop_number_unique κs a r r' x x' p q = series_told _ _ _ _ _ _ _ r (p.0 0 []) ∙ sym (series_told _ _ _ _ _ _ _ r' (q.0 0 []))

pub judge_frames_unique : (κs : Lfts 1) (a : Dens κs judge-frames-kinds.ps) (r r' : Std.Result Series Refusal) (x x' : AtExit (ended_of 1 judge-frames-kinds.ps judge-frames-kinds.r) κs)
    → judge-frames.Post κs a r x → judge-frames.Post κs a r' x' → r ≡ r'
judge_frames_unique κs a r r' x x' p q = frames_told _ _ _ _ r p.0 ∙ sym (frames_told _ _ _ _ r' q.0)
