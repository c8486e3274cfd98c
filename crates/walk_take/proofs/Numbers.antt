-- A number, judged: it is there, or the stream is cut short.
use Prim.Native.Nat.{ℕ, ◌+◌, ◌≤◌, ◌<◌}
use mathlib.Core.Path.{◌≡◌, refl, ◌∙◌, ap}
use mathlib.Core.List.{List}
use lib.ListN.{length}
use Rattle.layouts.specs.declared.Record.{Record}
use Rattle.layouts.specs.declared.Refusal.{Refusal}
use Rattle.layouts.specs.Refusal.{plain, refused_by}
use Rattle.layouts.specs.Primitive.{number_at}
use Rattle.layouts.specs.Shape.{Target, dropped, Tree, ask}
use Rattle.layouts.specs.Pieces.{run}
use Rattle.layouts.specs.Record.{noted, with_entries}
use Rattle.layouts.specs.Judge.{judge_of, entries_of}
use Rattle.layouts.proofs.Steps.{ask_short, ask_value}
use Rattle.walk_take.specs.Taking.{ahead, kept_of, held, Takes}
use Rattle.walk_take.proofs.Pieces.{nothing_in}
use Rattle.std.specs.Prelude.{Ok, Err}

pub same_entries : (x : Record) (n : ℕ) → x.entries ≡ n → x ≡ with_entries x n
same_entries x n z = ap (λ (i : ℕ). with_entries x i) z

module _ (s : List ℕ) (at : ℕ) where
  module _ (r : Refusal) (known : (length s < at + 8) × (r ≡ plain 1 at)) where
    pub cut_judges : (slots room : ℕ) (x : Record) (i : Target) (j : ℕ → Tree) → judge_of s slots room x (run (ask i j) s at) ≡ refused_by r
    unfolding judge_of
    cut_judges slots room x i j = rw known.1 (ap (judge_of s slots room x) (ask_short s at _ refl i j known.0))

    cut_holds : (slots : ℕ) (w : List ℕ) (n : ℕ) (i : Target) (j : ℕ → Tree) → held s slots w n (run (ask i j) s at) ≡ w
    unfolding kept_of
    cut_holds slots w n i j = ap (held s slots w n) (ask_short s at _ refl i j known.0) ∙ nothing_in w n

    pub dropped_cut : (n slots : ℕ) (w : List ℕ) → Takes s slots at (λ k. ask dropped (λ v. k tt)) w n w (Err r)
    dropped_cut n slots w = record { judges = λ room k x z. cut_judges slots room x dropped (λ v. k tt); keeps = λ k. tt; holds = λ k. cut_holds slots w n dropped (λ v. k tt) }

  module _ (v : ℕ) (known : (at + 8 ≤ length s) × (v ≡ number_at s at)) where
    pub ask_judges : (slots room : ℕ) (x : Record) (i : Target) (j : ℕ → Tree) → judge_of s slots room x (run (ask i j) s at) ≡ judge_of s slots room (noted x i v) (run (j v) s (at + 8))
    unfolding judge_of
    ask_judges slots room x i j = ap (judge_of s slots room x) (ask_value s at v known.1 i j known.0)

    pub ask_keeps : (w : List ℕ) (n : ℕ) (i : Target) (j : ℕ → Tree) → ahead w n (run (ask i j) s at) ≡ ahead w n (run (j v) s (at + 8))
    unfolding entries_of
    ask_keeps w n i j = ap (ahead w n) (ask_value s at v known.1 i j known.0)

    ask_holds : (slots : ℕ) (w : List ℕ) (n : ℕ) (i : Target) (j : ℕ → Tree) → held s slots w n (run (ask i j) s at) ≡ held s slots w n (run (j v) s (at + 8))
    unfolding kept_of
    ask_holds slots w n i j = ap (held s slots w n) (ask_value s at v known.1 i j known.0)

    pub dropped_value : (n slots : ℕ) (w : List ℕ) → Takes s slots at (λ k. ask dropped (λ v. k tt)) w n w (Ok (record { at = (at + 8); entries = n }))
    unfolding noted
    dropped_value n slots w =
        record {
          judges = λ room k x z. ask_judges slots room x dropped (λ v. k tt) ∙ ap (λ (y : Record). judge_of s slots room y (run (k tt) s (at + 8))) (same_entries x n z);
          keeps = λ k. ask_keeps w n dropped (λ v. k tt);
          holds = λ k. ask_holds slots w n dropped (λ v. k tt);
        }
