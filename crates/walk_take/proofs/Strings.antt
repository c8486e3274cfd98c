-- A string, and a series of strings, one after the other: what is left, with the entries so far, is judged and kept as the whole.
use Prim.Native.Nat.{ℕ, ◌+◌, ◌≤◌}
use mathlib.Core.Path.{◌≡◌, refl, sym, ◌∙◌, ap, subst}
use mathlib.Core.List.{List}
use native.Mathlib.Omega.{arith}
use lib.ListN.{length}
use Rattle.layouts.specs.declared.Record.{Record}
use Rattle.layouts.specs.declared.Refusal.{Refusal}
use Rattle.layouts.specs.Primitive.{number_at, Result, onward}
use Rattle.layouts.specs.Refusal.{refused_by}
use Rattle.layouts.specs.Shape.{Role, Tree, say}
use Rattle.layouts.specs.Pieces.{Pieces, text, text_of, after_text, run}
use Rattle.layouts.specs.Record.{blank, is_kept, with_entries}
use Rattle.layouts.specs.Judge.{Ended, text_taken, half_taken, judge_of, entry, entries_of}
use Rattle.pieces.specs.Pieces.{text_found}
use Rattle.pieces.proofs.Found.{text_read, bad_plain}
use Rattle.pieces.proofs.Nodes.{say_as, whole_found}
use Rattle.walk_strings.specs.Strings.{series, series_after, after_next}
use Rattle.walk_strings.proofs.Series.{series_next}
use Rattle.walk_take.specs.Taking.{in_window, ahead, kept_by, kept_of, held, taken, TakenIn, series_to, series_in, series_held, Takes, SeriesTook}
use Rattle.walk_take.proofs.Pieces.{nothing_in}
use Rattle.pieces.specs.declared.Text as T
use Rattle.walk_strings.specs.declared.More.{More}
use Rattle.walk_take.specs.declared.Series.{Series}
use Rattle.pieces.specs.declared.Text.TheVariants.{Half}
use Rattle.pieces.specs.declared.Text.TheVariants.{Whole}
use Rattle.std.specs.Prelude as Std
use Rattle.std.specs.Prelude.{Option, Some, None, Ok, Err}

-- ---- one string
pub whole_took : (s : List ℕ) (at : ℕ) (t : Std.Result T.Text Refusal) → t ≡ text_found (text_of (length s) (number_at s at) at) → (start len next : ℕ) → t ≡ Ok (Whole start len next) → (at + 8 ≤ next) × (at + 8 ≤ length s)
whole_took s at t e start len next q = let g = whole_found s at t e start len next q in (g.0, omega (arith, g))

module _ (s : List ℕ) (slots at : ℕ) (m : Role) (w : List ℕ) (n : ℕ) (t : Std.Result T.Text Refusal) (e : t ≡ text_found (text_of (length s) (number_at s at) at)) where
  abbrev OfText : List ℕ → Std.Result Series Refusal → Type 0
  OfText w' r = Takes s slots at (say m) w n w' r

  says : (y : Std.Result T.Text Refusal) → t ≡ y → (room : ℕ) (x : Record) (k : Unit {0} → Tree)
      → judge_of s slots room x (run (say m k) s at) ≡ judge_of s slots room x (after_text (text_read y) m (λ a. run (k tt) s a))
  says y q room x k = ap (judge_of s slots room x) (say_as s at t e y q m k)

  found_held : (y : Std.Result T.Text Refusal) → t ≡ y → (k : Unit {0} → Tree) → held s slots w n (run (say m k) s at) ≡ held s slots w n (after_text (text_read y) m (λ a. run (k tt) s a))
  found_held y q k = ap (held s slots w n) (say_as s at t e y q m k)

  pub of_bad : (r : Refusal) → t ≡ Err r → OfText w (Err r)
  unfolding after_text judge_of kept_of
  of_bad r q = record { judges = λ room k x z. rw (bad_plain s at t e r q) (says (Err r) q room x k); keeps = λ k. tt; holds = λ k. found_held (Err r) q k ∙ nothing_in w n }

  pub of_half : (start len : ℕ) (r : Refusal) → t ≡ Ok (Half start len) → ◌≡◌ {A = Result Ended} (refused_by r) (half_taken s m start len) → OfText w (Err r)
  unfolding after_text judge_of kept_of
  of_half start len r q h = record { judges = λ room k x z. says (Ok (Half start len)) q room x k ∙ sym h; keeps = λ k. tt; holds = λ k. found_held (Ok (Half start len)) q k ∙ nothing_in w n }

  module _ (start len next : ℕ) (q : t ≡ Ok (Whole start len next)) (o : Std.Result ℕ Refusal) (w' : List ℕ) (g : TakenIn w n m start len w' o)
      (h : (x : Record) → x.entries ≡ n → taken (with_entries x) o ≡ text_taken s slots x m start len) where
    took : (y : Std.Result ℕ Refusal) → o ≡ y → (room : ℕ) (k : Unit {0} → Tree) (x : Record) → x.entries ≡ n
        → judge_of s slots room x (run (say m k) s at) ≡ onward (taken (with_entries x) y) (λ x'. judge_of s slots room x' (run (k tt) s next))
    unfolding after_text judge_of
    took y i room k x z =
        says (Ok (Whole start len next)) q room x k ∙ ap (λ (u : Result Record). onward u (λ x'. judge_of s slots room x' (run (k tt) s next))) (sym (h x z) ∙ ap (taken (with_entries x)) i)

    whole_as : (k : Unit {0} → Tree) → run (say m k) s at ≡ text m start len (run (k tt) s next)
    unfolding after_text
    whole_as k = say_as s at t e (Ok (Whole start len next)) q m k

    abbrev entries : Result Record → (Unit {0} → Tree) → List ℕ
    entries u k = kept_by u (λ n'. entry (is_kept m) start len (kept_of s slots n' (run (k tt) s next)))

    held_as : (y : Std.Result ℕ Refusal) → o ≡ y → (k : Unit {0} → Tree) → held s slots w n (run (say m k) s at) ≡ in_window w n (entries (taken (with_entries (with_entries blank n)) y) k)
    unfolding kept_of
    held_as y i k =
        ap (held s slots w n) (whole_as k)
        ∙ ap (λ (u : Result Record). in_window w n (entries u k)) (sym (h (with_entries blank n) refl) ∙ ap (taken (with_entries (with_entries blank n))) i)

    pub of_refused : (r : Refusal) → o ≡ Err r → OfText w' (Err r)
    of_refused r i =
        let same : w' ≡ w = subst (TakenIn w n m start len w') i g in
        record { judges = λ room k x z. took (Err r) i room k x z; keeps = λ k. tt; holds = λ k. held_as (Err r) i k ∙ nothing_in w n ∙ sym same }

    pub of_whole : (n' : ℕ) → o ≡ Ok n' → OfText w' (Ok (record { at = next; entries = n' }))
    unfolding entries_of
    of_whole n' i =
        let kept : (es : List ℕ) → in_window w n (entry (is_kept m) start len es) ≡ in_window w' n' es = subst (TakenIn w n m start len w') i g in
        record {
          judges = λ room k x z. took (Ok n') i room k x z;
          keeps = λ k. ap (ahead w n) (whole_as k) ∙ kept (entries_of (run (k tt) s next));
          holds = λ k. held_as (Ok n') i k ∙ kept (kept_of s slots n' (run (k tt) s next));
        }

-- ---- a series of them
pub series_took : (s : List ℕ) (at : ℕ) (r : Std.Result Series Refusal) (at' n : ℕ) → SeriesTook s at r → r ≡ Ok (record { at = at'; entries = n }) → (at + 8 ≤ at') × (at + 8 ≤ length s)
series_took s at r at' n o i = subst (SeriesTook s at) i o

module _ (s : List ℕ) (slots : ℕ) (m : Role) (e from p₀ l₀ : ℕ) (w₀ : List ℕ) (n₀ : ℕ) where
  abbrev whole : (Unit {0} → Tree) → Pieces
  whole k = run (series m p₀ e l₀ k) s from

  abbrev left : (at p l : ℕ) → (Unit {0} → Tree) → Pieces
  left at p l k = run (series m p e l k) s at

  pub record Along (w : List ℕ) (at p l n : ℕ) : Type 0 where
    pub on : from ≤ at
    pub judges : (room : ℕ) (k : Unit {0} → Tree) (x : Record) → x.entries ≡ n₀ → judge_of s slots room x (whole k) ≡ judge_of s slots room (with_entries x n) (left at p l k)
    pub keeps : (k : Unit {0} → Tree) → ahead w₀ n₀ (whole k) ≡ ahead w n (left at p l k)
    pub holds : (k : Unit {0} → Tree) → held s slots w₀ n₀ (whole k) ≡ held s slots w n (left at p l k)

  abbrev OfSeries : List ℕ → Std.Result Series Refusal → Type 0
  OfSeries w r = Takes s slots from (series m p₀ e l₀) w₀ n₀ w r

  pub along_start : Along w₀ from p₀ l₀ n₀
  along_start = record { on = omega arith; judges = λ room k x z. ap (λ (n : ℕ). judge_of s slots room (with_entries x n) (whole k)) z; keeps = λ k. refl; holds = λ k. refl }

  module _ (w : List ℕ) (at p l n : ℕ) (g : Along w at p l n) (y : Option More) (h : y ≡ after_next p e l) where
    left_as : (v : Option More) → y ≡ v → (k : Unit {0} → Tree) → left at p l k ≡ run (series_after m e k v) s at
    left_as v q k = ap (λ (t : Tree). run t s at) (series_next m e k p l y h ∙ ap (series_after m e k) q)

    pub along_end : y ≡ None → OfSeries w (Ok (record { at = at; entries = n }))
    along_end q =
        record {
          judges = λ room k x z. g.judges room k x z ∙ ap (judge_of s slots room (with_entries x n)) (left_as None q k);
          keeps = λ k. g.keeps k ∙ ap (ahead w n) (left_as None q k);
          holds = λ k. g.holds k ∙ ap (held s slots w n) (left_as None q k);
        }

    module _ (p' l' : ℕ) (q : y ≡ Some (record { pend = p'; left = l' })) (w' : List ℕ) (r : Std.Result Series Refusal) (t : Takes s slots at (say m) w n w' r) where
      judged : (v : Std.Result Series Refusal) → r ≡ v → (room : ℕ) (k : Unit {0} → Tree) (x : Record) → x.entries ≡ n₀
          → judge_of s slots room x (whole k) ≡ series_to s slots room (with_entries x n) (λ u. series m p' e l' k) v
      judged v i room k x z =
          g.judges room k x z ∙ ap (judge_of s slots room (with_entries x n)) (left_as (Some (record { pend = p'; left = l' })) q k)
          ∙ t.judges room (λ u. series m p' e l' k) (with_entries x n) refl ∙ ap (series_to s slots room (with_entries x n) (λ u. series m p' e l' k)) i

      held_on : (v : Std.Result Series Refusal) → r ≡ v → (k : Unit {0} → Tree) → held s slots w₀ n₀ (whole k) ≡ series_held s slots w' (λ u. series m p' e l' k) v
      held_on v i k =
          g.holds k ∙ ap (held s slots w n) (left_as (Some (record { pend = p'; left = l' })) q k) ∙ t.holds (λ u. series m p' e l' k) ∙ ap (series_held s slots w' (λ u. series m p' e l' k)) i

      pub along_refused : (x : Refusal) → r ≡ Err x → OfSeries w' (Err x)
      along_refused x i = record { judges = λ room k y z. judged (Err x) i room k y z; keeps = λ k. tt; holds = λ k. held_on (Err x) i k }

      module _ (at' n' : ℕ) (i : r ≡ Ok (record { at = at'; entries = n' })) (o : SeriesTook s at r) where
        kept : (k : Unit {0} → Tree) → ahead w n (run (say m (λ u. series m p' e l' k)) s at) ≡ ahead w' n' (left at' p' l' k)
        kept k = subst (series_in s w' (ahead w n (run (say m (λ u. series m p' e l' k)) s at)) (λ u. series m p' e l' k)) i (t.keeps (λ u. series m p' e l' k))

        pub along_on : Along w' at' p' l' n'
        along_on =
            let a = series_took s at r at' n' o i in
            let b = g.on in
            record {
              on = omega (arith, a);
              judges = λ room k x z. judged (Ok (record { at = at'; entries = n' })) i room k x z;
              keeps = λ k. g.keeps k ∙ ap (ahead w n) (left_as (Some (record { pend = p'; left = l' })) q k) ∙ kept k;
              holds = λ k. held_on (Ok (record { at = at'; entries = n' })) i k;
            }
