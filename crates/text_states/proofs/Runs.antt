-- What is known where code stands in a list: the state there leads on to the same end.
use Prim.Native.Nat.{ℕ, suc, ◌+◌, ◌-◌, ◌≤◌, ◌<◌}
use mathlib.Core.Path.{◌≡◌, refl, sym, ap, ◌∙◌}
use mathlib.Core.List.{List, [], ◌∷◌, ◌++◌}
use native.Mathlib.Omega.{arith}
use native.Mathlib.Numerals.{add-one}
use lib.ListN.{length, get_or, take, drop, drop_of_length-le, take-append-drop}
use lib.Seq.{drop-cons, drop-drop}
use Rattle.text_states.specs.States.{next_state, run_states}

-- from `state` at i, as from `from` at the start of s
pub record Ran (from : ℕ) (s : List ℕ) (i state : ℕ) : Type 0 where
  pub inside : i ≤ length s
  pub same : run_states from s ≡ run_states state (drop i s)

pub begun : (from : ℕ) (s : List ℕ) → Ran from s 0 from
begun from s = record { inside = omega arith; same = refl }

pub run_cons : (state b : ℕ) (s : List ℕ) → run_states state (b ∷ s) ≡ run_states (next_state state b) s
unfolding run_states
run_cons state b s = refl

pub further : (from : ℕ) (s : List ℕ) (i state next : ℕ) → Ran from s i state → i < length s → next ≡ next_state state (get_or s i 0) → Ran from s (i + 1) next
further from s i state next r h e = record {
  inside = omega arith;
  same = rw (add-one i, e) (r.same ∙ ap (run_states state) (drop-cons s i 0 h) ∙ run_cons state (get_or s i 0) (drop (suc i) s));
}

run_append : (state : ℕ) (p s : List ℕ) → run_states state (p ++ s) ≡ run_states (run_states state p) s
unfolding run_states
run_append state [] s = refl
run_append state (b ∷ p) s = run_append (next_state state b) p s

-- past a part of the list
pub past_part : (from : ℕ) (s : List ℕ) (i end state next : ℕ) → Ran from s i state → (i < end) × (end ≤ length s)
    → next ≡ run_states state (take (end - i) (drop i s)) → Ran from s end next
past_part from s i end state next r h e = record {
  inside = h.1;
  same = rw (e, ← run_append) (r.same ∙ ap (run_states state) (sym halves));
}
  where
    halves : take (end - i) (drop i s) ++ drop end s ≡ drop i s
    halves = let e : i + (end - i) ≡ end = omega arith in rw (drop-drop (end - i) i s, e) at (take-append-drop (end - i) (drop i s))

pub done : (from : ℕ) (s : List ℕ) (i state : ℕ) → Ran from s i state → length s ≤ i → state ≡ run_states from s
unfolding run_states
done from s i state r h = sym (r.same ∙ ap (run_states state) (drop_of_length-le s h))
