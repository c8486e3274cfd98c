-- What the machine of `text_states` takes from 0 to 0 is text (`run_text`): for each state, what is left to be read from there, by the grammar.
use Prim.Native.Nat.{ℕ, ◌+◌, ◌-◌, ◌≤◌}
use mathlib.Core.Path.{◌≡◌, refl, sym, ◌∙◌}
use mathlib.Core.Bool.{Bool, true, ◌&&◌}
use mathlib.Core.List.{List, [], ◌∷◌, ◌++◌}
use native.Mathlib.Omega.{arith}
use lib.ListN.{length, take, drop, length-drop, take-append-drop}
use lib.Seq.{drop-drop}
use lib.Dec.{T, leb, leb→le, eqb}
use borrow.Author.Tests.{le-leb, eqb-true}
use Rattle.text.specs.Rfc3629.{In, UTF8-tail, UTF8-3, UTF8-4, Text}
use Rattle.text.specs.Rfc3629.UTF8-1.{00-7F}
use Rattle.text.specs.Rfc3629.UTF8-2.{C2-DF}
use Rattle.text.specs.Rfc3629.UTF8-3.{E0, E1-EC, ED, EE-EF}
use Rattle.text.specs.Rfc3629.UTF8-4.{F0, F1-F3, F4}
use Rattle.text.specs.Rfc3629.UTF8-char.{one, two, three, four}
use Rattle.text.specs.Rfc3629.Text.{none, more}
use Rattle.text.specs.Prefix.{all_plain, PlainFor}
use Rattle.text_states.specs.States.{row_of, next_state, run_states}
use Rattle.text_states.proofs.Ranges.{First, first, Next, one_tail, two_tails, three_tails, after_E0, after_ED, after_F0, after_F4, never}
use Rattle.text_states.proofs.Ranges.Next.{right, wrong}
use Rattle.text_states.proofs.Runs.{Ran, run_cons, done}
use Rattle.text.proofs.Chars.{T_and}
use Rattle.text.proofs.Steps.{part, both}

-- ---- what is left to be read
-- an octet between two, and then what P says
abbrev Then : (low high : ℕ) → (List ℕ → Type 0) → List ℕ → Type 0
Then low high P [] = ⊥
Then low high P (b ∷ s) = In low high b × P s

abbrev One : List ℕ → Type 0
One = Then 0x80 0xBF Text

abbrev Two : List ℕ → Type 0
Two = Then 0x80 0xBF One

-- by the state from which the machine goes to 0
record Left (s : List ℕ) : Type 0 where
  start : run_states 0 s ≡ 0 → Text s
  one : run_states 6 s ≡ 0 → One s
  two : run_states 12 s ≡ 0 → Two s
  three : run_states 18 s ≡ 0 → Then 0x80 0xBF Two s
  e0 : run_states 24 s ≡ 0 → Then 0xA0 0xBF One s
  ed : run_states 30 s ≡ 0 → Then 0x80 0x9F One s
  f0 : run_states 36 s ≡ 0 → Then 0x90 0xBF Two s
  f4 : run_states 42 s ≡ 0 → Then 0x80 0x8F Two s

two_more : {a : ℕ} → In 0xC2 0xDF a → (s : List ℕ) → One s → Text (a ∷ s)
two_more h [] x = absurd x
two_more h (b ∷ s) x = more (two (C2-DF h x.0)) x.1

three_more : {a low high : ℕ} → ((b c : ℕ) → In low high b → UTF8-tail c → UTF8-3 (a ∷ b ∷ c ∷ [])) → (s : List ℕ) → Then low high One s → Text (a ∷ s)
three_more k [] x = absurd x
three_more k (b ∷ []) x = absurd x.1
three_more k (b ∷ c ∷ s) x = more (three (k b c x.0 x.1.0)) x.1.1

four_more : {a low high : ℕ} → ((b c d : ℕ) → In low high b → UTF8-tail c → UTF8-tail d → UTF8-4 (a ∷ b ∷ c ∷ d ∷ [])) → (s : List ℕ) → Then low high Two s
    → Text (a ∷ s)
four_more k [] x = absurd x
four_more k (b ∷ []) x = absurd x.1
four_more k (b ∷ c ∷ []) x = absurd x.1.1
four_more k (b ∷ c ∷ d ∷ s) x = more (four (k b c d x.0 x.1.0 x.1.1.0)) x.1.1.1

-- the octet that begins a character
begin : (a : ℕ) (s : List ℕ) → Left s → run_states 0 (a ∷ s) ≡ 0 → Text (a ∷ s)
unfolding run_states
begin a s l e = go (first a)
  where
    on : {x : ℕ} → next_state 0 a ≡ x → run_states x s ≡ 0
    on n = rw n at e

    go : First a (next_state 0 a) → Text (a ∷ s)
    go (First.00-7F h n) = more (one (00-7F {a = a} (omega arith))) (l.start (on n))
    go (First.C2-DF g h n) = two_more (omega arith) s (l.one (on n))
    go (First.E0 h n) = rw h (three_more (λ b c h. E0 (omega arith)) s (l.e0 (on n)))
    go (First.E1-EC g h n) = three_more (λ b c. E1-EC {a = a} (omega arith)) s (l.two (on n))
    go (First.ED h n) = rw h (three_more (λ b c h. ED (omega arith)) s (l.ed (on n)))
    go (First.EE-EF g h n) = three_more (λ b c. EE-EF {a = a} (omega arith)) s (l.two (on n))
    go (First.F0 h n) = rw h (four_more (λ b c d h. F0 (omega arith)) s (l.f0 (on n)))
    go (First.F1-F3 g h n) = four_more (λ b c d. F1-F3 {a = a} (omega arith)) s (l.three (on n))
    go (First.F4 h n) = rw h (four_more (λ b c d h. F4 (omega arith)) s (l.f4 (on n)))
    go (First.wrong n) = absurd (never s (on n))

-- an octet within one
then : (state : ℕ) {low high next : ℕ} (P : List ℕ → Type 0) (b : ℕ) (s : List ℕ) → Next low high next b (next_state state b) → (run_states next s ≡ 0 → P s)
    → run_states state (b ∷ s) ≡ 0 → Then low high P (b ∷ s)
unfolding run_states
then state P b s (right l h n) f e = (omega arith, f (rw n at e))
then state P b s (wrong n) f e = absurd (never s (rw n at e))

left : (s : List ℕ) → Left s
unfolding run_states
left [] = record {
  start = λ e. none;
  one = λ e. absurd (omega arith);
  two = λ e. absurd (omega arith);
  three = λ e. absurd (omega arith);
  e0 = λ e. absurd (omega arith);
  ed = λ e. absurd (omega arith);
  f0 = λ e. absurd (omega arith);
  f4 = λ e. absurd (omega arith);
}
left (b ∷ s) =
    let l = left s in
    record {
      start = begin b s l;
      one = then 6 Text b s (one_tail b) l.start;
      two = then 12 One b s (two_tails b) l.one;
      three = then 18 Two b s (three_tails b) l.two;
      e0 = then 24 One b s (after_E0 b) l.one;
      ed = then 30 One b s (after_ED b) l.one;
      f0 = then 36 Two b s (after_F0 b) l.two;
      f4 = then 42 Two b s (after_F4 b) l.two;
    }

run_text : (s : List ℕ) → run_states 0 s ≡ 0 → Text s
run_text s = (left s).start

-- ---- the loop
plain_next : (a : ℕ) → a ≤ 0x7F → next_state 0 a ≡ 0
unfolding row_of
plain_next a h = simp (le-leb a 0x7F h)

plain_run : (p s : List ℕ) → T (all_plain p) → run_states 0 (p ++ s) ≡ run_states 0 s
plain_run [] s t = refl
plain_run (a ∷ p) s t =
    let g = (T_and (leb a 0x7F) (all_plain p)).0 t in rw (run_cons 0 a (p ++ s), plain_next a (leb→le a 0x7F g.0)) (plain_run p s g.1)

plain_on : (n : ℕ) (s : List ℕ) → PlainFor n s → run_states 0 s ≡ run_states 0 (drop n s)
plain_on n s x = rw take-append-drop at (plain_run (take n s) (drop n s) x.ascii)

pub begun_plain : (n : ℕ) (s : List ℕ) → PlainFor n s → Ran 0 s n 0
begun_plain n s x = record { inside = x.there; same = plain_on n s x }

pub judged : (s : List ℕ) (i state : ℕ) → Ran 0 s i state → length s ≤ i → eqb state 0 ≡ true → Text s
judged s i state r h t = run_text s (sym (done 0 s i state r h) ∙ eqb-true state 0 t)

-- ASCII from end to end
pub plain_text : (s : List ℕ) → PlainFor (length s) s → Text s
plain_text s x = judged s (length s) 0 (begun_plain (length s) s x) (omega arith) refl

pub past_plain : (n : ℕ) (s : List ℕ) (i state : ℕ) (p : Bool) → Ran 0 s i state → (p ≡ true → PlainFor n (take (length s - i) (drop i s)))
    → eqb state 0 && p ≡ true → Ran 0 s (i + n) state
past_plain n s i state p r h t =
    let b = both (eqb state 0) p t in
    let z = eqb-true state 0 b.0 in
    let x : PlainFor n (drop i s) = rw (part s i) at (h b.1) in
    record {
      inside = omega (arith, x.there, length-drop i s);
      same = rw (z, ← drop-drop) (rw z at r.same ∙ plain_on n (drop i s) x);
    }
