-- Two trees of the same nodes, where one passes over what the other reads and ends before the F that ends the other: what comes of judging both.
use Prim.Native.Nat.{ℕ, zero, suc, ◌+◌, ◌-◌, ◌≤◌}
use mathlib.Core.Path.{◌≡◌, refl, sym, ap}
use mathlib.Core.List.{List}
use mathlib.Core.Bool.{Bool, true, false}
use lib.ListN.{length}
use native.Mathlib.Omega.{arith}
use Rattle.layouts.specs.declared.Record.{Record}
use Rattle.layouts.specs.Primitive.{pick, number_at, pad_of, cut_short, bad_text, Result, ok, refused, onward}
use Rattle.layouts.specs.Shape.{Target, dropped, Role, passed, kept, Tree, ask, say, frames, stop, if_zero, layout}
use Rattle.layouts.specs.Pieces.{Pieces, Num, Text, after_num, after_text, run, skip_of, total_of}
use Rattle.layouts.specs.Record.{blank, with_number, noted, is_kept, entered}
use Rattle.layouts.specs.Judge.{not_text, text_end, half_taken, Ended, judge_of}
use Rattle.layouts.specs.Soft.{kept_of}
use Rattle.layouts.specs.Calls.{skip_framed}
use Rattle.layouts.proofs.Views.{NumView, is_value, is_short, TextView, no_length, too_long_there, no_contents, no_padding, is_whole, num_view, text_view}
use Rattle.layouts.proofs.Placed.{never_both, ends, run_placed}
use Rattle.layouts.specs.Demands.{RefusedBy}
use Rattle.layouts.proofs.Judge.{noted_room, entered_room, bad_inside, Step, is_bad, no_room, goes_on, text_step, judge_read}

pub not_both : {b : Bool} → b ≡ true → b ≡ false → ⊥
not_both e f = let z : ◌≡◌ {A = ℕ} 0 1 = cc in omega arith

-- u is t with its strings passed over but for at most j that are kept, and without the F that ends t, if it has one
pub data Lowers : (has_f : Bool) → (j : ℕ) → (t u : Tree) → Type 0 where
  asks : {b : Bool} {j : ℕ} {i i' : Target} {k k' : ℕ → Tree} → ((n : ℕ) → Lowers b j (k n) (k' n)) → Lowers b j (ask i k) (ask i' k')
  tests : {b : Bool} {j : ℕ} {k k' : Unit {0} → Tree} → Lowers b j (k tt) (k' tt) → Lowers b j (ask dropped (λ n. if_zero n k)) (ask dropped (λ n. if_zero n k'))
  passes : {b : Bool} {j : ℕ} {m : Role} {k k' : Unit {0} → Tree} → Lowers b j (k tt) (k' tt) → Lowers b j (say m k) (say passed k')
  keeps : {b : Bool} {j : ℕ} {k k' : Unit {0} → Tree} → Lowers b j (k tt) (k' tt) → Lowers b (suc j) (say kept k) (say kept k')
  leaves : {j : ℕ} → Lowers true j (frames (λ u. stop)) stop
  stops : {j : ℕ} → Lowers false j stop stop

-- where both end: at one byte; or skipping ends before F, and skipping F from there on ends where reading does
abbrev pub Ends : (has_f : Bool) → List ℕ → (skipped read : ℕ) → Type 0
Ends false s e' e = e' ≡ e
Ends true s e' e = (e' ≤ e) × (z : Ended) × (skip_framed s e' ≡ ok z) × (z.ends ≡ e)

-- what comes of reading and of skipping from a place on: both end, or reading alone refuses, or both do and skipping no earlier
pub data Agree (b : Bool) (s : List ℕ) (lo : ℕ) : (reading skipping : Result Ended) → Type 0 where
  both_end : {x y : Ended} → Ends b s y.ends x.ends → Agree b s lo (ok x) (ok y)
  reading_refused : {y : Ended} {which place stream : ℕ} → Agree b s lo (refused which place stream) (ok y)
  both_refused : {which which' : ℕ} (earlier place : ℕ) → earlier ≤ place → lo ≤ place → Agree b s lo (refused which earlier 0) (refused which' place 0)

module _ {b : Bool} {s : List ℕ} where
  agree_from : {lo' : ℕ} {o o' : Result Ended} (lo : ℕ) → lo ≤ lo' → Agree b s lo' o o' → Agree b s lo o o'
  agree_from lo h (both_end e) = both_end e
  agree_from lo h reading_refused = reading_refused
  agree_from lo h (both_refused x y g l) = both_refused x y g (omega arith)

  -- reading refused before skipping went on
  agree_earlier : {lo' which : ℕ} {o o' : Result Ended} (lo place : ℕ) → lo ≤ lo' → place ≤ lo' → Agree b s lo' o o'
      → Agree b s lo (refused which place 0) o'
  agree_earlier lo place h g (both_end e) = reading_refused
  agree_earlier lo place h g reading_refused = reading_refused
  agree_earlier lo place h g (both_refused x y m l) = both_refused place y (omega arith) (omega arith)

  -- a string: what is bad when skipped is bad when read, and skipping lacks no room
  agree_step : {bad bad' : Bool} {lacks lacks' fits fits' : Type 0} {start x next : ℕ} {r r' : Record} {o o' : Result Record} (k k' : Record → Result Ended)
      (lo : ℕ) → Step bad lacks fits start x r o → Step bad' lacks' fits' start x r' o' → (bad' ≡ true → bad ≡ true) → (lacks' → ⊥) → lo ≤ start → start ≤ next
      → (bad ≡ true → (start ≤ x) × (x ≤ next)) → Agree b s next (k r) (k' r') → Agree b s lo (onward o k) (onward o' k')
  agree_step {x} k k' lo (is_bad e) (is_bad e') f g l m i h = let z = i e in both_refused x x (omega arith) (omega arith)
  agree_step {start} {x} k k' lo (no_room w e) (is_bad e') f g l m i h = let z = i (f e') in both_refused (start - 8) x (omega arith) (omega arith)
  agree_step k k' lo (goes_on e q) (is_bad e') f g l m i h = absurd (not_both (f e') e)
  agree_step k k' lo a (no_room w e') f g l m i h = absurd (g e')
  agree_step {x} k k' lo (is_bad e) (goes_on e' q') f g l m i h = let z = i e in agree_earlier lo x (omega arith) z.1 h
  agree_step {start} k k' lo (no_room w e) (goes_on e' q') f g l m i h = agree_earlier lo (start - 8) (omega arith) (omega arith) h
  agree_step k k' lo (goes_on e q) (goes_on e' q') f g l m i h = agree_from lo (omega arith) h

  -- where reading ends, skipping ends
  pub both : {lo : ℕ} {o o' : Result Ended} (x : Ended) → Agree b s lo o o' → o ≡ ok x → (y : Ended) × (o' ≡ ok y) × Ends b s y.ends x.ends
  both x (both_end {x = z} {y} e) q = let w : z ≡ x = cc in (y, refl, rw (← w) e)
  both x reading_refused q = absurd (never_both q)
  both x (both_refused z y g l) q = absurd (never_both q)

  -- where skipping refuses, reading refuses too, at that place or an earlier one
  pub no_later : {lo which place stream : ℕ} {o o' : Result Ended} → Agree b s lo o o' → o' ≡ refused which place stream → RefusedBy place o
  no_later (both_end e) q = absurd (never_both (sym q))
  no_later reading_refused q = absurd (never_both (sym q))
  no_later {place} (both_refused {which} z y g l) q = let w : y ≡ place = cc in (which, z, refl, omega arith)

module _ (s : List ℕ) (slots room : ℕ) {b : Bool} where
  half_agree : (m m' : Role) (lo start len : ℕ) → (not_text s m' start len ≡ true → not_text s m start len ≡ true) → lo ≤ start
      → Agree b s lo (half_taken s m start len) (half_taken s m' start len)
  unfolding half_taken
  half_agree m m' lo start len f l = by (not_text s m start len) (not_text s m' start len) refl f
    where
      x : ℕ
      x = text_end s start len

      by : (c c' : Bool) → not_text s m start len ≡ c → (c' ≡ true → c ≡ true)
          → Agree b s lo (pick c (refused bad_text x 0) (refused cut_short (start + len) 0)) (pick c' (refused bad_text x 0) (refused cut_short (start + len) 0))
      by true true e g = let i = bad_inside s m start len e in both_refused x x (omega arith) (omega arith)
      by true false e g = let i = bad_inside s m start len e in both_refused x (start + len) (omega arith) (omega arith)
      by false true e g = absurd (not_both (g refl) refl)
      by false false e g = both_refused (start + len) (start + len) (omega arith) (omega arith)

  module _ (r r' : Record) where
    num_agree : {n at : ℕ} {w : Num} (i i' : Target) (p q : ℕ → Pieces) → NumView (length s) n at w
        → (at + 8 ≤ length s → Agree b s at (judge_of s slots room (noted r i n) (p n)) (judge_of s 1 0 (noted r' i' n) (q n)))
        → Agree b s at (judge_of s slots room r (after_num w i at p)) (judge_of s 1 0 r' (after_num w i' at q))
    unfolding after_num judge_of
    num_agree i i' p q (is_value h) g = g h
    num_agree {at} i i' p q (is_short h) g = both_refused at at (omega arith) (omega arith)

    -- a position: both refuse it at the number
    zero_agree : (n at : ℕ) (k k' : Unit {0} → Tree) → Agree b s (at + 8) (judge_of s slots room r (run (k tt) s (at + 8))) (judge_of s 1 0 r' (run (k' tt) s (at + 8)))
        → Agree b s at (judge_of s slots room r (run (if_zero n k) s (at + 8))) (judge_of s 1 0 r' (run (if_zero n k') s (at + 8)))
    unfolding run judge_of
    zero_agree zero at k k' g = agree_from at (omega arith) g
    zero_agree (suc n) at k k' g = both_refused (at + 8 - 8) (at + 8 - 8) (omega arith) (omega arith)

    text_agree : {n at : ℕ} {w : Text} (m m' : Role) (p q : ℕ → Pieces) → TextView (length s) n at w
        → ((start len : ℕ) → not_text s m' start len ≡ true → not_text s m start len ≡ true) → r'.entries + pick (is_kept m') 1 0 ≤ 1
        → ((next : ℕ) → next ≤ length s → Agree b s next (judge_of s slots room (entered r m) (p next)) (judge_of s 1 0 (entered r' m') (q next)))
        → Agree b s at (judge_of s slots room r (after_text w m p)) (judge_of s 1 0 r' (after_text w m' q))
    unfolding after_text judge_of
    text_agree {at} m m' p q (no_length h) f l g = both_refused at at (omega arith) (omega arith)
    text_agree {at} m m' p q (too_long_there h x) f l g = both_refused at at (omega arith) (omega arith)
    text_agree {at} m m' p q (no_contents h x c) f l g = both_refused (at + 8) (at + 8) (omega arith) (omega arith)
    text_agree {n} {at} m m' p q (no_padding h x c) f l g = half_agree m m' at (at + 8) n (f (at + 8) n) (omega arith)
    text_agree {n} {at} m m' p q (is_whole h x) f l g =
        agree_step (λ y. judge_of s slots room y (p (at + 8 + n + pad_of n))) (λ y. judge_of s 1 0 y (q (at + 8 + n + pad_of n))) at
        (text_step s slots r m (at + 8) n) (text_step s 1 r' m' (at + 8) n) (f (at + 8) n) (λ z. omega arith) (omega arith)
        (omega arith) (λ e. let i = bad_inside s m (at + 8) n e in (omega arith, omega arith)) (g (at + 8 + n + pad_of n) h)

-- F alone
skips_framed : (s : List ℕ) (at e : ℕ) → skip_of (run (frames (λ u. stop)) s at) ≡ ok e → (z : Ended) × (skip_framed s at ≡ ok z) × (z.ends ≡ e)
unfolding layout
skips_framed s at e q =
    (_, ap (λ (o : Result ℕ). onward o (λ n. ok (record { found = with_number blank 0 (total_of (run (frames (λ u. stop)) s at)); ends = n }))) q, refl)

frames_agree : (s : List ℕ) (at : ℕ) → at ≤ length s → (o : Result Ended) → ((x : Ended) → o ≡ ok x → skip_of (run (frames (λ u. stop)) s at) ≡ ok x.ends)
    → (r' : Record) → Agree true s at o (ok (record { found = r'; ends = at }))
frames_agree s at h (ok x) f r' =
    let q = f x refl in
    let z = skips_framed s at x.ends q in
    both_end ((ends x.ends (run_placed (frames (λ u. stop)) s at h) q).0, z.0, z.1, z.2)
frames_agree s at h (refused which place stream) f r' = reading_refused

module _ (s : List ℕ) (slots room : ℕ) where
  pub lowers_agree : {b : Bool} {j : ℕ} {t u : Tree} → Lowers b j t u → (at : ℕ) → at ≤ length s → (r r' : Record) → r'.entries + j ≤ 1
      → Agree b s at (judge_of s slots room r (run t s at)) (judge_of s 1 0 r' (run u s at))
  unfolding run judge_of not_text
  lowers_agree (asks {i} {i'} {k} {k'} f) at h r r' l =
      num_agree s slots room r r' i i' (λ n. run (k n) s (at + 8)) (λ n. run (k' n) s (at + 8)) (num_view (length s) (number_at s at) at)
      (λ g. let a = noted_room r' i' (number_at s at) in
      agree_from at (omega arith) (lowers_agree (f (number_at s at)) (at + 8) g (noted r i _) (noted r' i' (number_at s at)) (omega arith)))
  lowers_agree (tests {k} {k'} f) at h r r' l =
      let n = number_at s at in
      num_agree s slots room r r' dropped dropped (λ n. run (if_zero n k) s (at + 8)) (λ n. run (if_zero n k') s (at + 8)) (num_view (length s) n at)
      (λ g. let a = noted_room r' dropped n in
      zero_agree s slots room (noted r dropped n) (noted r' dropped n) n at k k' (lowers_agree f (at + 8) g (noted r dropped n) (noted r' dropped n) (omega arith)))
  lowers_agree (passes {m} {k} {k'} f) at h r r' l =
      let a = entered_room r' passed in
      text_agree s slots room r r' m passed (λ n. run (k tt) s n) (λ n. run (k' tt) s n) (text_view (length s) (number_at s at) at)
      (λ start len e. absurd (not_both e refl)) (omega arith) (λ n g. lowers_agree f n g (entered r m) (entered r' passed) (omega arith))
  lowers_agree (keeps {k} {k'} f) at h r r' l =
      let a = entered_room r' kept in
      text_agree s slots room r r' kept kept (λ n. run (k tt) s n) (λ n. run (k' tt) s n) (text_view (length s) (number_at s at) at)
      (λ start len e. e) (omega arith) (λ n g. lowers_agree f n g (entered r kept) (entered r' kept) (omega arith))
  lowers_agree leaves at h r r' l =
      frames_agree s at h (judge_of s slots room r (run (frames (λ u. stop)) s at)) (λ x e. (judge_read s slots room r (run (frames (λ u. stop)) s at) x e).skips) r'
  lowers_agree stops at h r r' l = both_end refl

-- how much is kept
num_kept : {size n at j : ℕ} {w : Num} (i : Target) (p : ℕ → Pieces) → NumView size n at w → kept_of (p n) ≤ j → kept_of (after_num w i at p) ≤ j
unfolding after_num kept_of
num_kept i p (is_value h) l = l
num_kept i p (is_short h) l = omega arith

text_kept : {size n at j : ℕ} {w : Text} (m : Role) (p : ℕ → Pieces) → TextView size n at w → ((next : ℕ) → pick (is_kept m) 1 0 + kept_of (p next) ≤ j)
    → kept_of (after_text w m p) ≤ j
unfolding after_text kept_of
text_kept m p (no_length h) l = omega arith
text_kept m p (too_long_there h x) l = omega arith
text_kept m p (no_contents h x c) l = omega arith
text_kept m p (no_padding h x c) l = omega arith
text_kept m p (is_whole h x) l = l _

zero_kept : {j : ℕ} (n : ℕ) (k : Unit {0} → Tree) (s : List ℕ) (at : ℕ) → kept_of (run (k tt) s at) ≤ j → kept_of (run (if_zero n k) s at) ≤ j
unfolding run kept_of
zero_kept zero k s at l = l
zero_kept (suc n) k s at l = omega arith

pub lowers_kept : {b : Bool} {j : ℕ} {t u : Tree} → Lowers b j t u → (s : List ℕ) (at : ℕ) → kept_of (run u s at) ≤ j
unfolding run kept_of
lowers_kept (asks {i'} {k'} f) s at = num_kept i' (λ n. run (k' n) s (at + 8)) (num_view (length s) (number_at s at) at) (lowers_kept (f (number_at s at)) s (at + 8))
lowers_kept (tests {k'} f) s at = num_kept dropped (λ n. run (if_zero n k') s (at + 8)) (num_view (length s) (number_at s at) at) (zero_kept (number_at s at) k' s (at + 8) (lowers_kept f s (at + 8)))
lowers_kept (passes {k'} f) s at = text_kept passed (λ n. run (k' tt) s n) (text_view (length s) (number_at s at) at) (λ n. let z = lowers_kept f s n in omega arith)
lowers_kept (keeps {k'} f) s at = text_kept kept (λ n. run (k' tt) s n) (text_view (length s) (number_at s at) at) (λ n. let z = lowers_kept f s n in omega arith)
lowers_kept leaves s at = omega arith
lowers_kept stops s at = omega arith
