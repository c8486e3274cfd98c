-- The stderr loop: the bound on its messages is no bound, since every message takes a number (`any_bound`); the contents and padding of its messages decide
-- nothing (`soft_stderr`), nor do those of the error block behind it (`soft_read_error`).
use Prim.Native.Nat.{ℕ, zero, suc, ◌+◌, ◌≤◌, ◌<◌}
use mathlib.Core.Path.{◌≡◌, refl, sym, ◌∙◌, ap}
use mathlib.Core.List.{List}
use mathlib.Core.Bool.{Bool, true, false}
use lib.ListN.{length, get_or, drop}
use lib.Dec.{leb, eqb}
use native.Mathlib.Omega.{arith}
use native.Mathlib.Decide.{dec_lt}
use borrow.Author.Tests.{leb-true}
use Rattle.layouts.specs.Primitive.{pick, number_at, version, Result, ok, refused, onward}
use Rattle.layouts.specs.Shape.{Group, Tree, layout}
use Rattle.layouts.specs.Pieces.{Pieces, end, run, skip_of, total_of}
use Rattle.layouts.specs.Record.{record_of}
use Rattle.layouts.specs.Judge.{Ended, judge_of}
use Rattle.layouts.specs.Stderr.{Error, Message, no_code, terminal, goes, message_of, Stopped, after_peek, stderr_from, stderr_loop, stopped_record, stderr_answer, if_error, ported_error, traced_error, short_error, error_groups, error_block, error_pieces, read_stderr_with_error}
use Rattle.layouts.specs.Soft.{soft, kept_of, unless_bad, soft_after, soft_message, soft_from, SoftenedStderr, soft_error, SoftenedError}
use Rattle.layouts.proofs.Little.{number_same}
use Rattle.layouts.proofs.Placed.{never_both, Placed, on_end, FailsBy15, run_placed, ends, soft_low, soft_high, neither}
use Rattle.layouts.proofs.Trees.{GroupsFit, groups_no_payload}
use Rattle.layouts.proofs.Judge.{judge_room}
use Rattle.layouts.proofs.Calls.{unless_answered}
use Rattle.layouts.proofs.Soft.{in_or_out, soft_run_at, same_drop}

same_onward : {A B : Type 0} (o : Result A) (k k' : A → Result B) → ((a : A) → o ≡ ok a → k a ≡ k' a) → onward o k ≡ onward o k'
same_onward (ok a) k k' f = f a refl
same_onward (refused which place stream) k k' f = refl

same_peek : (b : Bool) (x : Message) (c at m : ℕ) (skip : List Group → Result ℕ) (again again' : ℕ → Result Stopped)
    → (b ≡ true → (gs : List Group) (e : ℕ) → skip gs ≡ ok e → again e ≡ again' e) → after_peek b x c at m skip again ≡ after_peek b x c at m skip again'
unfolding after_peek
same_peek false x c at m skip again again' f = refl
same_peek true no_code c at m skip again again' f = refl
same_peek true terminal c at m skip again again' f = refl
same_peek true (goes gs) c at m skip again again' f = same_onward (skip gs) again again' (f refl gs)

pub any_bound : (f g : ℕ) (s : List ℕ) (at m : ℕ) → at ≤ length s → length s < f + at → length s < g + at → stderr_from f s at m ≡ stderr_from g s at m
unfolding stderr_from
any_bound zero g s at m h p q = absurd (omega arith)
any_bound (suc f) zero s at m h p q = absurd (omega arith)
any_bound (suc f) (suc g) s at m h p q =
    same_peek (leb (at + 8) (length s)) (message_of (number_at s at)) (number_at s at) at m
    (λ gs. skip_of (run (layout (version 0 0) gs) s (at + 8))) (λ e. stderr_from f s e (m + 1)) (λ e. stderr_from g s e (m + 1))
    (λ b gs e o.
    let z = ends e (run_placed (layout (version 0 0) gs) s (at + 8) (leb-true (at + 8) (length s) b)) o in
    any_bound f g s e (m + 1) z.1 (omega arith) (omega arith))

-- ---- soft bytes
after_soft : (o : Result ℕ) (k : ℕ → Bool) → ((e : ℕ) → o ≡ ok e → k e ≡ false) → soft_after o k ≡ false
after_soft (ok e) k f = f e refl
after_soft (refused which place stream) k f = refl

module _ (s : List ℕ) where
  -- a message's tree and its pieces
  abbrev body : List Group → Tree
  body gs = layout (version 0 0) gs

  abbrev from : (at : ℕ) → List Group → Pieces
  from at gs = run (body gs) s (at + 8)

  message_low : (at x : ℕ) (b : Bool) (m : Message) (again : ℕ → Bool) → leb (at + 8) (length s) ≡ b → x < at + 8
      → ((e : ℕ) → at + 8 ≤ e → e ≤ length s → again e ≡ false) → soft_message b m (from at) again x ≡ false
  unfolding soft_message
  message_low at x false m again h l f = refl
  message_low at x true no_code again h l f = refl
  message_low at x true terminal again h l f = refl
  message_low at x true (goes gs) again h l f =
      let p = run_placed (body gs) s (at + 8) (leb-true (at + 8) (length s) h) in
      neither (soft (from at gs) x) _ (soft_low x p (omega arith)) (after_soft (skip_of (from at gs)) again (λ e q. let z = ends e p q in f e z.0 z.1))

  -- neither the code nor what stands before it is soft
  from_low : (f at x : ℕ) → x < at + 8 → soft_from f s at x ≡ false
  unfolding soft_from
  from_low zero at x l = refl
  from_low (suc f) at x l =
      message_low at x (leb (at + 8) (length s)) (message_of (number_at s at)) (λ e. soft_from f s e x) refl l (λ e g h. from_low f e x (omega arith))

-- a message whose fields are passed, and the loop goes on
pub passed_on : {A B : Type 0} (o : Result A) (k : A → Result B) (x : B) → onward o k ≡ ok x → (a : A) × (o ≡ ok a) × (k a ≡ ok x)
passed_on (ok a) k x q = (a, refl, q)
passed_on (refused which place stream) k x q = absurd (never_both q)

-- ---- where the loop stops: within the stream, and from there on no byte of its messages is soft
module _ (s : List ℕ) (x : Stopped) where
  abbrev StopsIn : (at : ℕ) → Type 0
  StopsIn at = (at ≤ x.ends) × (at ≤ length s → x.ends ≤ length s)

  message_stops : (b : Bool) (y : Message) (c at m : ℕ) (again : ℕ → Result Stopped) → leb (at + 8) (length s) ≡ b
      → ((e : ℕ) → again e ≡ ok x → StopsIn e) → after_peek b y c at m (λ gs. skip_of (from s at gs)) again ≡ ok x → StopsIn at
  unfolding after_peek
  message_stops false y c at m again h f q = let z : at ≡ x.ends = cc in (omega arith, λ g. omega arith)
  message_stops true no_code c at m again h f q = let z : at ≡ x.ends = cc in (omega arith, λ g. omega arith)
  message_stops true terminal c at m again h f q =
      let z : at + 8 ≡ x.ends = cc in let l = leb-true (at + 8) (length s) h in (omega arith, λ g. omega arith)
  message_stops true (goes gs) c at m again h f q =
      let z = passed_on (skip_of (from s at gs)) again x q in
      let w = ends z.0 (run_placed (body s gs) s (at + 8) (leb-true (at + 8) (length s) h)) z.1 in
      let y = f z.0 z.2 in (omega arith, λ g. y.1 w.1)

  pub stops_in : (f at m : ℕ) → stderr_from f s at m ≡ ok x → StopsIn at
  unfolding stderr_from
  stops_in zero at m q = let z : at ≡ x.ends = cc in (omega arith, λ g. omega arith)
  stops_in (suc f) at m q =
      message_stops (leb (at + 8) (length s)) (message_of (number_at s at)) (number_at s at) at m (λ e. stderr_from f s e (m + 1)) refl
      (λ e z. stops_in f e (m + 1) z) q

  message_high : (b : Bool) (y : Message) (c at m i : ℕ) (again : ℕ → Result Stopped) (p : ℕ → Bool) → leb (at + 8) (length s) ≡ b → x.ends ≤ i
      → ((e : ℕ) → again e ≡ ok x → (e ≤ x.ends) × (p e ≡ false)) → after_peek b y c at m (λ gs. skip_of (from s at gs)) again ≡ ok x
      → soft_message b y (from s at) p i ≡ false
  unfolding after_peek soft_message
  message_high false y c at m i again p h l f q = refl
  message_high true no_code c at m i again p h l f q = refl
  message_high true terminal c at m i again p h l f q = refl
  message_high true (goes gs) c at m i again p h l f q =
      let z = passed_on (skip_of (from s at gs)) again x q in
      let y = f z.0 z.2 in
      neither (soft (from s at gs) i) _
      (soft_high z.0 i (run_placed (body s gs) s (at + 8) (leb-true (at + 8) (length s) h)) z.1 (omega arith))
      (ap (λ (o : Result ℕ). soft_after o p) z.1 ∙ y.1)

  stops_high : (f at m i : ℕ) → x.ends ≤ i → stderr_from f s at m ≡ ok x → soft_from f s at i ≡ false
  unfolding stderr_from soft_from
  stops_high zero at m i l q = refl
  stops_high (suc f) at m i l q =
      message_high (leb (at + 8) (length s)) (message_of (number_at s at)) (number_at s at) at m i (λ e. stderr_from f s e (m + 1)) (λ e. soft_from f s e i) refl l
      (λ e z. ((stops_in f e (m + 1) z).0, stops_high f e (m + 1) i l z)) q

module _ (s s' : List ℕ) (same : length s' ≡ length s) where
  -- up to the number at which the loop stops, which it may have looked at
  abbrev Looked : Result Stopped → ℕ → Type 0
  Looked o y = (x : Stopped) → o ≡ ok x → y < x.ends + 8

  abbrev Agree : (at : ℕ) → Result Stopped → (ℕ → Bool) → Type 0
  Agree at o p = (y : ℕ) → at ≤ y → Looked o y → p y ≡ false → get_or s' y 0 ≡ get_or s y 0

  -- one message
  same_message : (at m c : ℕ) (b : Bool) (x : Message) (p : ℕ → ℕ → Bool) (again again' : ℕ → Result Stopped) → leb (at + 8) (length s) ≡ b
      → Agree at (after_peek b x c at m (λ gs. skip_of (from s at gs)) again) (λ y. soft_message b x (from s at) (λ e. p e y) y)
      → ((e y : ℕ) → y < e → p e y ≡ false)
      → ((e : ℕ) (z : Stopped) → again e ≡ ok z → e ≤ z.ends)
      → ((e : ℕ) → at + 8 ≤ e → e ≤ length s → Agree e (again e) (p e) → again' e ≡ again e)
      → after_peek b x c at m (λ gs. skip_of (run (body s gs) s' (at + 8))) again' ≡ after_peek b x c at m (λ gs. skip_of (from s at gs)) again
  unfolding after_peek soft_message
  same_message at m c false x p again again' h a low up f = refl
  same_message at m c true no_code p again again' h a low up f = refl
  same_message at m c true terminal p again again' h a low up f = refl
  same_message at m c true (goes gs) p again again' h a low up f =
      let l = leb-true (at + 8) (length s) h in
      let w = run_placed (body s gs) s (at + 8) l in
      let q : run (body s gs) s' (at + 8) ≡ from s at gs =
      soft_run_at (body s gs) s s' (at + 8) l same
      (λ y g o b z. a y (omega arith)
      (λ x t. let v = passed_on (skip_of (from s at gs)) again x t in let i = b v.0 v.1 in let j = up v.0 x v.2 in omega arith)
      (neither (soft (from s at gs) y) _ z (after_soft (skip_of (from s at gs)) (λ e. p e y) (λ e t. low e y (b e t))))) in
      ap (λ (o : Pieces). onward (skip_of o) again') q
      ∙ same_onward (skip_of (from s at gs)) again' again
      (λ e t.
      let z = ends e w t in
      f e z.0 z.1
      (λ y g k o. a y (omega arith) (λ x v. k x (sym (ap (λ (r : Result ℕ). onward r again) t) ∙ v))
      (neither (soft (from s at gs) y) _ (soft_high e y w t g) (ap (λ (r : Result ℕ). soft_after r (λ i. p i y)) t ∙ o))))

  same_stderr : (f at m : ℕ) → Agree at (stderr_from f s at m) (soft_from f s at) → stderr_from f s' at m ≡ stderr_from f s at m
  unfolding stderr_from soft_from
  same_stderr zero at m a = refl
  same_stderr (suc f) at m a =
      let n = number_same s s' at (λ x g l. a x g (λ z t. let i = stops_in s z (suc f) at m t in omega arith) (from_low s (suc f) at x l)) in
      rw (same, n)
      (same_message at m (number_at s at) (leb (at + 8) (length s)) (message_of (number_at s at)) (λ e y. soft_from f s e y) (λ e. stderr_from f s e (m + 1))
      (λ e. stderr_from f s' e (m + 1)) refl a (λ e y l. from_low s f e y (omega arith)) (λ e z t. (stops_in s z f e (m + 1) t).0)
      (λ e g h b. same_stderr f e (m + 1) b))

  -- from the start
  same_loop : ((y : ℕ) → y < length s → Looked (stderr_loop s) y → soft_from (suc (length s)) s 0 y ≡ false → get_or s' y 0 ≡ get_or s y 0) → stderr_loop s' ≡ stderr_loop s
  unfolding stderr_loop
  same_loop a =
      ap (λ (n : ℕ). stderr_from (suc n) s' 0 0) same
      ∙ same_stderr (suc (length s)) 0 0 (λ x g k q. in_or_out s s' same x (dec_lt x (length s)) (λ l. a x l k q))

-- ---- demand 3 for the loop. It decodes no string, so nothing new is refused
module _ (s s' : List ℕ) (a : SoftenedStderr s s') where
  -- the loop stops at the same byte, with the same count and terminal code, or is refused alike
  pub soft_stderr : stderr_loop s' ≡ stderr_loop s
  soft_stderr = same_loop s s' a.size (λ y l k q. a.hard y l q)

  -- what follows is as before
  pub soft_rest_stderr : (x : Stopped) → stderr_loop s ≡ ok x → drop x.ends s' ≡ drop x.ends s
  unfolding stderr_loop
  soft_rest_stderr x q = same_drop s s' x.ends a.size (λ y g l. a.hard y l (stops_high s x (suc (length s)) 0 0 y g q))

-- ---- demand 3 for the loop with the error block
no_frames : (b c : Bool) → GroupsFit ⊥ (pick b ported_error (pick c traced_error short_error))
no_frames true c = search
no_frames false true = search
no_frames false false = search

-- the pieces behind the loop, where it stops
module _ (k : ℕ) (s : List ℕ) (x : Stopped) where
  abbrev behind : (is : Bool) → Pieces
  behind b = pick b (run (error_block k) s x.ends) (end x.ends)

  behind_placed : (b : Bool) → x.ends ≤ length s → Placed (FailsBy15 (error_block k)) (length s) x.ends (behind b)
  behind_placed true h = run_placed (error_block k) s x.ends h
  behind_placed false h = on_end x.ends x.ends (omega arith) h

  behind_payload : (b : Bool) → total_of (behind b) ≡ 0
  unfolding error_block total_of
  behind_payload true = groups_no_payload (version 0 0) (error_groups k) (no_frames (eqb k 0) (eqb k 1)) s x.ends
  behind_payload false = refl

  -- reading judges them
  behind_judged : (b : Bool) (slots : ℕ) → if_error k b x (λ u. judge_of s slots 0 (stopped_record x) (run (error_block k) s x.ends))
      ≡ onward (judge_of s slots 0 (stopped_record x) (behind b)) (λ e. stderr_answer (pick b k 0) e.ends e.found)
  unfolding judge_of
  behind_judged true slots = refl
  behind_judged false slots = refl

same_behind : (k : ℕ) (s s' : List ℕ) (x : Stopped) (b : Bool) → x.ends ≤ length s → length s' ≡ length s
    → ((y : ℕ) → x.ends ≤ y → y < length s → soft (behind k s x b) y ≡ false → get_or s' y 0 ≡ get_or s y 0) → behind k s' x b ≡ behind k s x b
same_behind k s s' x true h same f = soft_run_at (error_block k) s s' x.ends h same (λ y g l c q. f y g l q)
same_behind k s s' x false h same f = refl

-- s' differs from s in soft bytes of the messages and of the error block only, and the loop stops on s
module _ (k : ℕ) (s s' : List ℕ) (a : SoftenedError k s s') (x : Stopped) (stops : stderr_loop s ≡ ok x) where
  abbrev block : Pieces
  block = error_pieces k s (stderr_loop s)

  abbrev is_error : Bool
  is_error = eqb x.code Error

  block_is : block ≡ behind k s x is_error
  unfolding error_pieces
  block_is = ap (error_pieces k s) stops

  in_stream : x.ends ≤ length s
  unfolding stderr_loop
  in_stream = (stops_in s x (suc (length s)) 0 0 stops).1 (omega arith)

  block_placed : Placed (FailsBy15 (error_block k)) (length s) x.ends block
  block_placed = rw block_is (behind_placed k s x is_error in_stream)

  hard_in_both : (y : ℕ) → soft_from (suc (length s)) s 0 y ≡ false → soft block y ≡ false → soft_error k s y ≡ false
  unfolding soft_error
  hard_in_both y f g = neither (soft_from (suc (length s)) s 0 y) (soft block y) f g

  -- behind the loop only the block has soft bytes
  behind_loop : (y : ℕ) → x.ends ≤ y → y < length s → soft block y ≡ false → get_or s' y 0 ≡ get_or s y 0
  unfolding stderr_loop
  behind_loop y g l q = a.hard y l (hard_in_both y (stops_high s x (suc (length s)) 0 0 y g stops) q)

  -- the loop stops as it did
  pub soft_error_loop : stderr_loop s' ≡ ok x
  soft_error_loop = same_loop s s' a.size (λ y l f q. a.hard y l (hard_in_both y q (soft_low y block_placed (f x stops)))) ∙ stops

  -- the same pieces of the block
  pub soft_error_pieces : error_pieces k s' (stderr_loop s') ≡ error_pieces k s (stderr_loop s)
  unfolding error_pieces
  soft_error_pieces =
      ap (error_pieces k s') soft_error_loop
      ∙ same_behind k s s' x is_error in_stream a.size (λ y g l q. behind_loop y g l (ap (λ (p : Pieces). soft p y) block_is ∙ q)) ∙ sym block_is

  -- where the block is passed to the end e, with room for its entries: what s means, unless a decoded string of s' is not text
  module _ (e : ℕ) (passed : skip_of (error_pieces k s (stderr_loop s)) ≡ ok e) where
    pub soft_read_error : (slots : ℕ) → kept_of (error_pieces k s (stderr_loop s)) ≤ slots
        → read_stderr_with_error k s' slots ≡ unless_bad s' (error_pieces k s (stderr_loop s)) (stderr_answer (pick is_error k 0) e (record_of (stopped_record x) (error_pieces k s (stderr_loop s))))
    unfolding read_stderr_with_error error_pieces
    soft_read_error slots l =
        let r = stopped_record x in
        let z : total_of block ≡ 0 = ap total_of block_is ∙ behind_payload k s x is_error in
        let same : behind k s' x is_error ≡ block = sym (ap (error_pieces k s') soft_error_loop) ∙ soft_error_pieces in
        ap (λ (o : Result Stopped). onward o (λ y. if_error k (eqb y.code Error) y (λ u. judge_of s' slots 0 (stopped_record y) (run (error_block k) s' y.ends)))) soft_error_loop
        ∙ behind_judged k s' x is_error slots
        ∙ ap (λ (p : Pieces). onward (judge_of s' slots 0 r p) (λ y. stderr_answer (pick is_error k 0) y.ends y.found)) same
        ∙ ap (λ (o : Result Ended). onward o (λ y. stderr_answer (pick is_error k 0) y.ends y.found)) (judge_room s' slots 0 r block e passed (omega arith) (omega arith))
        ∙ unless_answered s' block (record { found = record_of r block; ends = e }) (λ y. stderr_answer (pick is_error k 0) y.ends y.found)

    -- what follows is as before
    pub soft_rest_error : drop e s' ≡ drop e s
    soft_rest_error =
        let w = ends e block_placed passed in
        same_drop s s' e a.size (λ y g l. behind_loop y (omega arith) l (soft_high e y block_placed passed g))
