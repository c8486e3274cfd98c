-- W-212 of both handshakes: on each stream when the other is whole.
use Prim.Native.Nat.{ℕ, ◌≤◌, ◌<◌}
use mathlib.Core.Path.{◌≡◌, refl, sym, ◌∙◌, ap}
use mathlib.Core.List.{List, []}
use mathlib.Core.Bool.{Bool, true, false}
use lib.ListN.{length, take}
use lib.Seq.{length-take-le, take-take}
use native.Mathlib.Omega.{arith}
use native.Mathlib.Decide.{dec_le}
use Rattle.layouts.specs.declared.Record.{Record}
use Rattle.layouts.specs.Primitive.{pick, Version, from_wire, cut_short, Result, ok, refused, onward}
use Rattle.layouts.specs.Refusal.{refused_by}
use Rattle.layouts.specs.Shape.{Tree}
use Rattle.layouts.specs.Pieces.{Pieces, run, skip_of}
use Rattle.layouts.specs.Record.{blank, record_of}
use Rattle.layouts.specs.Judge.{Ended, judge_of}
use Rattle.layouts.specs.Calls.{Answer}
use Rattle.layouts.specs.Handshake.{Talk, turn, lost, over, Heard, heard, if_ends, hear, stream_of, on_stream, Both, judge_heard, number_in, handshake, daemon_handshake, handshake_answer, parse_handshake, parse_daemon_handshake}
use Rattle.layouts.specs.Cut.{SameTo, RefusedAsCut, WholeOnly}
use Rattle.layouts.proofs.Placed.{never_both, run_placed, ends}
use Rattle.layouts.proofs.Judge.{judge_read}
use Rattle.layouts.proofs.Cut.{longer_read, cut_read, same_ok, answer_whole}

-- ---- one turn, on stream d
-- it was read, and what follows it
pub record TurnRead (d : Bool) (s u : List ℕ) (slots : ℕ) (r : Record) (p : Pieces) (next : ℕ → Heard) (y : Both) : Type 0 where
  pub last : Ended
  pub read : judge_of (pick d u s) slots 0 r p ≡ ok last
  pub on : judge_heard s u slots (record_of r p) (next last.ends) ≡ ok y

module _ (d : Bool) (s u : List ℕ) (slots : ℕ) (r : Record) (p : Pieces) (next : ℕ → Heard) where
  -- judging a turn that is read is judging what follows it
  turn_goes : (x : Ended) → judge_of (pick d u s) slots 0 r p ≡ ok x
      → judge_heard s u slots r (heard d p (if_ends d (skip_of p) next)) ≡ judge_heard s u slots (record_of r p) (next x.ends)
  unfolding judge_heard
  turn_goes x e =
      let j = judge_read (pick d u s) slots 0 r p x e in
      ap (λ (o : Result Ended). onward (on_stream d o) (λ z. judge_heard s u slots z.found (if_ends d (skip_of p) next))) e
      ∙ ap (λ (o : Result ℕ). judge_heard s u slots x.found (if_ends d o next)) j.skips
      ∙ ap (λ (q : Record). judge_heard s u slots q (next x.ends)) j.holds

  turn_lost : (place : ℕ) (h : Heard) → judge_of (pick d u s) slots 0 r p ≡ refused cut_short place 0 → judge_heard s u slots r (heard d p h) ≡ refused cut_short place (stream_of d)
  unfolding judge_heard
  turn_lost place h e = ap (λ (o : Result Ended). onward (on_stream d o) (λ z. judge_heard s u slots z.found h)) e

  turn_read : (y : Both) → judge_heard s u slots r (heard d p (if_ends d (skip_of p) next)) ≡ ok y → TurnRead d s u slots r p next y
  unfolding judge_heard
  turn_read y e = by (judge_of (pick d u s) slots 0 r p) refl e
    where
      by : (o : Result Ended) → judge_of (pick d u s) slots 0 r p ≡ o → onward (on_stream d o) (λ z. judge_heard s u slots z.found (if_ends d (skip_of p) next)) ≡ ok y
          → TurnRead d s u slots r p next y
      by (ok x) q f = record { last = x; read = q; on = sym (turn_goes x q) ∙ e }
      by (refused which place stream) q f = absurd (never_both f)

-- a shorter same beginning
same_below : (s s' : List ℕ) (e e' : ℕ) → SameTo e s s' → e' ≤ e → SameTo e' s s'
same_below s s' e e' c h = sym (take-take e' e s' h) ∙ ap (take e') c ∙ take-take e' e s h

ends_same : (d : Bool) (o : Result ℕ) (e : ℕ) (k k' : ℕ → Heard) → o ≡ ok e → k' e ≡ k e → if_ends d o k' ≡ if_ends d o k
ends_same d o e k k' q f = ap (λ (w : Result ℕ). if_ends d w k') q ∙ f ∙ sym (ap (λ (w : Result ℕ). if_ends d w k) q)

-- the turn was read on s; s' and u' are what both streams are now, so it stands on one of them
module _ (d : Bool) (s s' u' : List ℕ) (slots : ℕ) (t : Tree) (a : ℕ) (r : Record) (h : a ≤ length s) (x : Ended) (e : judge_of s slots 0 r (run t s a) ≡ ok x)
    (next : Pieces → ℕ → Heard) where
  abbrev now : List ℕ
  now = pick d u' s'

  abbrev turned : Pieces → Heard
  turned p = heard d p (if_ends d (skip_of p) (next p))

  -- with the same bytes up to its end it is the same
  turn_longer : SameTo x.ends s now
      → (turned (run t now a) ≡ turned (run t s a)) × (judge_heard s' u' slots r (turned (run t now a)) ≡ judge_heard s' u' slots (record_of r (run t s a)) (next (run t s a) x.ends))
  turn_longer c =
      let z = longer_read t s now a h slots 0 r x e c in
      let same : run t now a ≡ run t s a = ap (λ (q : Pieces × List ℕ). q.0) z.1 in
      let q : judge_of now slots 0 r (run t s a) ≡ ok x = sym (ap (judge_of now slots 0 r) same) ∙ z.0 in
      (ap turned same, ap (λ (p : Pieces). judge_heard s' u' slots r (turned p)) same ∙ turn_goes d s' u' slots r (run t s a) (next (run t s a)) x q)

  -- the stream is cut behind it, and what follows is refused; or in it
  turn_cut : (n : ℕ) → now ≡ take n s → n ≤ length s → a ≤ n
      → (x.ends ≤ n → RefusedAsCut refused_by (stream_of d) (judge_heard s' u' slots (record_of r (run t s a)) (next (run t s a) x.ends))) → Dec (x.ends ≤ n)
      → RefusedAsCut refused_by (stream_of d) (judge_heard s' u' slots r (turned (run t now a)))
  turn_cut n c m l f (yes g) =
      let w = f g in
      (w.0, (turn_longer (ap (take x.ends) c ∙ take-take x.ends n s g)).1 ∙ w.1)
  turn_cut n c m l f (no g) =
      let z : length now ≡ n = ap length c ∙ length-take-le n s m in
      let w = cut_read t s now a h slots 0 r x e (omega arith) (n, omega arith, c) in
      (w.0, turn_lost d s' u' slots r (run t now a) (next (run t now a)) w.0 (if_ends d (skip_of (run t now a)) (next (run t now a))) w.1)

module _ (slots : ℕ) (y : Both) where
  -- ---- the places are not behind the ends, nor these behind the streams
  module _ (s u : List ℕ) where
    talk_ends : (x : Talk) (a b : ℕ) (r : Record) → a ≤ length s → b ≤ length u → judge_heard s u slots r (hear x s u a b r) ≡ ok y
        → ((a ≤ y.client_ends) × (b ≤ y.daemon_ends)) × ((y.client_ends ≤ length s) × (y.daemon_ends ≤ length u))
    unfolding hear judge_heard
    talk_ends (turn false t k) a b r h g j =
        let p = run t s a in
        let w = turn_read false s u slots r p (λ e. hear (k (record_of r p) e) s u e b (record_of r p)) y j in
        let v = ends w.last.ends (run_placed t s a h) (judge_read s slots 0 r p w.last w.read).skips in
        let z = talk_ends (k (record_of r p) w.last.ends) w.last.ends b (record_of r p) v.1 g w.on in
        ((omega arith, z.0.1), z.1)
    talk_ends (turn true t k) a b r h g j =
        let p = run t u b in
        let w = turn_read true s u slots r p (λ e. hear (k (record_of r p) e) s u a e (record_of r p)) y j in
        let v = ends w.last.ends (run_placed t u b g) (judge_read u slots 0 r p w.last w.read).skips in
        let z = talk_ends (k (record_of r p) w.last.ends) a w.last.ends (record_of r p) h v.1 w.on in
        ((z.0.0, omega arith), z.1)
    talk_ends (lost which place stream) a b r h g j = absurd (never_both j)
    talk_ends over a b r h g j = let c : a ≡ y.client_ends = cc in let d : b ≡ y.daemon_ends = cc in ((omega arith, omega arith), (omega arith, omega arith))

    -- ---- with the same bytes up to both ends all is the same
    talk_longer : (s' u' : List ℕ) (x : Talk) (a b : ℕ) (r : Record) → a ≤ length s → b ≤ length u → judge_heard s u slots r (hear x s u a b r) ≡ ok y
        → SameTo y.client_ends s s' → SameTo y.daemon_ends u u'
        → (judge_heard s' u' slots r (hear x s' u' a b r) ≡ ok y) × (hear x s' u' a b r ≡ hear x s u a b r)
    unfolding hear judge_heard
    talk_longer s' u' (turn false t k) a b r h g j c d =
        let p = run t s a in
        let q = record_of r p in
        let w = turn_read false s u slots r p (λ e. hear (k q e) s u e b q) y j in
        let e = w.last.ends in
        let skips = (judge_read s slots 0 r p w.last w.read).skips in
        let v = ends e (run_placed t s a h) skips in
        let l = talk_ends (k q e) e b q v.1 g w.on in
        let z = turn_longer false s s' u' slots t a r h w.last w.read (λ o i. hear (k (record_of r o) i) s' u' i b (record_of r o)) (same_below s s' y.client_ends e c l.0.0) in
        let rest = talk_longer s' u' (k q e) e b q v.1 g w.on c d in
        (z.1 ∙ rest.0, z.0 ∙ ap (heard false p) (ends_same false (skip_of p) e (λ i. hear (k q i) s u i b q) (λ i. hear (k q i) s' u' i b q) skips rest.1))
    talk_longer s' u' (turn true t k) a b r h g j c d =
        let p = run t u b in
        let q = record_of r p in
        let w = turn_read true s u slots r p (λ e. hear (k q e) s u a e q) y j in
        let e = w.last.ends in
        let skips = (judge_read u slots 0 r p w.last w.read).skips in
        let v = ends e (run_placed t u b g) skips in
        let l = talk_ends (k q e) a e q h v.1 w.on in
        let z = turn_longer true u s' u' slots t b r g w.last w.read (λ o i. hear (k (record_of r o) i) s' u' a i (record_of r o)) (same_below u u' y.daemon_ends e d l.0.1) in
        let rest = talk_longer s' u' (k q e) a e q h v.1 w.on c d in
        (z.1 ∙ rest.0, z.0 ∙ ap (heard true p) (ends_same true (skip_of p) e (λ i. hear (k q i) s u a i q) (λ i. hear (k q i) s' u' a i q) skips rest.1))
    talk_longer s' u' (lost which place stream) a b r h g j c d = absurd (never_both j)
    talk_longer s' u' over a b r h g j c d = (j, refl)

    -- ---- the client's stream is cut
    client_cut : (s' : List ℕ) (n : ℕ) → s' ≡ take n s → n ≤ length s → n < y.client_ends → (x : Talk) (a b : ℕ) (r : Record) → a ≤ n → b ≤ length u
        → judge_heard s u slots r (hear x s u a b r) ≡ ok y → RefusedAsCut refused_by 0 (judge_heard s' u slots r (hear x s' u a b r))
    unfolding hear judge_heard
    client_cut s' n c m o (turn false t k) a b r h g j =
        let p = run t s a in
        let q = record_of r p in
        let w = turn_read false s u slots r p (λ e. hear (k q e) s u e b q) y j in
        let e = w.last.ends in
        turn_cut false s s' u slots t a r (omega arith) w.last w.read (λ o i. hear (k (record_of r o) i) s' u i b (record_of r o)) n c m h
        (λ i. client_cut s' n c m o (k q e) e b q i g w.on) (dec_le e n)
    client_cut s' n c m o (turn true t k) a b r h g j =
        let p = run t u b in
        let q = record_of r p in
        let w = turn_read true s u slots r p (λ e. hear (k q e) s u a e q) y j in
        let e = w.last.ends in
        let v = ends e (run_placed t u b g) (judge_read u slots 0 r p w.last w.read).skips in
        let z = client_cut s' n c m o (k q e) a e q h v.1 w.on in
        (z.0, turn_goes true s' u slots r p (λ i. hear (k q i) s' u a i q) w.last w.read ∙ z.1)
    client_cut s' n c m o (lost which place stream) a b r h g j = absurd (never_both j)
    client_cut s' n c m o over a b r h g j = let z : a ≡ y.client_ends = cc in absurd (omega arith)

    -- ---- the daemon's is
    daemon_cut : (u' : List ℕ) (n : ℕ) → u' ≡ take n u → n ≤ length u → n < y.daemon_ends → (x : Talk) (a b : ℕ) (r : Record) → a ≤ length s → b ≤ n
        → judge_heard s u slots r (hear x s u a b r) ≡ ok y → RefusedAsCut refused_by 1 (judge_heard s u' slots r (hear x s u' a b r))
    unfolding hear judge_heard
    daemon_cut u' n c m o (turn true t k) a b r h g j =
        let p = run t u b in
        let q = record_of r p in
        let w = turn_read true s u slots r p (λ e. hear (k q e) s u a e q) y j in
        let e = w.last.ends in
        turn_cut true u s u' slots t b r (omega arith) w.last w.read (λ o i. hear (k (record_of r o) i) s u' a i (record_of r o)) n c m g
        (λ i. daemon_cut u' n c m o (k q e) a e q h i w.on) (dec_le e n)
    daemon_cut u' n c m o (turn false t k) a b r h g j =
        let p = run t s a in
        let q = record_of r p in
        let w = turn_read false s u slots r p (λ e. hear (k q e) s u e b q) y j in
        let e = w.last.ends in
        let v = ends e (run_placed t s a h) (judge_read s slots 0 r p w.last w.read).skips in
        let z = daemon_cut u' n c m o (k q e) e b q v.1 g w.on in
        (z.0, turn_goes false s u' slots r p (λ i. hear (k q i) s u' i b q) w.last w.read ∙ z.1)
    daemon_cut u' n c m o (lost which place stream) a b r h g j = absurd (never_both j)
    daemon_cut u' n c m o over a b r h g j = let z : b ≡ y.daemon_ends = cc in absurd (omega arith)

-- ---- any talk from the start of both streams
module _ (x : Talk) (slots : ℕ) where
  client_whole : (u : List ℕ) → WholeOnly (λ s. judge_heard s u slots blank (hear x s u 0 0 blank)) (λ y. y.client_ends) 0 (λ s. hear x s u 0 0 blank)
  client_whole u =
      record {
        within = λ s y j. (talk_ends slots y s u x 0 0 blank (omega arith) (omega arith) j).1.0;
        cut = λ s s' y j (n, o, c).
            let w = talk_ends slots y s u x 0 0 blank (omega arith) (omega arith) j in
            client_cut slots y s u s' n c (omega arith) o x 0 0 blank (omega arith) (omega arith) j;
        longer = λ s s' y j c. talk_longer slots y s u s' u x 0 0 blank (omega arith) (omega arith) j c refl;
      }

  daemon_whole : (s : List ℕ) → WholeOnly (λ u. judge_heard s u slots blank (hear x s u 0 0 blank)) (λ y. y.daemon_ends) 1 (λ u. hear x s u 0 0 blank)
  daemon_whole s =
      record {
        within = λ u y j. (talk_ends slots y s u x 0 0 blank (omega arith) (omega arith) j).1.1;
        cut = λ u u' y j (n, o, c).
            let w = talk_ends slots y s u x 0 0 blank (omega arith) (omega arith) j in
            daemon_cut slots y s u u' n c (omega arith) o x 0 0 blank (omega arith) (omega arith) j;
        longer = λ u u' y j c. talk_longer slots y s u s u' x 0 0 blank (omega arith) (omega arith) j refl c;
      }

-- ---- the two handshakes
module _ (slots : ℕ) where
  abbrev answered_to : Both → Result Answer
  answered_to y = handshake_answer (from_wire (number_in y.found 1)) y

  pub handshake_client_whole : (u : List ℕ) → WholeOnly (λ s. parse_handshake s u slots) (λ x. x.ends) 0 (λ s. hear handshake s u 0 0 blank)
  unfolding parse_handshake
  handshake_client_whole u = answer_whole (client_whole handshake slots u) (λ h y. answered_to y) (λ x. x.ends) (λ h y x q. sym (ap (λ (w : Answer). w.ends) (same_ok q)))

  pub handshake_daemon_whole : (s : List ℕ) → WholeOnly (λ u. parse_handshake s u slots) (λ x. x.ends2) 1 (λ u. hear handshake s u 0 0 blank)
  unfolding parse_handshake
  handshake_daemon_whole s = answer_whole (daemon_whole handshake slots s) (λ h y. answered_to y) (λ x. x.ends2) (λ h y x q. sym (ap (λ (w : Answer). w.ends2) (same_ok q)))

  pub daemon_handshake_whole : (c : Version) → WholeOnly (λ u. parse_daemon_handshake c u slots) (λ x. x.ends2) 1 (λ u. hear (daemon_handshake c) [] u 0 0 blank)
  unfolding parse_daemon_handshake
  daemon_handshake_whole c =
      answer_whole (daemon_whole (daemon_handshake c) slots []) (λ h y. handshake_answer c y) (λ x. x.ends2) (λ h y x q. sym (ap (λ (w : Answer). w.ends2) (same_ok q)))
