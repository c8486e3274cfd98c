-- Filling after a handshake was judged: the lent entries afterwards, in their form.
use Prim.Native.Nat.{ℕ, ◌+◌, ◌*◌, ◌/◌, ◌≤◌, min}
use mathlib.Core.Path.{◌≡◌, sym, ◌∙◌, ap}
use mathlib.Core.List.{List, [], ◌++◌}
use native.Mathlib.Omega.{arith}
use lib.ListN.{length, take, drop, replicate}
use lib.Seq.{sets, sets-eq, length-sets, take_all, take-append_seam}
use Rattle.layouts.specs.declared.Refusal.{Refusal}
use Rattle.layouts.specs.Primitive.{Version, from_wire, Result, ok, refused}
use Rattle.layouts.specs.Calls as L
use Rattle.layouts.specs.Handshake.{handshake, daemon_handshake, parse_handshake, parse_daemon_handshake}
use Rattle.layouts.proofs.Placed.{never_both}
use Rattle.walk_rooms.specs.Rooms.{Put, filled_after}
use Rattle.walk_rooms.proofs.Laws.{put_join, put_sets}
use Rattle.walk_take.specs.Taking.{in_window}
use Rattle.walk_judge.specs.Judged.{gathered, answer_of, answer_as}
use Rattle.walk_judge.proofs.Answers.{said_fine, said_refused}
use Rattle.handshake.specs.Turns.{start, judge_talk, answer_talk, entries_talk, reported, Greets}
use Rattle.handshake.specs.Greeted.{both_entries, alone_entries}
use Rattle.handshake.proofs.Room.{Counted, handshake_counted, daemon_counted}
use Rattle.walk_judge.specs.declared.Said.{Said}
use Rattle.std.specs.Prelude as Std
use Rattle.std.specs.Prelude.{Ok, Err}

-- the entries of three turns one after the other
pub three_turns : {A : Type 0} (form : List ℕ → List A) → ((xs ys : List ℕ) → form (xs ++ ys) ≡ form xs ++ form ys)
    → (lent a : List A) (m : ℕ) (b : List A) (n : ℕ) (out : List A) (k : ℕ) (es fs gs : List ℕ)
    → Put lent 0 (form es) a m → Put a m (form fs) b n → Put b n (form gs) out k → out ≡ sets lent 0 (form (es ++ (fs ++ gs)))
three_turns form j lent a m b n out k es fs gs p q r =
    put_sets lent (form (es ++ (fs ++ gs))) out k
    (rw (j es (fs ++ gs), j fs gs) (put_join lent 0 (form es) a m (form fs ++ form gs) out k p (put_join a m (form fs) b n (form gs) out k q r)))

-- ---- what was judged, as the definitions have it; and where all was fine, the entries to be filled in and the window
pub record Judged (o : Result L.Answer) (es : List ℕ) (said : Std.Result Said Refusal) (ns cs kept w : List ℕ) : Type 0 where
  pub answer : answer_of said ns cs ≡ answer_as o
  pub keeps : reported o kept ≡ reported o es
  pub window : reported o w ≡ reported o (in_window (replicate 16 0) 0 es)
  pub counted : (x : L.Answer) → o ≡ ok x → length es ≡ 2 * x.found.entries

module _ (u : List ℕ) (slots : ℕ) (said : Std.Result Said Refusal) (ns cs kept w : List ℕ) (n : ℕ) (e : slots ≡ n) where
  pub both_judged : (s : List ℕ) → Greets s u slots from_wire handshake start (replicate 16 0) said ns cs kept w
      → Judged (parse_handshake s u n) (both_entries s u) said ns cs kept w
  unfolding parse_handshake answer_talk judge_talk entries_talk
  both_judged s g =
      let h = rw e at g in
      record { answer = h.answer; keeps = h.keeps; window = h.window; counted = λ x q. (handshake_counted s u n x q).0 }

  pub alone_judged : (c : Version) → Greets [] u slots (λ n. c) (daemon_handshake c) start (replicate 16 0) said ns cs kept w
      → Judged (parse_daemon_handshake c u n) (alone_entries c u) said ns cs kept w
  unfolding parse_daemon_handshake answer_talk judge_talk entries_talk
  alone_judged c g =
      let h = rw e at g in
      record { answer = h.answer; keeps = h.keeps; window = h.window; counted = λ x q. (daemon_counted c u n x q).0 }

fine_reported : (o : Result L.Answer) (x : L.Answer) → o ≡ ok x → (a b : List ℕ) → reported o a ≡ reported o b → a ≡ b
fine_reported (ok a) x e es whole q = q
fine_reported (refused which place stream) x e es whole q = absurd (never_both e)

wide : (es w : List ℕ) → w ≡ in_window (replicate 16 0) 0 es → length w ≡ 16
wide es w e = ap length e ∙ length-sets (replicate 16 0) 0 (take 16 es)

-- as many entries as a window holds stand at its front
in_window_lem : (es : List ℕ) (n : ℕ) (w : List ℕ) → length es ≡ 2 * n → n ≤ 8 → w ≡ in_window (replicate 16 0) 0 es → take (2 * min n (length w / 2)) w ≡ es
in_window_lem es n w c h e =
    let a : take 16 es ≡ es = take_all 16 es (omega arith) in
    let l = wide es w e in
    let k : 2 * min n (length w / 2) ≡ length es = omega arith in
    ap (λ (i : ℕ). take i w) k ∙ ap (take (length es)) (e ∙ ap (sets (replicate 16 0) 0) a ∙ sets-eq es (replicate 16 0) 0 (omega arith))
    ∙ take-append_seam es (drop (0 + length es) (replicate 16 0))

module _ {A : Type 0} (o : Result L.Answer) (es : List ℕ) (said : Std.Result Said Refusal) (ns cs kept w : List ℕ) (j : Judged o es said ns cs kept w) (form : List ℕ → List A) (lent : List A) where
  abbrev Lent : Std.Result Said Refusal → List A → Type 0
  Lent r out = (answer_of r ns cs ≡ answer_as o) × (out ≡ filled_after o (form es) lent)

  -- a refusal changes nothing
  pub lent_kept : (x : Refusal) → said ≡ Err x → Lent (Err x) lent
  lent_kept x q =
      let e = said_refused said ns cs o j.answer x q in
      (ap (λ (r : Std.Result Said Refusal). answer_of r ns cs) (sym q) ∙ j.answer, ap (λ (p : Result L.Answer). filled_after p (form es) lent) (sym e))

  module _ (k : Said) (q : said ≡ Ok k) where
    abbrev answered : L.Answer
    answered = record { kind = k.kind; ends = k.ends; ends2 = k.ends2; found = gathered ns cs k.present k.entries k.payload }

    fine : o ≡ ok answered
    fine = said_fine said ns cs o j.answer k.kind k.ends k.ends2 k.entries k.payload k.present q

    filled : (new : List ℕ) (out : List A) → new ≡ es → out ≡ sets lent 0 (form new) → Lent (Ok k) out
    filled new out e h = (
      ap (λ (r : Std.Result Said Refusal). answer_of r ns cs) (sym q) ∙ j.answer,
      h ∙ ap (λ (x : List ℕ). sets lent 0 (form x)) e ∙ ap (λ (p : Result L.Answer). filled_after p (form es) lent) (sym fine),
    )

    pub by_turns : (out : List A) → out ≡ sets lent 0 (form kept) → Lent (Ok k) out
    by_turns out h = filled kept out (fine_reported o answered fine kept es j.keeps) h

    held : w ≡ in_window (replicate 16 0) 0 es
    held = fine_reported o answered fine w (in_window (replicate 16 0) 0 es) j.window

    pub by_window : k.entries ≤ 8 → (out : List A) → out ≡ sets lent 0 (form (take (2 * min k.entries (length w / 2)) w)) → Lent (Ok k) out
    by_window m out h = filled (take (2 * min k.entries (length w / 2)) w) out (in_window_lem es k.entries w (j.counted answered fine) m held) h

-- ---- what was judged fine fits
room_of : (slots : ℕ) (whole : List ℕ) (x : L.Answer) → Counted slots whole x → length whole ≤ 2 * slots
room_of slots whole x c = omega (arith, c)

pub both_fits : (s u : List ℕ) (n : ℕ) (x : L.Answer) → parse_handshake s u n ≡ ok x → length (both_entries s u) ≤ 2 * n
both_fits s u n x q = room_of n (both_entries s u) x (handshake_counted s u n x q)

pub alone_fits : (c : Version) (u : List ℕ) (n : ℕ) (x : L.Answer) → parse_daemon_handshake c u n ≡ ok x → length (alone_entries c u) ≤ 2 * n
alone_fits c u n x q = room_of n (alone_entries c u) x (daemon_counted c u n x q)
