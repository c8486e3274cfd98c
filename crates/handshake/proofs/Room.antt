-- Every entry of what is heard is counted in the record, and has a slot.
use Prim.Native.Nat.{ℕ, ◌+◌, ◌*◌, ◌≤◌}
use mathlib.Core.Path.{◌≡◌, refl, ◌∙◌, ap}
use mathlib.Core.List.{List, [], ◌++◌}
use native.Mathlib.Omega.{arith}
use lib.ListN.{length, length-append}
use Rattle.layouts.specs.declared.Record.{Record}
use Rattle.layouts.specs.Primitive.{pick, from_wire, Version, Result, ok, refused, onward}
use Rattle.layouts.specs.Record.{blank}
use Rattle.layouts.specs.Judge.{Ended, judge_of, entries_of}
use Rattle.layouts.specs.Calls as L
use Rattle.layouts.specs.Handshake.{Heard, heard, failed, ended, Both, on_stream, judge_heard, heard_entries, hear, handshake, daemon_handshake, number_in, handshake_answer, parse_handshake, parse_daemon_handshake}
use Rattle.layouts.proofs.Judge.{judge_read, record_room, entries_length}
use Rattle.layouts.proofs.Placed.{never_both}

-- es are reported with so many slots, from the one record to the other
record Roomy (slots : ℕ) (r : Record) (es : List ℕ) (x : Record) : Type 0 where
  pub count : 2 * r.entries + length es ≡ 2 * x.entries
  pub within : x.entries ≤ slots

heard_room : (s u : List ℕ) (slots : ℕ) (r : Record) (h : Heard) (x : Both) → judge_heard s u slots r h ≡ ok x → r.entries ≤ slots → r.payload ≤ 0
    → Roomy slots r (heard_entries h) x.found
unfolding judge_heard heard_entries
heard_room s u slots r (failed which place stream) x e w z = absurd (never_both e)
heard_room s u slots r (ended a b) x e w z =
    let q : r ≡ x.found = cc in
    let k = ap (λ (y : Record). y.entries) q in
    record { count = omega arith; within = omega arith }
heard_room s u slots r (heard d p h) x e w z = go (judge_of (pick d u s) slots 0 r p) refl e (λ r f. heard_room s u slots r h x f)
  where
    go : (o : Result Ended) → judge_of (pick d u s) slots 0 r p ≡ o → onward (on_stream d o) (λ y. judge_heard s u slots y.found h) ≡ ok x
        → ((r : Record) → judge_heard s u slots r h ≡ ok x → r.entries ≤ slots → r.payload ≤ 0 → Roomy slots r (heard_entries h) x.found)
        → Roomy slots r (entries_of p ++ heard_entries h) x.found
    go (ok y) q f rest =
        let t = judge_read (pick d u s) slots 0 r p y q in
        let n = ap (λ (z : Record). z.entries) t.holds ∙ (record_room r p).0 in
        let k = ap (λ (z : Record). z.payload) t.holds ∙ (record_room r p).1 in
        let g = t.fits w z in
        let m = rest y.found f (omega arith) (omega arith) in
        let c = m.count in
        let i = m.within in
        let l = entries_length p in
        let j = length-append (entries_of p) (heard_entries h) in
        record { count = omega arith; within = i }
    go (refused which place stream) q f rest = absurd (never_both f)

-- ---- of an answer, which is made of what was heard
abbrev pub Counted : (slots : ℕ) (es : List ℕ) (x : L.Answer) → Type 0
Counted slots es x = (length es ≡ 2 * x.found.entries) × (x.found.entries ≤ slots)

abbrev entries_in : Result L.Answer → ℕ
entries_in (ok x) = x.found.entries
entries_in (refused which place stream) = 0

answer_counted : (s u : List ℕ) (slots : ℕ) (h : Heard) (c : Both → Version) (o : Result Both) → judge_heard s u slots blank h ≡ o → (x : L.Answer)
    → onward o (λ y. handshake_answer (c y) y) ≡ ok x → Counted slots (heard_entries h) x
answer_counted s u slots h c (ok y) q x e =
    let m = heard_room s u slots blank h y q (omega arith) (omega arith) in
    let n = m.count in
    let i = m.within in
    let k : y.found.entries ≡ x.found.entries = ap entries_in e in
    (omega arith, omega arith)
answer_counted s u slots h c (refused which place stream) q x e = absurd (never_both e)

pub handshake_counted : (s u : List ℕ) (slots : ℕ) (x : L.Answer) → parse_handshake s u slots ≡ ok x → Counted slots (heard_entries (hear handshake s u 0 0 blank)) x
unfolding parse_handshake
handshake_counted s u slots x e = answer_counted s u slots _ (λ y. from_wire (number_in y.found 1)) _ refl x e

pub daemon_counted : (c : Version) (u : List ℕ) (slots : ℕ) (x : L.Answer) → parse_daemon_handshake c u slots ≡ ok x
    → Counted slots (heard_entries (hear (daemon_handshake c) [] u 0 0 blank)) x
unfolding parse_daemon_handshake
daemon_counted c u slots x e = answer_counted [] u slots _ (λ y. c) _ refl x e
