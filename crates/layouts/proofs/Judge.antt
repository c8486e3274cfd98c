-- Reading against skipping: with room for all, reading ends where skipping does or at the first bad text; an answer tells where skipping ends and what the
-- pieces hold; where skipping refuses, reading refuses no later. And how much is kept.
use Prim.Native.Nat.{ℕ, ◌+◌, ◌-◌, ◌*◌, ◌≤◌, ◌<◌}
use mathlib.Core.Path.{◌≡◌, refl, sym, ◌∙◌, ap}
use mathlib.Core.List.{List}
use mathlib.Core.Bool.{Bool, true, false, not, ◌&&◌, false≢true}
use lib.ListN.{length, take, drop, length-append, length-take, length-drop}
use lib.Dec.{leb}
use borrow.Author.Tests.{leb-true, leb-false, not-true, not-false}
use native.Mathlib.Omega.{arith}
use Rattle.text.specs.Prefix.{good_prefix, is_text}
use Rattle.text.proofs.Meaning.{is_text_lem, ill_formed}
use Rattle.layouts.specs.declared.Record.{Record}
use Rattle.layouts.specs.Primitive.{pick, cut_short, bad_text, no_entry_room, no_payload_room, Result, ok, refused, onward}
use Rattle.layouts.specs.Shape.{Target, dropped, as_number, as_flag, as_count, as_presence, Role}
use Rattle.layouts.specs.Pieces.{Pieces, number, text, half, chunk, end, fault, skip_of, total_of}
use Rattle.layouts.specs.Record.{noted, is_kept, entered, with_payload, record_of}
use Rattle.layouts.specs.Judge.{is_decoded, not_text, text_end, text_taken, half_taken, chunk_taken, Ended, judge_of, entry, entries_of, payload_of}
use Rattle.layouts.specs.Soft.{kept_of, unless_bad}
use Rattle.layouts.specs.Demands.{RefusedBy, Read, Fine, Bad}
use Rattle.layouts.proofs.Placed.{never_both, Placed, on_number_lem, on_text, on_half, on_chunk, on_end, on_fault, refused_from}

-- a number moves neither entries nor payload
pub noted_room : (r : Record) (i : Target) (x : ℕ) → ((noted r i x).entries ≡ r.entries) × ((noted r i x).payload ≡ r.payload)
unfolding noted
noted_room r dropped x = (refl, refl)
noted_room r (as_number i) x = (refl, refl)
noted_room r (as_flag i) x = (refl, refl)
noted_room r (as_count i) x = (refl, refl)
noted_room r as_presence x = (refl, refl)

pub entered_room : (r : Record) (m : Role) → ((entered r m).entries ≡ r.entries + pick (is_kept m) 1 0) × ((entered r m).payload ≡ r.payload)
unfolding entered
entered_room r m = (by (is_kept m), refl)
  where
    by : (b : Bool) → pick b (r.entries + 1) r.entries ≡ r.entries + pick b 1 0
    by true = refl
    by false = omega arith

-- the record counts what is kept
pub record_room : (r : Record) (p : Pieces) → ((record_of r p).entries ≡ r.entries + kept_of p) × ((record_of r p).payload ≡ r.payload + total_of p)
unfolding record_of kept_of total_of
record_room r (number i place n p) = let a = noted_room r i n in let b = record_room (noted r i n) p in (omega arith, omega arith)
record_room r (text m start len p) = let a = entered_room r m in let b = record_room (entered r m) p in (omega arith, omega arith)
record_room r (half m start len) = (omega arith, omega arith)
record_room r (chunk start len p) = let b = record_room (with_payload r (r.payload + len)) p in (b.0, omega arith)
record_room r (end place) = (omega arith, omega arith)
record_room r (fault which place) = (omega arith, omega arith)

-- what `not_text` and `text_end` say, in RFC 3629's words
module _ (s : List ℕ) (m : Role) (start len : ℕ) where
  pub not_bad : not_text s m start len ≡ false → Fine s m start len
  unfolding not_text
  not_bad e d = is_text_lem (take len (drop start s)) (not-false (is_text (take len (drop start s))) (rw d at e))

  pub text_bad : not_text s m start len ≡ true → (n : ℕ) × (text_end s start len ≡ start + n) × Bad s m start len n
  unfolding not_text text_end
  text_bad e = by (is_decoded m) refl e
    where
      c : List ℕ
      c = take len (drop start s)

      by : (b : Bool) → is_decoded m ≡ b → b && not (is_text c) ≡ true → (n : ℕ) × (text_end s start len ≡ start + n) × Bad s m start len n
      by true d h = (good_prefix c, refl, (d, ill_formed c (not-true (is_text c) h)))
      by false d h = absurd (false≢true h)

  -- so it ends in the contents
  pub bad_inside : not_text s m start len ≡ true → (start ≤ text_end s start len) × (text_end s start len < start + len)
  bad_inside e = let z = text_bad e in let i = z.2.1.inside in let l = length-take len (drop start s) in (omega arith, omega arith)

-- a string or a chunk that is read: its text is bad from x on, there is no room, or it goes on with this record
pub data Step (bad : Bool) (lacks fits : Type 0) (start x : ℕ) (r : Record) : Result Record → Type 0 where
  is_bad : bad ≡ true → Step bad lacks fits start x r (refused bad_text x 0)
  no_room : (which : ℕ) → lacks → Step bad lacks fits start x r (refused which (start - 8) 0)
  goes_on : bad ≡ false → fits → Step bad lacks fits start x r (ok r)

pub text_step : (s : List ℕ) (slots : ℕ) (r : Record) (m : Role) (start len : ℕ)
    → Step (not_text s m start len) (slots < r.entries + pick (is_kept m) 1 0) (r.entries ≤ slots → r.entries + pick (is_kept m) 1 0 ≤ slots) start
    (text_end s start len) (entered r m) (text_taken s slots r m start len)
unfolding text_taken
text_step s slots r m start len = by (not_text s m start len) (is_kept m) (leb slots r.entries) refl refl
  where
    by : (b c d : Bool) → not_text s m start len ≡ b → leb slots r.entries ≡ d
        → Step (not_text s m start len) (slots < r.entries + pick c 1 0) (r.entries ≤ slots → r.entries + pick c 1 0 ≤ slots) start (text_end s start len) (entered r m)
        (pick b (refused bad_text (text_end s start len) 0) (pick (c && d) (refused no_entry_room (start - 8) 0) (ok (entered r m))))
    by true c d e f = is_bad e
    by false true true e f = no_room no_entry_room (omega (arith, leb-true slots r.entries f))
    by false true false e f = goes_on e (λ h. omega (arith, leb-false slots r.entries f))
    by false false d e f = goes_on e (λ h. omega arith)

pub chunk_step : (room : ℕ) (r : Record) (start len : ℕ)
    → Step false (room < r.payload + len) (r.payload + len ≤ room) start start (with_payload r (r.payload + len)) (chunk_taken room r start len)
unfolding chunk_taken
chunk_step room r start len = by (leb (r.payload + len) room) refl
  where
    by : (b : Bool) → leb (r.payload + len) room ≡ b
        → Step false (room < r.payload + len) (r.payload + len ≤ room) start start (with_payload r (r.payload + len))
        (pick b (ok (with_payload r (r.payload + len))) (refused no_payload_room (start - 8) 0))
    by true e = goes_on refl (leb-true (r.payload + len) room e)
    by false e = no_room no_payload_room (leb-false (r.payload + len) room e)

-- what follows it: with room for all; in an answer; before a refusal
module _ {bad : Bool} {lacks fits : Type 0} {start x : ℕ} {r : Record} (k : Record → Result Ended) where
  room_step : {o : Result Record} {u : Result Ended} → Step bad lacks fits start x r o → (lacks → ⊥) → k r ≡ u → onward o k ≡ pick bad (refused bad_text x 0) u
  room_step (is_bad b) f e = rw b
  room_step (no_room w l) f e = absurd (f l)
  room_step (goes_on b g) f e = rw b e

  ok_step : {o : Result Record} {e : Ended} → Step bad lacks fits start x r o → onward o k ≡ ok e → (k r ≡ ok e) × fits
  ok_step (is_bad b) e = absurd (never_both e)
  ok_step (no_room w l) e = absurd (never_both e)
  ok_step (goes_on b g) e = (e, g)

  refused_step : {o : Result Record} (place : ℕ) → Step bad lacks fits start x r o → (bad ≡ true → x ≤ place) → start ≤ place → RefusedBy place (k r)
      → RefusedBy place (onward o k)
  refused_step place (is_bad b) g h e = (bad_text, x, refl, g b)
  refused_step place (no_room w l) g h e = (w, start - 8, refl, omega arith)
  refused_step place (goes_on b f) g h e = e

half_refused : (s : List ℕ) (m : Role) (start len : ℕ) → RefusedBy {A = Ended} (start + len) (half_taken s m start len)
unfolding half_taken
half_refused s m start len = by (not_text s m start len) refl
  where
    by : (b : Bool) → not_text s m start len ≡ b
        → RefusedBy {A = Ended} (start + len) (pick b (refused bad_text (text_end s start len) 0) (refused cut_short (start + len) 0))
    by true e = let i = bad_inside s m start len e in (bad_text, text_end s start len, refl, omega arith)
    by false e = (cut_short, start + len, refl, omega arith)

module _ (s : List ℕ) (slots room : ℕ) where
  pub judge_room : (r : Record) (p : Pieces) (e : ℕ) → skip_of p ≡ ok e → r.entries + kept_of p ≤ slots → r.payload + total_of p ≤ room
      → judge_of s slots room r p ≡ unless_bad s p (ok (record { found = record_of r p; ends = e }))
  unfolding judge_of unless_bad skip_of kept_of total_of record_of
  judge_room r (number i place n p) e q h g = let a = noted_room r i n in judge_room (noted r i n) p e q (omega arith) (omega arith)
  judge_room r (text m start len p) e q h g =
      let a = entered_room r m in
      room_step (λ r'. judge_of s slots room r' p) (text_step s slots r m start len) (λ l. omega arith) (judge_room (entered r m) p e q (omega arith) (omega arith))
  judge_room r (half m start len) e q h g = absurd (never_both q)
  judge_room r (chunk start len p) e q h g =
      room_step (λ r'. judge_of s slots room r' p) (chunk_step room r start len) (λ l. omega arith) (judge_room (with_payload r (r.payload + len)) p e q h (omega arith))
  judge_room r (end place) e q h g = let z : place ≡ e = cc in rw z
  judge_room r (fault which place) e q h g = absurd (never_both q)

  pub judge_read : (r : Record) (p : Pieces) (x : Ended) → judge_of s slots room r p ≡ ok x → Read slots room r p x
  unfolding judge_of skip_of kept_of total_of record_of
  judge_read r (number i place n p) x e =
      let a = noted_room r i n in
      let z = judge_read (noted r i n) p x e in
      record { skips = z.skips; holds = z.holds; fits = λ h g. let y = z.fits (omega arith) (omega arith) in (omega arith, omega arith) }
  judge_read r (text m start len p) x e =
      let a = entered_room r m in
      let t = ok_step (λ r'. judge_of s slots room r' p) (text_step s slots r m start len) e in
      let z = judge_read (entered r m) p x t.0 in
      record { skips = z.skips; holds = z.holds; fits = λ h g. let f = t.1 h in let y = z.fits (omega arith) (omega arith) in (omega arith, omega arith) }
  judge_read r (half m start len) x e = absurd (never_both (sym (half_refused s m start len).2 ∙ e))
  judge_read r (chunk start len p) x e =
      let t = ok_step (λ r'. judge_of s slots room r' p) (chunk_step room r start len) e in
      let z = judge_read (with_payload r (r.payload + len)) p x t.0 in
      record { skips = z.skips; holds = z.holds; fits = λ h g. let y = z.fits h t.1 in (y.0, omega arith) }
  judge_read r (end place) x e =
      let z : record { found = r; ends = place } ≡ x = cc in
      record { skips = ap (λ y. ok y.ends) z; holds = sym (ap (λ y. y.found) z); fits = λ h g. (omega arith, omega arith) }
  judge_read r (fault which place) x e = absurd (never_both e)

  -- where skipping refuses, reading refuses too, and no later
  pub judge_refused : {G : Type 0} {hi lo which place : ℕ} {p : Pieces} (r : Record) → G → Placed G hi lo p → skip_of p ≡ refused which place 0
      → RefusedBy place (judge_of s slots room r p)
  unfolding judge_of skip_of
  judge_refused r g (on_number_lem {n} {i} lo x a b h) q = judge_refused (noted r i n) g h q
  judge_refused {place} r g (on_text {m} {p} lo start len a b h) q =
      let z = refused_from g h q in
      refused_step (λ r'. judge_of s slots room r' p) place (text_step s slots r m start len)
      (λ b. let i = bad_inside s m start len b in omega arith) (omega arith) (judge_refused (entered r m) g h q)
  judge_refused {place} r g (on_half {m} lo start len a b) q = let z : start + len ≡ place = cc in rw (← z) (half_refused s m start len)
  judge_refused {place} r g (on_chunk {p} lo start len a b h) q =
      let z = refused_from g h q in
      refused_step (λ r'. judge_of s slots room r' p) place (chunk_step room r start len) (λ b. absurd (false≢true b)) (omega arith) (judge_refused (with_payload r (r.payload + len)) g h q)
  judge_refused r g (on_end lo x a b) q = absurd (never_both (sym q))
  judge_refused {which} {place} r g (on_fault lo x a) q = (which, place, cc, omega arith)

-- how much is kept
pub entries_length : (p : Pieces) → 2 * kept_of p ≡ length (entries_of p)
unfolding entries_of kept_of
entries_length (number i place n p) = entries_length p
entries_length (text m start len p) = by (is_kept m) (entries_length p)
  where
    by : (b : Bool) → 2 * kept_of p ≡ length (entries_of p) → 2 * (pick b 1 0 + kept_of p) ≡ length (entry b start len (entries_of p))
    by true h = omega arith
    by false h = omega arith
entries_length (half m start len) = refl
entries_length (chunk start len p) = entries_length p
entries_length (end place) = refl
entries_length (fault which place) = refl

pub payload_length : {G : Type 0} (s : List ℕ) {lo : ℕ} {p : Pieces} → Placed G (length s) lo p → length (payload_of s p) ≡ total_of p
unfolding payload_of total_of
payload_length s (on_number_lem lo x a b h) = payload_length s h
payload_length s (on_text lo start len a b h) = payload_length s h
payload_length s (on_half lo start len a b) = refl
payload_length s (on_chunk lo start len a b h) = simp (length-append, length-take, length-drop, payload_length s h) (omega arith)
payload_length s (on_end lo x a b) = refl
payload_length s (on_fault lo x a) = refl

-- an answer reports as many entries and as many bytes of payload as are kept
module _ (s : List ℕ) (slots room : ℕ) (sofar : Record) (p : Pieces) (x : Ended) (e : judge_of s slots room sofar p ≡ ok x) where
  pub entries_counted : sofar.entries ≡ 0 → length (entries_of p) ≡ 2 * x.found.entries
  entries_counted z =
      let l = entries_length p in
      let q : x.found.entries ≡ sofar.entries + kept_of p = ap (λ (r : Record). r.entries) (judge_read s slots room sofar p x e).holds ∙ (record_room sofar p).0 in
      omega arith

  pub payload_counted : sofar.payload ≡ 0 → length (payload_of s p) ≡ total_of p → length (payload_of s p) ≡ x.found.payload
  payload_counted z l =
      let q : x.found.payload ≡ sofar.payload + total_of p = ap (λ (r : Record). r.payload) (judge_read s slots room sofar p x e).holds ∙ (record_room sofar p).1 in
      omega arith
