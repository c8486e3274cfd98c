-- Round trips over plain lists: what was written, as it is read; and what was read, as it is written again.
use Prim.Native.Nat.{ℕ, ◌+◌, ◌-◌, ◌*◌, ◌≤◌, ◌<◌}
use mathlib.Core.Path.{◌≡◌, refl, sym, ◌∙◌, ap}
use mathlib.Core.List.{List, [], ◌∷◌, ◌++◌}
use lib.ListN.{length, get_or, take, drop, length-append, length-drop}
use lib.Dec.{leb}
use borrow.Author.Tests.{leb-true}
use native.Mathlib.Omega.{arith}
use native.Mathlib.Nat.{zero-add}
use Rattle.text.specs.Rfc3629.{Text}
use Rattle.layouts.specs.Primitive.{number_at, limit, output_full, Result, ok, onward}
use Rattle.layouts.specs.Shape.{passed, kept, str}
use Rattle.layouts.specs.Pieces.{run}
use Rattle.layouts.specs.Record.{blank, with_count, with_entries}
use Rattle.layouts.specs.Judge.{Ended, lent_after}
use Rattle.layouts.specs.Calls.{field, skip_string, read_string, read_string_set}
use Rattle.layouts.specs.Writers.{view_of, string_bytes, strings_bytes, set_bytes, writing, write_string, texts_of, write_string_set, output_of}
use Rattle.layouts.specs.Demands.{Held, Zeros, ZeroPadded, set_pieces, contents_at, StringBack}
use Rattle.layouts.proofs.Little.{length_number, number_small}
use Rattle.layouts.proofs.Judge.{judge_read}
use Rattle.layouts.proofs.Success.{string_within}
use Rattle.layouts.proofs.Writers.{onward_ok, pick_ok, writing_told, string_told, Told, set_texts, set_told, stands, writing_fits, string_fits, set_fits, begins}
use Rattle.layouts.proofs.RoundTrip.{string_number, string_shown, string_skipped_lem, string_there, set_there, set_entries_lem, set_low, set_shown, skipped_back, string_back, set_back}
use Rattle.writers_output.specs.Answer.{after_writing}
use Rattle.pieces.specs.Pieces.{Span, span}
use Rattle.wire.specs.Answers.{read_bytes, read_text, set_entries}
use Rattle.lintelow.specs.RoundTrips.{Has, Limited, SameStrings}

-- ---- there: a string c that was written; o is what a reader answers where a stream has its n bytes
pub record StringTrip (c s : List ℕ) (at n : ℕ) (o : Result Span) : Type 0 where
  pub reads : o ≡ ok (span (at + 8) (length c) (at + n))
  pub these : take (length c) (drop (at + 8) s) ≡ c
  pub within : at + n ≤ length s

module _ (c s : List ℕ) (at n : ℕ) (small : length c ≤ limit) where
  string_trip : drop at s ≡ string_bytes c ++ drop (at + n) s → length (string_bytes c) ≡ n
      → {A : Type 0} (o : Result A) (ends : A → ℕ) (x : A) → o ≡ ok x → ends x ≡ at + length (string_bytes c)
      → StringTrip c s at n (onward o (λ a. ok (span (at + 8) (number_at s at) (ends a))))
  unfolding string_bytes
  string_trip d l o ends x f g =
      let k = simp (length-append, length_number) at l in
      record {
        reads = rw (f, g, string_number s at c (drop (at + n) s) d small, l);
        these = string_shown s at c (drop (at + n) s) d small;
        within = omega (arith, k, simp (length-append, length_number, length-drop) at (ap length d));
      }

  module _ (lent out : List ℕ) (has : Has s at n out) where
    pub bytes_trip : writing (string_bytes c) lent ≡ ok n → out ≡ after_writing (string_bytes c) lent → StringTrip c s at n (read_bytes s at)
    bytes_trip q e =
        let l = writing_told (string_bytes c) lent n q in
        let d = stands (writing (string_bytes c) lent) n (string_bytes c) lent out s at q l e has in
        string_trip d l (skip_string s at) (λ a. a) _ (string_skipped_lem s at c (drop (at + n) s) d small) refl

    pub text_trip : write_string c lent ≡ ok n → out ≡ lent_after (write_string c lent) (string_bytes c) lent → StringTrip c s at n (read_text s at)
    text_trip q e =
        let t = string_told c lent n q in
        let d = stands (write_string c lent) n (string_bytes c) lent out s at q t.1 e has in
        string_trip d t.1 (read_string s at) (λ a. a.ends) _ (string_there s at c (drop (at + n) s) d small t.0) refl

-- a set of count strings
pub record SetTrip (bytes es : List ℕ) (count : ℕ) (s : List ℕ) (at n : ℕ) : Type 0 where
  pub reads : (slots : ℕ) → count ≤ slots → read_string_set s at slots ≡ ok (record { found = with_entries (with_count blank 0 count) count; ends = at + n })
  pub strings : (spare : List ℕ) → SameStrings count s (set_entries s at ++ spare) bytes es
  pub twice : length (set_entries s at) ≡ 2 * count
  pub low : (i : ℕ) → get_or (set_entries s at) i 0 ≤ length s
  pub few : count < 9223372036854775808
  pub within : at + n ≤ length s

many_strings : (cs : List (List ℕ)) → length cs ≤ length (strings_bytes cs)
unfolding strings_bytes string_bytes
many_strings [] = omega arith
many_strings (c ∷ cs) = simp (length-append, length_number) (let h = many_strings cs in omega arith)

module _ (bytes es s : List ℕ) (count at n : ℕ) (cs : List (List ℕ)) (t : Told bytes es count 0 cs) (small : Limited bytes es count) where
  view_is : (i : ℕ) → i < count → view_of bytes es i ≡ ok (get_or cs i [])
  view_is i h = rw zero-add at (t.views i h)

  set_by : drop at s ≡ set_bytes cs ++ drop (at + n) s → length (set_bytes cs) ≡ n → length s < 9223372036854775808 → SetTrip bytes es count s at n
  unfolding set_bytes
  set_by d l h =
      let u = drop (at + n) s in
      let g = t.fine (λ i h. rw view_is at (small i h)) in
      let m = t.many in
      let k = simp (length-append, length_number) at l in
      let z = simp (length-append, length_number, length-drop) at (ap length d) in
      let few : length cs < 9223372036854775808 = omega (arith, k, z, many_strings cs) in
      let few' : length cs < 18446744073709551616 = omega arith in
      record {
        reads = λ slots f. rw (← m, ← l) (set_there s at cs u d g few' slots (omega arith));
        strings = λ spare i f.
            let v = set_texts s (set_entries s at ++ spare) (length cs) cs (set_shown s at cs u d g few' spare) in
            (get_or cs i [], rw zero-add at (v.views i (omega arith)), view_is i f);
        twice = set_entries_lem s at cs u d g few' ∙ ap (λ (k : ℕ). 2 * k) m;
        low = set_low s at cs u d g few';
        few = omega arith;
        within = omega (arith, k, z);
      }

pub set_trip : (bytes es lent out s : List ℕ) (count at n : ℕ) → Has s at n out → Limited bytes es count → write_string_set bytes es count lent ≡ ok n
    → out ≡ lent_after (write_string_set bytes es count lent) (output_of (texts_of bytes es count)) lent → length s < 9223372036854775808 → SetTrip bytes es count s at n
set_trip bytes es lent out s count at n has small q e h =
    let t = set_told bytes es count lent n q in
    let e' = e ∙ ap (λ (x : Result (List (List ℕ))). lent_after (write_string_set bytes es count lent) (output_of x) lent) t.1 in
    let d = stands (write_string_set bytes es count lent) n (set_bytes t.0) lent out s at q t.2 e' has in
    set_by bytes es s count at n t.0 (set_texts bytes es count t.0 t.1) small d t.2 h

-- what is written fits
pub set_room : (bytes es lent : List ℕ) (count n : ℕ) → write_string_set bytes es count lent ≡ ok n → n ≤ length lent
unfolding write_string_set writing
set_room bytes es lent count n q =
    let a = onward_ok (texts_of bytes es count) (λ cs. writing (set_bytes cs) lent) n q in
    let b = pick_ok (leb (length (set_bytes a.0)) (length lent)) output_full 0 (ok (length (set_bytes a.0))) n a.2 in
    let z : length (set_bytes a.0) ≡ n = let y = b.1 in cc in
    omega (arith, leb-true (length (set_bytes a.0)) (length lent) b.0)

-- ---- back: bytes that stand from a place to their end, written again
written_again : (o : Result ℕ) (b lent out s : List ℕ) (at ends : ℕ) → drop at s ≡ b ++ drop ends s → at + length b ≡ ends → o ≡ ok (length b) → out ≡ lent_after o b lent
    → (o ≡ ok (ends - at)) × Has s at (ends - at) out
written_again o b lent out s at ends d l q e =
    let n : length b ≡ ends - at = omega arith in
    (q ∙ ap ok n, rw (← n) (sym (begins o b lent out s (drop ends s) at q e d)))

-- a string x that was read with zero padding
module _ (s : List ℕ) (at : ℕ) (x : Span) where
  span_told : {A : Type 0} (o : Result A) (ends : A → ℕ) → onward o (λ a. ok (span (at + 8) (number_at s at) (ends a))) ≡ ok x
      → (a : A) × (o ≡ ok a) × (span (at + 8) (number_at s at) (ends a) ≡ x)
  span_told o ends q = let y = onward_ok o (λ a. ok (span (at + 8) (number_at s at) (ends a))) x q in (y.0, y.1, let z = y.2 in cc)

module _ (s : List ℕ) (at : ℕ) (held : Held s) (x : Span) (zeroed : Zeros s (x.start + x.len) x.ends) where
  module _ (c lent out : List ℕ) (same : c ≡ take x.len (drop x.start s)) (room : x.ends - at ≤ length lent) where
    -- its contents are c
    module _ (e : ℕ) (f : span (at + 8) (number_at s at) e ≡ x) (b : StringBack s at e) where
      contents_are : c ≡ contents_at s at
      contents_are = same ∙ ap (λ (y : Span). take y.len (drop y.start s)) (sym f)

      fits : length (string_bytes c) ≤ length lent
      fits = let d : e ≡ x.ends = ap (λ (y : Span). y.ends) f in rw contents_are (omega (arith, b.size))

      again_as : (o : Result ℕ) → o ≡ ok (length (string_bytes c)) → out ≡ lent_after o (string_bytes c) lent → (o ≡ ok (x.ends - at)) × Has s at (x.ends - at) out
      again_as o q g =
          let d : e ≡ x.ends = ap (λ (y : Span). y.ends) f in
          rw (← d) (written_again o (string_bytes c) lent out s at e (rw contents_are b.stands) (rw contents_are b.size) q g)

    pub bytes_again : read_bytes s at ≡ ok x → out ≡ after_writing (string_bytes c) lent → (writing (string_bytes c) lent ≡ ok (x.ends - at)) × Has s at (x.ends - at) out
    bytes_again q g =
        let y = span_told s at x (skip_string s at) (λ a. a) q in
        let b = skipped_back s at held.0 passed y.0 y.1 (rw (← y.2) at zeroed) in
        again_as y.0 y.2 b (writing (string_bytes c) lent) (writing_fits (string_bytes c) lent (fits y.0 y.2 b)) g

    pub text_again : read_text s at ≡ ok x → out ≡ lent_after (write_string c lent) (string_bytes c) lent → (write_string c lent ≡ ok (x.ends - at)) × Has s at (x.ends - at) out
    text_again q g =
        let y = span_told s at x (read_string s at) (λ a. a.ends) q in
        let b = string_back s at held.0 y.0 y.1 (rw (← y.2) at zeroed) in
        let t : Text c = rw (contents_are y.0.ends y.2 b.0) b.1 in
        again_as y.0.ends y.2 b.0 (write_string c lent) (string_fits c lent t (fits y.0.ends y.2 b.0)) g

-- a string that is read lies in its stream
pub bytes_within : (s : List ℕ) (at : ℕ) (x : Span) → read_bytes s at ≡ ok x → (x.start + x.len ≤ x.ends) × (x.ends ≤ length s)
bytes_within s at x q =
    let y = span_told s at x (skip_string s at) (λ a. a) q in
    rw (← y.2) (string_within s passed at y.0 y.1)

pub text_within : (s : List ℕ) (at : ℕ) (x : Span) → read_text s at ≡ ok x → (x.start + x.len ≤ x.ends) × (x.ends ≤ length s)
text_within s at x q =
    let y = span_told s at x (read_string s at) (λ a. a.ends) q in
    rw (← y.2) (string_within s kept at y.0.ends (judge_read s 1 0 blank (run (field (str kept)) s at) y.0 y.1).skips)

-- a set that was read to its end with zero padding
pub record SetAgain (s : List ℕ) (at slots ends : ℕ) : Type 0 where
  pub reads : read_string_set s at slots ≡ ok (record { found = with_entries (with_count blank 0 (number_at s at)) (number_at s at); ends = ends })
  pub twice : length (set_entries s at) ≡ 2 * number_at s at
  pub low : (i : ℕ) → get_or (set_entries s at) i 0 ≤ length s
  pub within : ends ≤ length s
  pub writes : (bytes es lent out : List ℕ) (count : ℕ) (spare : List ℕ) → bytes ≡ s → es ≡ set_entries s at ++ spare → count ≡ number_at s at → ends - at ≤ length lent
      → out ≡ lent_after (write_string_set bytes es count lent) (output_of (texts_of bytes es count)) lent
      → (write_string_set bytes es count lent ≡ ok (ends - at)) × Has s at (ends - at) out

pub set_again : (s : List ℕ) (at slots : ℕ) (x : Ended) → Held s → read_string_set s at slots ≡ ok x → ZeroPadded s (set_pieces s at) → SetAgain s at slots x.ends
unfolding set_bytes
set_again s at slots x held q z =
    let b = set_back s at held.0 slots x q z in
    let cs = b.these in
    let u = drop x.ends s in
    let m = b.many in
    let few : length cs < 18446744073709551616 = omega (arith, number_small s at held.0) in
    let k = simp (length-append, length_number) at b.size in
    record {
      reads = set_there s at cs u b.stands b.fine few slots b.fits ∙ ap (λ (e : ℕ). ok (record { found = with_entries (with_count blank 0 (length cs)) (length cs); ends = e })) b.size
          ∙ ap (λ (m : ℕ). ok (record { found = with_entries (with_count blank 0 m) m; ends = x.ends })) m;
      twice = set_entries_lem s at cs u b.stands b.fine few ∙ ap (λ (k : ℕ). 2 * k) m;
      low = set_low s at cs u b.stands b.fine few;
      within = omega (arith, k, simp (length-append, length_number, length-drop) at (ap length b.stands));
      writes = λ bytes es lent out count spare f g h room e.
          let t : texts_of bytes es count ≡ ok cs = rw (f, g, h) (b.shown spare) in
          let w = set_fits bytes es lent count cs t (omega (arith, b.size)) in
          written_again (write_string_set bytes es count lent) (set_bytes cs) lent out s at x.ends b.stands b.size w.0
          (e ∙ ap (λ (y : List ℕ). lent_after (write_string_set bytes es count lent) y lent) w.1);
    }
