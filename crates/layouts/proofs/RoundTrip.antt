-- Strings and string sets: what we write reads back the same; what reads, written again, gives the same bytes if its padding was zero.
use Prim.Native.Nat.{ℕ, zero, suc, ◌+◌, ◌*◌, ◌/◌, ◌≤◌, ◌<◌}
use mathlib.Core.Path.{◌≡◌, refl, sym, ◌∙◌, ap}
use mathlib.Core.List.{List, [], ◌∷◌, ◌++◌, append_assoc, append-nil}
use mathlib.Core.Bool.{Bool, true, false}
use lib.ListN.{length, get_or, take, drop, replicate, length-append, length-drop, length-replicate, get_or-replicate, get_or-append}
use lib.Seq.{get_or-drop, take-append_seam, ext_get_or}
use borrow.Author.Tests.{not-false, le-leb, lt-leb, lt-ltb}
use native.Mathlib.Omega.{arith}
use native.Mathlib.Nat.{add-zero}
use Rattle.text.specs.Prefix.{is_text}
use Rattle.text.specs.Rfc3629.{Text}
use Rattle.text.proofs.Meaning.{is_text_lem, text_is}
use Rattle.layouts.specs.declared.Record.{Record}
use Rattle.layouts.specs.Primitive.{pick, number_at, number_bytes, limit, pad_of, bad_text, Result, ok, refused}
use Rattle.layouts.specs.Shape.{Role, passed, kept, as_count, str, set, units, layout, Tree, stop}
use Rattle.layouts.specs.Pieces.{Pieces, number, text, end, run, skip_of}
use Rattle.layouts.specs.Record.{blank, with_count, with_entries, noted, entered}
use Rattle.layouts.specs.Judge.{Ended, not_text, text_end, text_taken, judge_of, entries_of}
use Rattle.layouts.specs.Grammar.{Says, says_number, says_text, says_end}
use Rattle.layouts.specs.Calls.{field, skip_string, read_string, read_string_set}
use Rattle.layouts.specs.Writers.{view_of, string_bytes, strings_bytes, set_bytes, text_at, texts_from, texts_of}
use Rattle.layouts.specs.Demands.{Bytes, Strings, Zeros, ZeroPadded, set_pieces, contents_at, StringBack, SetBack}
use Rattle.layouts.proofs.Little.{length_number, number_small}
use Rattle.layouts.proofs.Placed.{never_both}
use Rattle.layouts.proofs.Judge.{judge_read, entries_length}
use Rattle.layouts.proofs.Writers.{onward_ok}
use Rattle.layouts.proofs.Exact.{past, head_number, complete, Begins, sound}

-- a string at a place, with any padding
pub record StringAt (s : List ℕ) (at : ℕ) (c pad l : List ℕ) : Type 0 where
  pub fits : at + 8 + length c ≤ length s
  pub contents : take (length c) (drop (at + 8) s) ≡ c
  pub padding : drop (at + 8 + length c) s ≡ pad ++ l
  pub after : drop (at + 8 + length c + pad_of (length c)) s ≡ l

pub string_at_lem : (s : List ℕ) (at : ℕ) (c pad l : List ℕ) → drop at s ≡ number_bytes (length c) ++ (c ++ (pad ++ l)) → length pad ≡ pad_of (length c) → StringAt s at c pad l
string_at_lem s at c pad l e h =
    let d = past s at 8 (number_bytes (length c)) (c ++ (pad ++ l)) e (length_number (length c)) in
    let p = past s (at + 8) (length c) c (pad ++ l) d refl in
    record {
      fits = omega (arith, simp (length-drop, length-append, length_number) at (ap length e));
      contents = rw d (take-append_seam c (pad ++ l));
      padding = p;
      after = past s (at + 8 + length c) (pad_of (length c)) pad l p h;
    }

-- the pieces of strings from a place on, and the grammar's word for them
unfoldable pieces_of : (at : ℕ) → List (List ℕ) → Pieces
pieces_of at [] = end at
pieces_of at (c ∷ cs) = text kept (at + 8) (length c) (pieces_of (at + 8 + length c + pad_of (length c)) cs)

says_strings : (cs : List (List ℕ)) (at : ℕ) → Strings cs → Says (units kept 0 (length cs) (λ u. stop)) at (strings_bytes cs) (pieces_of at cs)
unfolding units strings_bytes string_bytes pieces_of
says_strings [] at g = says_end at
says_strings (c ∷ cs) at g =
    let n = length c in
    simp append_assoc
    (says_text kept at (λ u. units kept 0 (length cs) (λ u. stop)) c (replicate (pad_of n) 0) (strings_bytes cs) (pieces_of (at + 8 + n + pad_of n) cs) g.1
    (length-replicate (pad_of n) 0) (says_strings cs (at + 8 + n + pad_of n) g.2))

entries_twice : (cs : List (List ℕ)) (at : ℕ) → length (entries_of (pieces_of at cs)) ≡ 2 * length cs
unfolding pieces_of entries_of
entries_twice [] at = refl
entries_twice (c ∷ cs) at = let z = entries_twice cs (at + 8 + length c + pad_of (length c)) in omega arith

-- string number i, by the entries from there on
pub view_at : (s es : List ℕ) (i start len : ℕ) (rest : List ℕ) → drop (2 * i) es ≡ start ∷ len ∷ rest → start + len ≤ length s → view_of s es i ≡ ok (take len (drop start s))
unfolding view_of
view_at s es i start len rest e h =
    let a = simp (e, add-zero) at (get_or-drop (2 * i) es 0 0) in
    let b = simp e at (get_or-drop (2 * i) es 1 0) in
    let z = simp length-drop at (ap length e) in
    simp (← a, ← b, lt-ltb i (length es / 2) (omega arith), le-leb (start + len) (length s) h)

-- strings in a stream
module _ (s u : List ℕ) where
  pub first_at : (c : List ℕ) (cs : List (List ℕ)) (at : ℕ) → drop at s ≡ strings_bytes (c ∷ cs) ++ u → StringAt s at c (replicate (pad_of (length c)) 0) (strings_bytes cs ++ u)
  unfolding strings_bytes string_bytes
  first_at c cs at e = string_at_lem s at c (replicate (pad_of (length c)) 0) (strings_bytes cs ++ u) (simp append_assoc at e) (length-replicate (pad_of (length c)) 0)

  judge_strings : (cs : List (List ℕ)) (at slots room n last : ℕ) (r : Record) → drop at s ≡ strings_bytes cs ++ u → Strings cs → r.entries + length cs ≡ n
      → n ≤ slots → at + length (strings_bytes cs) ≡ last → judge_of s slots room r (pieces_of at cs) ≡ ok (record { found = with_entries r n; ends = last })
  unfolding pieces_of judge_of strings_bytes string_bytes text_taken not_text entered
  judge_strings [] at slots room n last r e g a b l = rw (sym a ∙ add-zero r.entries, sym l ∙ add-zero at)
  judge_strings (c ∷ cs) at slots room n last r e g a b l =
      let w = first_at c cs at e in
      let l' = simp (length-append, length_number, length-replicate) at l in
      simp (w.contents, text_is c g.0, lt-leb slots r.entries (omega arith))
      (judge_strings cs (at + 8 + length c + pad_of (length c)) slots room n last (with_entries r (r.entries + 1)) w.after g.2 (omega arith) b (omega arith))

  texts_strings : (cs : List (List ℕ)) (at i : ℕ) (es spare : List ℕ) → drop at s ≡ strings_bytes cs ++ u → Strings cs
      → drop (2 * i) es ≡ entries_of (pieces_of at cs) ++ spare → texts_from s es (length cs) i ≡ ok cs
  unfolding pieces_of entries_of texts_from text_at
  texts_strings [] at i es spare e g d = refl
  texts_strings (c ∷ cs) at i es spare e g d =
      let n = length c in
      let w = first_at c cs at e in
      let es' = entries_of (pieces_of (at + 8 + n + pad_of n) cs) ++ spare in
      let k : 2 * (i + 1) ≡ 2 * i + 2 = omega arith in
      let d' : drop (2 * (i + 1)) es ≡ es' = rw k (past es (2 * i) 2 ((at + 8) ∷ n ∷ []) es' d refl) in
      simp (view_at s es i (at + 8) n es' d w.fits, w.contents, text_is c g.0, texts_strings cs (at + 8 + n + pad_of n) (i + 1) es spare w.after g.2 d')

  -- starts and lengths lie in the stream
  entries_low : (cs : List (List ℕ)) (at i : ℕ) → drop at s ≡ strings_bytes cs ++ u → get_or (entries_of (pieces_of at cs)) i 0 ≤ length s
  unfolding pieces_of entries_of
  entries_low [] at i e = omega arith
  entries_low (c ∷ cs) at zero e = let w = (first_at c cs at e).fits in omega arith
  entries_low (c ∷ cs) at (suc zero) e = let w = (first_at c cs at e).fits in omega arith
  entries_low (c ∷ cs) at (suc (suc i)) e = entries_low cs (at + 8 + length c + pad_of (length c)) i (first_at c cs at e).after

-- ---- demand 2, there: wherever the bytes stand in a stream. A string
module _ (s : List ℕ) (at : ℕ) (c rest : List ℕ) (e : drop at s ≡ string_bytes c ++ rest) (small : length c ≤ limit) where
  alone : drop at s ≡ strings_bytes (c ∷ []) ++ rest
  unfolding strings_bytes
  alone = rw append-nil e

  here : StringAt s at c (replicate (pad_of (length c)) 0) rest
  unfolding strings_bytes
  here = first_at s rest c [] at alone

  string_ends : at + 8 + length c + pad_of (length c) ≡ at + length (string_bytes c)
  unfolding string_bytes
  string_ends = simp (length-append, length_number, length-replicate) (omega arith)

  string_pieces : (m : Role) → run (field (str m)) s at ≡ text m (at + 8) (length c) (end (at + length (string_bytes c)))
  unfolding layout string_bytes
  string_pieces m =
      let n = length c in
      complete (says_text m at (λ u. stop) c (replicate (pad_of n) 0) [] (end (at + 8 + n + pad_of n)) small (length-replicate (pad_of n) 0) (says_end (at + 8 + n + pad_of n)))
      s rest (rw append-nil e)
      ∙ ap (λ (o : ℕ). text m (at + 8) n (end o)) string_ends

  -- the length that is read is that of the contents, and these are read
  pub string_number : number_at s at ≡ length c
  unfolding string_bytes
  string_number = sym (head_number s at (length c) _ (simp append_assoc at e) (omega arith))

  pub string_shown : take (length c) (drop (at + 8) s) ≡ c
  string_shown = here.contents

  string_judged : read_string s at ≡ judge_of s 1 0 blank (text kept (at + 8) (length c) (end (at + length (string_bytes c))))
  string_judged = ap (judge_of s 1 0 blank) (string_pieces kept)

  -- any bytes are passed to their end; text reads to its end
  pub string_skipped_lem : skip_string s at ≡ ok (at + length (string_bytes c))
  unfolding skip_of
  string_skipped_lem = rw (string_pieces passed)

  pub string_there : Text c → read_string s at ≡ ok (record { found = with_entries blank 1; ends = at + length (string_bytes c) })
  unfolding judge_of text_taken not_text entered
  string_there t = string_judged ∙ simp (string_shown, text_is c t)

-- a set
module _ (s : List ℕ) (at : ℕ) (cs : List (List ℕ)) (rest : List ℕ) (e : drop at s ≡ set_bytes cs ++ rest) (g : Strings cs) (h : length cs < 18446744073709551616) where
  counted : drop at s ≡ number_bytes (length cs) ++ (strings_bytes cs ++ rest)
  unfolding set_bytes
  counted = simp append_assoc at e

  after_count : drop (at + 8) s ≡ strings_bytes cs ++ rest
  after_count = past s at 8 (number_bytes (length cs)) (strings_bytes cs ++ rest) counted (length_number (length cs))

  set_pieces_lem : set_pieces s at ≡ number (as_count 0) at (length cs) (pieces_of (at + 8) cs)
  unfolding layout set_bytes
  set_pieces_lem =
      complete (says_number (as_count 0) (length cs) at (λ n. units kept 0 n (λ u. stop)) (strings_bytes cs) (pieces_of (at + 8) cs) h (says_strings cs (at + 8) g)) s rest e

  -- the number of strings is read, and with a slot for each the set reads to its end
  pub set_number : number_at s at ≡ length cs
  set_number = sym (head_number s at (length cs) (strings_bytes cs ++ rest) counted h)

  pub set_there : (slots : ℕ) → length cs ≤ slots
      → read_string_set s at slots ≡ ok (record { found = with_entries (with_count blank 0 (length cs)) (length cs); ends = at + length (set_bytes cs) })
  unfolding judge_of noted set_bytes
  set_there slots l =
      rw set_pieces_lem
      (judge_strings s rest cs (at + 8) slots 0 (length cs) (at + length (set_bytes cs)) (with_count blank 0 (length cs)) after_count g (omega arith) l
      (simp (length-append, length_number) (omega arith)))

  -- its entries, of which each number lies in the stream
  pub set_entries_lem : length (entries_of (set_pieces s at)) ≡ 2 * length cs
  unfolding entries_of
  set_entries_lem = rw set_pieces_lem (entries_twice cs (at + 8))

  pub set_low : (i : ℕ) → get_or (entries_of (set_pieces s at)) i 0 ≤ length s
  unfolding entries_of
  set_low i = rw set_pieces_lem (entries_low s rest cs (at + 8) i after_count)

  -- and by its entries it has these strings, whatever follows the entries
  pub set_shown : (spare : List ℕ) → texts_of s (entries_of (set_pieces s at) ++ spare) (length cs) ≡ ok cs
  unfolding texts_of entries_of
  set_shown spare =
      let es = entries_of (pieces_of (at + 8) cs) in
      let z = entries_twice cs (at + 8) in
      let l : length cs ≤ length (es ++ spare) / 2 = simp length-append (omega arith) in
      rw (set_pieces_lem, le-leb (length cs) (length (es ++ spare) / 2) l) (texts_strings s rest cs (at + 8) 0 (es ++ spare) spare after_count g refl)

-- ---- demand 2, back
pub zeros : (s : List ℕ) (at n : ℕ) (pad l : List ℕ) → drop at s ≡ pad ++ l → length pad ≡ n → Zeros s at (at + n) → replicate n 0 ≡ pad
zeros s at n pad l e g z =
    ext_get_or 0 (replicate n 0) pad (length-replicate n 0 ∙ sym g)
    (λ i h.
    let k : i < n = rw length-replicate at h in
    get_or-replicate n i 0 0 k ∙ sym (z (at + i) (omega arith) (omega arith)) ∙ sym (get_or-drop at s i 0) ∙ ap (λ (o : List ℕ). get_or o i 0) e
    ∙ get_or-append pad l 0 i (omega arith))

pub not_refused : {A : Type 0} (b : Bool) (which place : ℕ) (o : Result A) (x : A) → pick b (refused which place 0) o ≡ ok x → (b ≡ false) × (o ≡ ok x)
not_refused true which place o x h = absurd (never_both h)
not_refused false which place o x h = (refl, h)

taken_text : (s : List ℕ) (slots : ℕ) (r a : Record) (start len : ℕ) → text_taken s slots r kept start len ≡ ok a → is_text (take len (drop start s)) ≡ true
unfolding text_taken not_text
taken_text s slots r a start len h = not-false (is_text (take len (drop start s))) (not_refused (not_text s kept start len) bad_text (text_end s start len) _ a h).0

strings_back : (s u : List ℕ) (slots room n at : ℕ) (b : List ℕ) (p : Pieces) (r : Record) (x : Ended) → Says (units kept 0 n (λ u. stop)) at b p → drop at s ≡ b ++ u
    → ZeroPadded s p → judge_of s slots room r p ≡ ok x → (cs : List (List ℕ)) × (strings_bytes cs ≡ b) × (length cs ≡ n) × Strings cs
unfolding units judge_of ZeroPadded strings_bytes string_bytes
strings_back s u slots room zero at b p r x (says_end at') e z h = ([], refl, refl, tt)
strings_back s u slots room (suc n) at b p r x (says_text m at' k c pad b' p' l g y) e z h =
    let w = string_at_lem s at c pad (b' ++ u) (simp append_assoc at e) g in
    let o = onward_ok (text_taken s slots r kept (at + 8) (length c)) (λ r'. judge_of s slots room r' p') x h in
    let i = strings_back s u slots room n (at + 8 + length c + pad_of (length c)) b' p' o.0 x y w.after z.1 o.2 in
    let t = rw w.contents at (taken_text s slots r o.0 (at + 8) (length c) o.1) in
    let d = zeros s (at + 8 + length c) (pad_of (length c)) pad (b' ++ u) w.padding g z.0 in
    (c ∷ i.0, simp (append_assoc, d, i.1), ap suc i.2, (is_text_lem c t, l, i.3))

ended : {at : ℕ} {b : List ℕ} {p : Pieces} → Says stop at b p → b ≡ []
ended (says_end at) = refl

module _ (s : List ℕ) (at : ℕ) where
  string_again : (m : Role) (b u : List ℕ) (p : Pieces) → Says (field (str m)) at b p → drop at s ≡ b ++ u → Zeros s (at + 8 + number_at s at) (at + length b)
      → (length (contents_at s at) ≤ limit) × (string_bytes (contents_at s at) ≡ b)
  unfolding layout string_bytes
  string_again m b u p (says_text m' at' k c pad b' p' l g y) e z =
      let f : b' ≡ [] = ended y in
      let e' : drop at s ≡ number_bytes (length c) ++ (c ++ (pad ++ u)) = simp (append_assoc, f) at e in
      let n = head_number s at (length c) (c ++ (pad ++ u)) e' (omega arith) in
      let w = string_at_lem s at c pad u e' g in
      let size : at + length (number_bytes (length c) ++ (c ++ (pad ++ b'))) ≡ at + 8 + length c + pad_of (length c) = simp (length-append, length_number, f) (omega arith) in
      let d = zeros s (at + 8 + length c) (pad_of (length c)) pad u w.padding g (λ i f t. z i (omega arith) (omega arith)) in
      simp (← n, w.contents, d, f, append-nil) (l, refl)

  set_again : (slots : ℕ) (b u : List ℕ) (p : Pieces) (r : Record) (x : Ended) → Says (field (set kept (as_count 0))) at b p → drop at s ≡ b ++ u → ZeroPadded s p
      → judge_of s slots 0 r p ≡ ok x → (cs : List (List ℕ)) × Strings cs × (length cs ≡ number_at s at) × (set_bytes cs ≡ b)
  unfolding layout ZeroPadded judge_of set_bytes
  set_again slots b u p r x (says_number i n at' k b' p' l y) e z q =
      let e' : drop at s ≡ number_bytes n ++ (b' ++ u) = simp append_assoc at e in
      let i = strings_back s u slots 0 n (at + 8) b' p' (noted r (as_count 0) n) x y (past s at 8 (number_bytes n) (b' ++ u) e' (length_number n)) z q in
      (i.0, i.3, i.2 ∙ head_number s at n (b' ++ u) e' l, simp (i.1, i.2))

  module _ (bytes : Bytes s) where
    ends_there : {t : Tree} {e : ℕ} {p : Pieces} (y : Begins t s at e p) → drop at s ≡ y.these ++ drop e s
    ends_there y = y.splits ∙ ap (λ (o : List ℕ). y.these ++ o) (sym (past s at (length y.these) y.these y.rest y.splits refl) ∙ ap (λ (n : ℕ). drop n s) y.ends)

    -- a string that is passed, with zero padding: its bytes are those that are written of its contents
    pub skipped_back : (m : Role) (e : ℕ) → skip_of (run (field (str m)) s at) ≡ ok e → Zeros s (at + 8 + number_at s at) e → StringBack s at e
    skipped_back m e q z =
        let y = sound s bytes (field (str m)) at e q in
        let a = string_again m y.these y.rest _ y.says y.splits (rw y.ends z) in
        record {
          small = a.0;
          stands = ends_there y ∙ ap (λ (o : List ℕ). o ++ drop e s) (sym a.1);
          size = ap (λ (o : List ℕ). at + length o) a.1 ∙ y.ends;
        }

    -- one that reads: and its contents are text
    pub string_back : (x : Ended) → read_string s at ≡ ok x → Zeros s (at + 8 + number_at s at) x.ends → StringBack s at x.ends × Text (contents_at s at)
    unfolding judge_of
    string_back x q z =
        let a = skipped_back kept x.ends (judge_read s 1 0 blank (run (field (str kept)) s at) x q).skips z in
        let c = contents_at s at in
        let n = string_number s at c (drop x.ends s) a.stands a.small in
        let o = rw (string_pieces s at c (drop x.ends s) a.stands a.small kept) at q in
        let t = taken_text s 1 blank _ (at + 8) (length c) (onward_ok (text_taken s 1 blank kept (at + 8) (length c)) _ x o).1 in
        (a, is_text_lem c (rw (← n) at t))

    -- a set that reads, with zero padding: its bytes are those that are written of its own entries
    pub set_back : (slots : ℕ) (x : Ended) → read_string_set s at slots ≡ ok x → ZeroPadded s (set_pieces s at) → SetBack s at slots x.ends
    set_back slots x q z =
        let j = judge_read s slots 0 blank (set_pieces s at) x q in
        let y = sound s bytes (field (set kept (as_count 0))) at x.ends j.skips in
        let a = set_again slots y.these y.rest (set_pieces s at) blank x y.says y.splits z q in
        let d = ends_there y ∙ ap (λ (o : List ℕ). o ++ drop x.ends s) (sym a.3) in
        let h : length a.0 < 18446744073709551616 = omega (arith, a.2, number_small s at bytes) in
        let k = set_entries_lem s at a.0 (drop x.ends s) d a.1 h in
        let f = (j.fits (omega arith) (omega arith)).0 in
        record {
          these = a.0;
          fine = a.1;
          many = a.2;
          fits = omega (arith, k, f, entries_length (set_pieces s at));
          shown = λ spare. ap (texts_of s (entries_of (set_pieces s at) ++ spare)) (sym a.2) ∙ set_shown s at a.0 (drop x.ends s) d a.1 h spare;
          stands = d;
          size = ap (λ (o : List ℕ). at + length o) a.3 ∙ y.ends;
        }
